use Rattle.std.proofs.Common.{◌≡◌, List, length, refl, sym, ap, subst, ◌∙◌, arith}
use Rattle.std.specs.Vec.{with_items}
use Rattle.std.specs.List.{list_any}
use Rattle.std.proofs.lemmas.List.{with_items_is}
use Rattle.coco_recover.proofs.Resting.{stands_still}
use Rattle.coco_ast.specs.History.{RisesAbove}
use Rattle.coco_entry.specs.declared.layout.Layout.{Layout}
use Rattle.coco_letters.specs.declared.voter.Voter.{Voter}
use Rattle.coco_log.proofs.OnlyRead.{read_first}
use Rattle.coco_members.specs.AtRest.{NoneLost}
use Rattle.coco_members.specs.declared.members.Members.{Members}
use Rattle.coco_store.specs.Rules.{commit_epochs}
use Rattle.coco_vote.specs.Taking.{HaveLogs}
use Rattle.coco_lost.specs.Reading.{AllStand, AreOf, IsLostFile, IsLostRefused}
use Rattle.coco_lost.proofs.MembersLemmas.{all_have, any_lost, epochs_rise, members_after, none_lost, rests_after, same_epochs, same_known}
use Rattle.coco_lost.proofs.ReadingLemmas.{both_so, have_maps_after, maps_after, ok_so, reads_of, reads_same}
use Rattle.coco_lost.proofs.reading.read_lost.Goals as goal

-- ---- no node is lost

pub returns-then-not-one_is_lost-clause-none : goal.returns-then-not-one_is_lost-clause-none
returns-then-not-one_is_lost-clause-none g c = none_lost c.args.members.now.voters.items
    (ap (list_any (λ (voter : Voter). voter.is_lost)) (sym c.as_slice.ensures.value) ∙ sym c.one_is_lost.ensures ∙ c.if-not-one_is_lost.true)

pub returns-then-not-one_is_lost-clause-reads : goal.returns-then-not-one_is_lost-clause-reads
returns-then-not-one_is_lost-clause-reads g c = reads_same c.args.members.now.voters.items c.args.members.now.tables

pub returns-then-not-one_is_lost-clause-are : goal.returns-then-not-one_is_lost-clause-are
returns-then-not-one_is_lost-clause-are g c = λ files. c.requires.are

pub returns-then-not-one_is_lost-clause-maps : goal.returns-then-not-one_is_lost-clause-maps
returns-then-not-one_is_lost-clause-maps g c = λ maps has. (maps, has)

pub returns-then-not-one_is_lost-clause-rest : goal.returns-then-not-one_is_lost-clause-rest
returns-then-not-one_is_lost-clause-rest g c = λ next sent files rest. rest

pub returns-then-not-one_is_lost-clause-files : goal.returns-then-not-one_is_lost-clause-files
returns-then-not-one_is_lost-clause-files g c = λ files d told good known knows are.
    let k : Members = c.args.members.now in
    all_have d k.voters.items k.tables (c.requires.are.voters ∙ sym c.requires.are.layout) c.requires.are.whole are
    (none_lost k.voters.items (ap (list_any (λ (voter : Voter). voter.is_lost)) (sym c.as_slice.ensures.value) ∙ sym c.one_is_lost.ensures ∙ c.if-not-one_is_lost.true))

pub returns-then-not-one_is_lost-clause-read : goal.returns-then-not-one_is_lost-clause-read
returns-then-not-one_is_lost-clause-read g c = read_first g.H.Host g.met.H.Host.only_now _

-- ---- out of memory

pub returns-in_err-epochs-clause-untouched : goal.returns-in_err-epochs-clause-untouched
returns-in_err-epochs-clause-untouched g c = λ none.
    absurd (any_lost c.args.members.now.voters.items (ap (list_any (λ (voter : Voter). voter.is_lost)) (sym c.as_slice.ensures.value) ∙ sym c.one_is_lost.ensures ∙ c.if-not-one_is_lost.false) none)

pub returns-in_err-epochs-clause-reads : goal.returns-in_err-epochs-clause-reads
returns-in_err-epochs-clause-reads g c = reads_same c.args.members.now.voters.items c.args.members.now.tables

pub returns-in_err-epochs-clause-are : goal.returns-in_err-epochs-clause-are
returns-in_err-epochs-clause-are g c = λ files. c.requires.are

pub returns-in_err-epochs-clause-maps : goal.returns-in_err-epochs-clause-maps
returns-in_err-epochs-clause-maps g c = λ maps has. (maps, has)

pub returns-in_err-epochs-clause-rest : goal.returns-in_err-epochs-clause-rest
returns-in_err-epochs-clause-rest g c = λ next sent files rest. rest

pub returns-in_err-epochs-clause-read : goal.returns-in_err-epochs-clause-read
returns-in_err-epochs-clause-read g c = read_first g.H.Host g.met.H.Host.only_now _

-- ---- each lost node was read

pub read_each-requires-clause-few : goal.read_each-requires-clause-few
read_each-requires-clause-few g c =
    let lent : length c.as_mut_slice.result.now ≡ length c.args.members.now.voters.items = ap (λ (xs : List Voter). length xs) c.as_mut_slice.ensures.value in
    omega (arith, lent, c.requires.are.voters, c.requires.are.few)

pub read_each-requires-clause-nodes : goal.read_each-requires-clause-nodes
read_each-requires-clause-nodes g c =
    let lent : length c.as_mut_slice.result.now ≡ length c.args.members.now.voters.items = ap (λ (xs : List Voter). length xs) c.as_mut_slice.ensures.value in
    lent ∙ c.requires.are.voters ∙ sym c.requires.are.layout

pub read_each-requires-clause-rises : goal.read_each-requires-clause-rises
read_each-requires-clause-rises g c =
    subst (RisesAbove c.args.members.now.tables.layout.base_epoch) (sym c.as_slice-2.ensures.value) (epochs_rise c.args.members.now c.in_ok-epochs.epochs.items c.requires.can c.in_ok-epochs.ensures.rising c.in_ok-epochs.ensures.committed)

pub returns-clause-none : goal.returns-clause-none
returns-clause-none g c =
    let k : Members = c.args.members.now in
    let back = with_items_is k.voters c.read_each.new.voters (c.read_each.auto.voters ∙ c.as_mut_slice.ensures.len) in
    ok_so c.read_each.result c.read_each.ensures.none (λ none. subst NoneLost (sym back) none)

pub returns-clause-untouched : goal.returns-clause-untouched
returns-clause-untouched g c = λ none.
    absurd (any_lost c.args.members.now.voters.items (ap (list_any (λ (voter : Voter). voter.is_lost)) (sym c.as_slice.ensures.value) ∙ sym c.one_is_lost.ensures ∙ c.if-not-one_is_lost.false) none)

pub returns-clause-reads : goal.returns-clause-reads
returns-clause-reads g c =
    let k : Members = c.args.members.now in
    let back = with_items_is k.voters c.read_each.new.voters (c.read_each.auto.voters ∙ c.as_mut_slice.ensures.len) in
    reads_of c.as_mut_slice.result.now k.voters.items c.read_each.new.voters (with_items k.voters c.read_each.new.voters).items k.tables c.read_each.new.tables c.as_mut_slice.ensures.value back c.read_each.ensures.reads

pub returns-clause-are : goal.returns-clause-are
returns-clause-are g c = λ files.
    let k : Members = c.args.members.now in
    let back = with_items_is k.voters c.read_each.new.voters (c.read_each.auto.voters ∙ c.as_mut_slice.ensures.len) in
    members_after k (record k { voters = with_items k.voters c.read_each.new.voters; tables = c.read_each.new.tables })
    (reads_of c.as_mut_slice.result.now k.voters.items c.read_each.new.voters (with_items k.voters c.read_each.new.voters).items k.tables c.read_each.new.tables c.as_mut_slice.ensures.value back c.read_each.ensures.reads)
    refl refl refl files c.requires.are

pub returns-clause-maps : goal.returns-clause-maps
returns-clause-maps g c = λ maps has.
    let k : Members = c.args.members.now in
    (maps_after c.as_mut_slice.result.now c.read_each.new.voters k.tables c.read_each.new.tables c.read_each.ensures.reads maps has, have_maps_after c.as_mut_slice.result.now c.read_each.new.voters k.tables c.read_each.new.tables c.read_each.ensures.reads maps has)

pub returns-clause-rest : goal.returns-clause-rest
returns-clause-rest g c = λ next sent files rest.
    let k : Members = c.args.members.now in
    let back = with_items_is k.voters c.read_each.new.voters (c.read_each.auto.voters ∙ c.as_mut_slice.ensures.len) in
    rests_after k (record k { voters = with_items k.voters c.read_each.new.voters; tables = c.read_each.new.tables })
    (reads_of c.as_mut_slice.result.now k.voters.items c.read_each.new.voters (with_items k.voters c.read_each.new.voters).items k.tables c.read_each.new.tables c.as_mut_slice.ensures.value back c.read_each.ensures.reads)
    refl refl refl files next sent rest

pub returns-clause-files : goal.returns-clause-files
returns-clause-files g c =
    let k : Members = c.args.members.now in
    let voters : List Voter = c.read_each.new.voters in
    let tables = c.read_each.new.tables in
    let back = with_items_is k.voters voters (c.read_each.auto.voters ∙ c.as_mut_slice.ensures.len) in
    let did = c.read_each.ensures in
    both_so c.read_each.result did.files did.none (λ ok none files d told good known knows are.
    let epochs = same_known k d files c.args.procs.now c.as_slice-2.result.now c.in_ok-epochs.epochs.items c.args.base.now c.as_slice-2.ensures.value c.requires.can c.in_ok-epochs.ensures.rising c.in_ok-epochs.ensures.committed good.holds known knows in
    let of : AreOf d voters tables = ok files d told good epochs (subst (λ (xs : List Voter). AreOf d xs k.tables) (sym c.as_mut_slice.ensures.value) are) in
    let count : length voters ≡ tables.layout.nodes =
    did.reads.voter_count ∙ ap (λ (xs : List Voter). length xs) c.as_mut_slice.ensures.value ∙ c.requires.are.voters ∙ sym c.requires.are.layout ∙ ap (λ (l : Layout). l.nodes) (sym did.reads.layout) in
    let both = all_have d voters tables count (did.reads.whole c.requires.are.whole) of none in
    (both.0, subst (HaveLogs d) (sym back) both.1))

pub returns-clause-stand : goal.returns-clause-stand
returns-clause-stand g c = λ stand.
    let k : Members = c.args.members.now in
    let back = with_items_is k.voters c.read_each.new.voters (c.read_each.auto.voters ∙ c.as_mut_slice.ensures.len) in
    subst (λ (xs : List Voter). AllStand xs (g.H.Host.reads c.read_each.new.host) (g.H.Host.may_leave c.read_each.new.host)) (sym back)
    (c.read_each.ensures.stand (subst (λ (xs : List Voter). AllStand xs (g.H.Host.reads c.args.host.now) (g.H.Host.may_leave c.args.host.now)) (sym c.as_mut_slice.ensures.value) stand))

pub returns-clause-others : goal.returns-clause-others
returns-clause-others g c = λ log.
    stands_still log (g.H.Host.reads c.args.host.now) (g.H.Host.reads c.read_each.new.host) (g.H.Host.may_leave c.args.host.now) (g.H.Host.may_leave c.read_each.new.host) c.read_each.ensures.read.same c.read_each.ensures.read.crash

pub returns-clause-here : goal.returns-clause-here
returns-clause-here g c file at is =
    subst (λ (xs : List Voter). IsLostFile c.args.members.now.tables.layout xs file) c.as_mut_slice.ensures.value (c.read_each.ensures.here file at is)

pub returns-clause-refused : goal.returns-clause-refused
returns-clause-refused g c file at files s commits is told layout tree rises knows =
    let k : Members = c.args.members.now in
    subst (λ (xs : List Voter). IsLostRefused k.tables.layout xs s commits file (files file) at) c.as_mut_slice.ensures.value
    (c.read_each.ensures.refused file at files s commits is told layout tree
    (same_epochs k c.as_slice-2.result.now c.in_ok-epochs.epochs.items (commit_epochs commits) c.as_slice-2.ensures.value c.requires.can c.in_ok-epochs.ensures.rising c.in_ok-epochs.ensures.committed rises knows))

pub returns-clause-kept : goal.returns-clause-kept
returns-clause-kept g c file at files d told holds known knows =
    let k : Members = c.args.members.now in
    c.read_each.ensures.kept file at files d told holds
    (same_known k d files c.args.procs.now c.as_slice-2.result.now c.in_ok-epochs.epochs.items c.args.base.now c.as_slice-2.ensures.value c.requires.can c.in_ok-epochs.ensures.rising c.in_ok-epochs.ensures.committed holds known knows)
