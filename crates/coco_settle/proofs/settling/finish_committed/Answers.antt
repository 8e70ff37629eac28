use Rattle.std.proofs.Common.{◌≡◌, ◌<◌, ◌≤◌, ◌^◌, ◌+◌, Bool, true, false, ℕ, List, [], length, Some, refl, sym, ap, subst, ◌∙◌, arith}
use Rattle.std.specs.Prelude.{replicate}
use Rattle.std.specs.List.{slice_get}
use Rattle.std.specs.Vec.{with_items}
use Rattle.std.proofs.lemmas.List.{get_or-replicate, with_items_is}
use Rattle.coco_chief.specs.Chief.{Chief}
use Rattle.coco_chief.specs.Shown.{chief_of}
use Rattle.coco_finish.specs.declared.tables.NodeTables.{NodeTables}
use Rattle.coco_finish.specs.Exchanges.{commit_of}
use Rattle.coco_finish.specs.Finishing.{is_behind, HasYetToHear}
use Rattle.coco_finish.proofs.ExchangeLemmas.{fresh_more}
use Rattle.coco_letters.specs.Worlds.{GoesBetween, GoesOn, SameEntries, Scene}
use Rattle.coco_letters.specs.declared.voter.Voter.{Voter}
use Rattle.coco_letters.proofs.WorldLemmas.{between_on, between_then}
use Rattle.coco_members.specs.AtRest.{primaries_of, AreAtRest}
use Rattle.coco_members.specs.declared.members.Members.{Members}
use Rattle.coco_net.specs.declared.letter.Posted.{Posted}
use Rattle.coco_node.specs.Node.{Node}
use Rattle.coco_vote.specs.Taking.{StayWhole}
use Rattle.coco_vote.proofs.StepLemmas.{same_then}
use Rattle.coco_settle.specs.Settling.{MarkStop}
use Rattle.coco_letters.proofs.TellingLemmas.{adds_same, adds_then, adds_settling}
use Rattle.coco_settle.proofs.MemberLemmas.{rest_finish, rest_stopped}
use Rattle.coco_settle.proofs.NodeLemmas.{can_voted, marks_stopped, yet_voted}
use Rattle.coco_settle.proofs.RestLemmas.{marked_stand, shards_finish, voted_in_step}
use Rattle.coco_vote.proofs.LetterLemmas.{letters_sent, letters_then}
use Rattle.coco_settle.proofs.settling.finish_committed.Goals as goal

pub finish-requires-clause-told : goal.finish-requires-clause-told
finish-requires-clause-told g c = λ n lt down.
    fresh_more (g.N.Net.sent c.args.net.now) (g.N.Net.fresh c.args.net.now) (g.N.Net.sent c.stop_last.new.net) (g.N.Net.fresh c.stop_last.new.net) c.in_ok-stop_last.ensures.sends.fresh (commit_of n c.args.epoch) (c.requires.told n lt down)

-- each of so many nodes is marked
marked_of : (marks now : List Bool) (count nodes : ℕ) → now ≡ marks → marks ≡ replicate count true → nodes ≤ count → (n : ℕ) → n < nodes → is_behind now n ≡ true
marked_of marks now count nodes same is le n lt = subst (λ (bs : List Bool). is_behind bs n ≡ true) (sym (same ∙ is)) (get_or-replicate count n true false (omega (arith, lt, le)))

pub returns-clause-rest : goal.returns-clause-rest
returns-clause-rest g c = λ m stand.
    let k : Members = c.args.members.now in
    let t : NodeTables = record { layout = k.tables.layout; shards = k.tables.shards; copies = k.tables.copies; behind = with_items k.tables.behind c.mark_all.new.marks } in
    let mid : Members = record { chief = k.chief; log = k.log; cores = with_items k.cores c.stop_last.new.cores; voters = with_items k.voters c.stop_last.new.voters; tables = t } in
    let after : Members = record { chief = c.finish.new.chief; log = k.log; cores = with_items (with_items k.cores c.stop_last.new.cores) c.finish.new.cores; voters = with_items k.voters c.stop_last.new.voters; tables = c.finish.new.tables } in
    let sent = g.N.Net.sent in
    let e : ℕ = c.args.epoch in
    let fits : c.args.epoch < 2 ^ 64 = omega (arith, c.ranges.epoch.fits) in
    let marks_are : (with_items k.tables.behind c.mark_all.new.marks).items ≡ c.mark_all.new.marks = with_items_is k.tables.behind c.mark_all.new.marks (c.mark_all.auto.marks ∙ c.as_mut_slice.ensures.len) in
    let counted : length c.as_mut_slice.result.now ≡ length k.tables.behind.items = ap (λ (bs : List Bool). length bs) c.as_mut_slice.ensures.value in
    let marked : (n : ℕ) → n < k.tables.layout.nodes → is_behind t.behind.items n ≡ true =
    marked_of c.mark_all.new.marks t.behind.items (length c.as_mut_slice.result.now) k.tables.layout.nodes marks_are c.mark_all.ensures (omega (arith, counted, c.requires.members.are.behind, c.requires.members.are.layout)) in
    let yet : (n : ℕ) (core : Node) → slice_get c.as_mut_slice-2.result.now n ≡ Some core → HasYetToHear e core =
    subst (λ (cs : List Node). (n : ℕ) (core : Node) → slice_get cs n ≡ Some core → HasYetToHear e core) (sym c.as_mut_slice-2.ensures.value)
    (yet_voted e k.cores.items c.requires.members.voting c.requires.members.newest) in
    let stops : AreAtRest (c.args.epoch + 1) (g.N.Net.sent c.stop_last.new.net) mid =
    rest_stopped e k mid (sent c.args.net.now) (sent c.stop_last.new.net) m c.as_mut_slice-2.result.now c.stop_last.new.cores c.as_mut_slice-3.result.now c.stop_last.new.voters
    (g.P.Power.stopped c.args.power.now) (g.P.Power.stopped c.stop_last.new.power) c.as_mut_slice-2.ensures.value c.as_mut_slice-3.ensures.value
    (with_items_is k.cores c.stop_last.new.cores (c.stop_last.auto.cores ∙ c.as_mut_slice-2.ensures.len)) (with_items_is k.voters c.stop_last.new.voters (c.stop_last.auto.voters ∙ c.as_mut_slice-3.ensures.len))
    c.stop_last.auto.cores c.stop_last.auto.voters c.requires.members refl refl refl
    (ap (λ (bs : List Bool). length bs) marks_are ∙ c.mark_all.auto.marks ∙ counted) c.requires.members.are.whole c.in_ok-stop_last.ensures.stops
    (c.in_ok-stop_last.ensures.can (can_voted e c.as_mut_slice-2.result.now yet))
    (c.in_ok-stop_last.ensures.in_step (chief_of k.chief) t.behind.items
    (voted_in_step e c.as_mut_slice-2.result.now (chief_of k.chief) (sent c.args.net.now) t.behind.items fits yet c.requires.members.finished c.requires.members.none))
    (marked_stand (primaries_of k.tables.layout) m t.behind.items k.tables.shards.items [] marked stand) c.in_ok-stop_last.ensures.said in
    rest_finish (c.args.epoch + 1) e mid after (sent c.stop_last.new.net) (sent c.stop_last.new.net) (sent c.finish.new.net) (g.N.Net.given c.stop_last.new.net) (g.N.Net.given c.finish.new.net)
    c.as_mut_slice-4.result.now c.finish.new.cores c.as_mut_slice-4.ensures.value (with_items_is (with_items k.cores c.stop_last.new.cores) c.finish.new.cores (c.finish.auto.cores ∙ c.as_mut_slice-4.ensures.len)) c.finish.auto.cores
    stops (sym c.requires.members.last) refl refl c.in_ok-_all.ensures.done.finish c.finish.ensures.keep.whole c.finish.ensures.keep.behind c.in_ok-_all.ensures.done.can c.in_ok-_all.ensures.done.in_step c.in_ok-_all.ensures.done.hears
    (adds_same (sent c.stop_last.new.net)) c.in_ok-_all.ensures.done.said

pub returns-clause-shards : goal.returns-clause-shards
returns-clause-shards g c = λ m stand.
    let k : Members = c.args.members.now in
    let t : NodeTables = record { layout = k.tables.layout; shards = k.tables.shards; copies = k.tables.copies; behind = with_items k.tables.behind c.mark_all.new.marks } in
    let marks_are : (with_items k.tables.behind c.mark_all.new.marks).items ≡ c.mark_all.new.marks = with_items_is k.tables.behind c.mark_all.new.marks (c.mark_all.auto.marks ∙ c.as_mut_slice.ensures.len) in
    let counted : length c.as_mut_slice.result.now ≡ length k.tables.behind.items = ap (λ (bs : List Bool). length bs) c.as_mut_slice.ensures.value in
    let marked : (n : ℕ) → n < k.tables.layout.nodes → is_behind t.behind.items n ≡ true =
    marked_of c.mark_all.new.marks t.behind.items (length c.as_mut_slice.result.now) k.tables.layout.nodes marks_are c.mark_all.ensures (omega (arith, counted, c.requires.members.are.behind, c.requires.members.are.layout)) in
    shards_finish c.args.epoch c.as_mut_slice-4.result.now c.finish.new.cores t c.finish.new.tables c.in_ok-_all.ensures.done.finish m c.finish.ensures.keep.whole (marked_stand (primaries_of k.tables.layout) m t.behind.items k.tables.shards.items [] marked stand)

pub returns-clause-map : goal.returns-clause-map
returns-clause-map g c = λ m stand.
    let k : Members = c.args.members.now in
    let marks_are : (with_items k.tables.behind c.mark_all.new.marks).items ≡ c.mark_all.new.marks = with_items_is k.tables.behind c.mark_all.new.marks (c.mark_all.auto.marks ∙ c.as_mut_slice.ensures.len) in
    let counted : length c.as_mut_slice.result.now ≡ length k.tables.behind.items = ap (λ (bs : List Bool). length bs) c.as_mut_slice.ensures.value in
    let marked : (n : ℕ) → n < k.tables.layout.nodes → is_behind (with_items k.tables.behind c.mark_all.new.marks).items n ≡ true =
    marked_of c.mark_all.new.marks (with_items k.tables.behind c.mark_all.new.marks).items (length c.as_mut_slice.result.now) k.tables.layout.nodes marks_are c.mark_all.ensures (omega (arith, counted, c.requires.members.are.behind, c.requires.members.are.layout)) in
    c.finish.ensures.keep.map m (marked_stand k.tables.layout m (with_items k.tables.behind c.mark_all.new.marks).items k.tables.shards.items k.tables.copies.items marked stand)

pub returns-clause-stops : goal.returns-clause-stops
returns-clause-stops g c = λ n voter at.
    let k : Members = c.args.members.now in
    let many : length c.as_mut_slice-3.result.now ≡ length c.as_mut_slice-2.result.now =
    ap (λ (vs : List Voter). length vs) c.as_mut_slice-3.ensures.value ∙ c.requires.members.are.voters ∙ sym (ap (λ (cs : List Node). length cs) c.as_mut_slice-2.ensures.value) in
    subst (λ (vs : List Voter). MarkStop n (g.P.Power.stopped c.args.power.now) (g.P.Power.stopped c.stop_last.new.power) voter vs)
    (sym (with_items_is k.voters c.stop_last.new.voters (c.stop_last.auto.voters ∙ c.as_mut_slice-3.ensures.len)))
    (marks_stopped c.args.epoch (g.P.Power.stopped c.args.power.now) (g.P.Power.stopped c.stop_last.new.power) c.as_mut_slice-2.result.now c.as_mut_slice-3.result.now (g.N.Net.sent c.args.net.now)
    c.stop_last.new.cores c.stop_last.new.voters (g.N.Net.sent c.stop_last.new.net) c.in_ok-stop_last.ensures.stops many c.stop_last.auto.cores c.stop_last.auto.voters n voter
    (subst (λ (vs : List Voter). slice_get vs n ≡ Some voter) (sym c.as_mut_slice-3.ensures.value) at))

pub returns-clause-world : goal.returns-clause-world
returns-clause-world g c =
    let k : Members = c.args.members.now in
    let chief : Chief = chief_of c.args.members.now.chief in
    let new : Chief = chief_of c.finish.new.chief in
    let sent = g.N.Net.sent in
    let old : ℕ → ℕ = g.P.Power.stopped c.args.power.now in
    let now : ℕ → ℕ = g.P.Power.stopped c.stop_last.new.power in
    let scene : List Node → Chief → List Posted → Scene = λ cores chief sent. record { cores = cores; chief = chief; sent = sent } in
    let first : Scene = scene c.args.members.now.cores.items chief (sent c.args.net.now) in
    let between : Scene = scene c.stop_last.new.cores chief (sent c.stop_last.new.net) in
    let last : Scene = scene c.finish.new.cores new (sent c.finish.new.net) in
    let back = with_items_is k.cores c.stop_last.new.cores (c.stop_last.auto.cores ∙ c.as_mut_slice-2.ensures.len) in
    subst (λ (cores : List Node). GoesBetween old now SameEntries first (scene cores new (sent c.finish.new.net)))
    (sym (with_items_is (with_items k.cores c.stop_last.new.cores) c.finish.new.cores (c.finish.auto.cores ∙ c.as_mut_slice-4.ensures.len)))
    (between_then SameEntries SameEntries SameEntries same_then old now now first between last
    (subst (λ (cores : List Node). GoesBetween old now SameEntries (scene cores chief (sent c.args.net.now)) between) c.as_mut_slice-2.ensures.value (c.in_ok-stop_last.ensures.world chief))
    (between_on SameEntries SameEntries now now between last (λ w v _ same. same) (λ n lt. omega arith)
    (subst (λ (cores : List Node). GoesOn (scene cores chief (sent c.stop_last.new.net)) last) (c.as_mut_slice-4.ensures.value ∙ back) c.in_ok-_all.ensures.done.world)))

pub returns-clause-says : goal.returns-clause-says
returns-clause-says g c =
    adds_then (g.N.Net.sent c.args.net.now) (g.N.Net.sent c.stop_last.new.net) (g.N.Net.sent c.finish.new.net) c.in_ok-stop_last.ensures.said
    (adds_settling c.args.epoch (g.N.Net.sent c.stop_last.new.net) (g.N.Net.sent c.finish.new.net) c.in_ok-_all.ensures.done.said)

pub returns-in_err-stop_last-clause-letters : goal.returns-in_err-stop_last-clause-letters
returns-in_err-stop_last-clause-letters g c =
    letters_sent c.stop_last.ensures.sends.fresh c.stop_last.ensures.sends.counts

pub returns-in_err-_all-clause-letters : goal.returns-in_err-_all-clause-letters
returns-in_err-_all-clause-letters g c =
    letters_then (letters_sent c.stop_last.ensures.sends.fresh c.stop_last.ensures.sends.counts) c.finish.ensures.letters

pub returns-clause-letters : goal.returns-clause-letters
returns-clause-letters g c =
    letters_then (letters_sent c.stop_last.ensures.sends.fresh c.stop_last.ensures.sends.counts) c.finish.ensures.letters

pub returns-clause-layout : goal.returns-clause-layout
returns-clause-layout g c = c.in_ok-_all.ensures.done.finish.layout

pub returns-clause-whole : goal.returns-clause-whole
returns-clause-whole g c =
    let k : Members = c.args.members.now in
    subst (λ (vs : List Voter). StayWhole (g.P.Power.stops_seen c.args.power.now) (g.P.Power.stops_seen c.stop_last.new.power) k.voters.items vs)
    (sym (with_items_is k.voters c.stop_last.new.voters (c.stop_last.auto.voters ∙ c.as_mut_slice-3.ensures.len)))
    (subst (λ (vs : List Voter). StayWhole (g.P.Power.stops_seen c.args.power.now) (g.P.Power.stops_seen c.stop_last.new.power) vs c.stop_last.new.voters) c.as_mut_slice-3.ensures.value c.in_ok-stop_last.ensures.whole)
