use Rattle.std.proofs.Common.{◌≡◌, true≢false, List, Err, sym, ap, ◌∙◌, subst}
use Rattle.std.specs.Prelude.{IsOk}
use Rattle.std.proofs.lemmas.Result.{err_from_is_err_and}
use Rattle.coco_read.specs.declared.fault.OpenFault.TheVariants.{NotAStore}
use Rattle.coco_recover.specs.Lost.{AreKnown}
use Rattle.coco_store.specs.Rules.{commit_epochs}
use Rattle.coco_types.specs.RowKey.{RowKey}
use Rattle.coco_types.specs.declared.value.Value.{Value}
use Rattle.coco_cluster.specs.declared.cluster.Cluster.{Cluster}
use Rattle.coco_cluster.proofs.EndLemmas.{refused_so}
use Rattle.coco_cluster.proofs.ReadLemmas.{are_of, known_at, sound_after, stand_after, stands_after}
use Rattle.coco_members.specs.declared.members.Members.{Members}
use Rattle.coco_cluster.proofs.cluster.Cluster.read_stopped.Goals as goal

pub returns-clause-rests : goal.returns-clause-rests
returns-clause-rests g c sent rests =
    let k : Cluster = c.args.self.now in
    sound_after k (record k { members = c.read_lost.new.members; trace = c.take-trace.result }) (ap (λ t. record k { members = c.read_lost.new.members; trace = t }) c.take-trace.ensures.value) c.read_lost.ensures.chief c.read_lost.ensures.log c.read_lost.ensures.reads sent c.in_ok-read_lost.ensures.none c.read_lost.ensures.rest rests

pub returns-clause-files : goal.returns-clause-files
returns-clause-files g c on rests stands =
    let k : Cluster = c.args.self.now in
    let new : Cluster = record k { members = c.read_lost.new.members; trace = c.take-trace.result } in
    let same : new ≡ record k { members = c.read_lost.new.members } = ap (λ t. record k { members = c.read_lost.new.members; trace = t }) c.take-trace.ensures.value in
    let had = c.in_ok-read_lost.ensures.files rests.files on rests.are rests.good
    (subst (λ (b : List (List (RowKey × Value))). AreKnown on k.members.tables.layout k.procs (commit_epochs on.commits) b) (sym c.as_slice.ensures.value) (known_at on k stands.belongs))
    stands.belongs.commits (are_of k new same c.read_lost.ensures.chief c.read_lost.ensures.log c.read_lost.ensures.reads on stands c.requires.are) in
    stands_after k new same c.read_lost.ensures.chief c.read_lost.ensures.log c.read_lost.ensures.reads on stands c.requires.are had.0 had.1

pub returns-clause-stand : goal.returns-clause-stand
returns-clause-stand g c stand =
    let k : Cluster = c.args.self.now in
    stand_after k (record k { members = c.read_lost.new.members; trace = c.take-trace.result }) (ap (λ t. record k { members = c.read_lost.new.members; trace = t }) c.take-trace.ensures.value) c.read_lost.ensures.chief c.read_lost.ensures.log c.read_lost.ensures.reads (g.H.Host.reads c.args.host.now) (g.H.Host.reads c.read_lost.new.host)
    (g.H.Host.may_leave c.args.host.now) (g.H.Host.may_leave c.read_lost.new.host) c.read_lost.ensures.stand (c.read_lost.ensures.others k.members.log) stand

pub returns-in_err-read_lost-clause-never : goal.returns-in_err-read_lost-clause-never
returns-in_err-read_lost-clause-never g c file at on rests stands is =
    let k : Cluster = c.args.self.now in
    let p = err_from_is_err_and c.from_residual.result c.from_residual.ensures.1 in
    let same : c.in_err-read_lost.field-0.0 ≡ NotAStore file at = refused_so c.in_err-read_lost.field-0.0 file at (cc (p.1, p.2, is)) in
    c.in_err-read_lost.ensures.kept file at rests.files on rests.are rests.good.holds
    (subst (λ (b : List (List (RowKey × Value))). AreKnown on k.members.tables.layout k.procs (commit_epochs on.commits) b) (sym c.as_slice.ensures.value) (known_at on k stands.belongs))
    stands.belongs.commits (ap Err same)

pub returns-clause-members : goal.returns-clause-members
returns-clause-members g c = ap (λ t. record c.args.self.now { members = c.read_lost.new.members; trace = t }) c.take-trace.ensures.value

pub returns-clause-untouched : goal.returns-clause-untouched
returns-clause-untouched g c none =
    ap (λ t. record c.args.self.now { members = c.read_lost.new.members; trace = t }) c.take-trace.ensures.value
    ∙ ap (λ (m : Members). record c.args.self.now { members = m }) (c.read_lost.ensures.untouched none).2

pub returns-in_err-read_lost-clause-none : goal.returns-in_err-read_lost-clause-none
returns-in_err-read_lost-clause-none g c none = absurd (true≢false (sym (subst IsOk c.in_err-read_lost.was (c.read_lost.ensures.untouched none).0)))
