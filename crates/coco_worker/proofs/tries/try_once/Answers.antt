use Rattle.std.proofs.Common.{length, refl, ap, ◌∙◌}
use Rattle.std.proofs.lemmas.Result.{IfOk-weaker}
use Rattle.coco_occ.specs.Trying.{Trying, has_ended}
use Rattle.coco_worker.specs.Trying.{AddsScript, IsGated, TriesOnce, at_start}
use Rattle.coco_worker.proofs.TryLemmas.{gated_once, only_then, ran_so, same_worker, tries_once}
use Rattle.coco_worker.proofs.tries.try_once.Goals as goal

pub add_script-requires : goal.add_script-requires
add_script-requires g c =
    let a = c.args.slot.now in
    let first = at_start c.args.procs.now c.args.request.now.call (record { worker = a.worker; number = c.len.result }) (length c.args.shards.now) in
    let ran = c.in_ok-run_one.ensures.ran in
    ap (λ (t : Trying). has_ended t.standing) (ran_so first c.in-Some.attempt c.run_one.new.room a.passes.items c.run_one.new.slot.passes.items ran c.in-Some.is) ∙ ran.ended

pub returns-clause-others : goal.returns-clause-others
returns-clause-others g c = only_then c.args.slot.now c.run_one.new.slot c.add_script.new.slot c.run_one.ensures.others c.add_script.ensures.others

pub returns-clause-gated : goal.returns-clause-gated
returns-clause-gated g c =
    let a = c.args.slot.now in
    let b = c.run_one.new.slot in
    let d = c.add_script.new.slot in
    let gate = g.G.Gate.named c.args.gate.now in
    let same = same_worker a b c.run_one.ensures.others in
    IfOk-weaker c.add_script.result (AddsScript gate c.args.place (record { worker = a.worker; number = c.len.result }) c.in-Some.attempt b d) (λ _. IsGated gate a → IsGated gate d)
    (λ _ adds. gated_once adds a c.run_one.ensures.transcript c.in_ok-run_one.ensures.passed same (same_worker b d c.add_script.ensures.others ∙ same)) c.add_script.ensures.added

pub returns-clause-tried : goal.returns-clause-tried
returns-clause-tried g c =
    let a = c.args.slot.now in
    let b = c.run_one.new.slot in
    let d = c.add_script.new.slot in
    let many = length c.args.shards.now in
    IfOk-weaker c.add_script.result (AddsScript (g.G.Gate.named c.args.gate.now) c.args.place (record { worker = a.worker; number = c.len.result }) c.in-Some.attempt b d) (TriesOnce c.args.procs.now c.args.request.now c.args.place many a d c.run_one.new.room)
    (λ _ adds. tries_once adds a c.run_one.ensures.transcript c.args.procs.now c.args.request.now many c.run_one.new.room c.in-Some.is c.len.ensures refl c.in_ok-run_one.ensures.ran c.add_script.ensures.passes) c.add_script.ensures.added
