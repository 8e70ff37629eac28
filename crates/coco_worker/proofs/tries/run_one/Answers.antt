use Rattle.std.proofs.Common.{Some, length, sym, ◌∙◌, subst}
use Rattle.std.proofs.lemmas.List.{with_items_is}
use Rattle.coco_worker.specs.Trying.{Runs, at_start}
use Rattle.coco_worker.proofs.ScriptLemmas.{by_ok}
use Rattle.coco_worker.proofs.TryLemmas.{runs_from}
use Rattle.coco_worker.proofs.tries.run_one.Goals as goal

pub returns-clause-ran : goal.returns-clause-ran
returns-clause-ran g c =
    let first = at_start c.args.procs.now c.args.request.now.call c.args.by (length c.args.shards.now) in
    let room = Some c.run_attempt.new.attempt in
    let back = with_items_is c.args.slot.now.passes c.run_attempt.new.passes (c.run_attempt.auto.passes ∙ c.as_mut_slice-passes.ensures.len) in
    by_ok c.run_attempt.result c.run_attempt.ensures.ran
    (λ ran. subst (Runs first room c.args.slot.now.passes.items) (sym back)
    (runs_from c.make_ready.new.room room c.in-Some.attempt first c.as_mut_slice-passes.result.now c.args.slot.now.passes.items c.run_attempt.new.passes c.in-Some.is c.in_ok-make_ready.ensures c.as_mut_slice-passes.ensures.value ran))
