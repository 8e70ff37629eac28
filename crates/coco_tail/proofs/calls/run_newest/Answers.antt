use Rattle.std.proofs.Common.{◌≡◌, List, Some, sym, subst, ◌∙◌}
use Rattle.coco_types.specs.declared.call.Write.{Write}
use Rattle.coco_ast.specs.Keyed.{put_over}
use Rattle.coco_ast.specs.Meaning.{run}
use Rattle.coco_eval.specs.Standing.{Evaluation}
use Rattle.coco_tail.specs.Running.{CameTo}
use Rattle.coco_tail.specs.Shards.{HaveNewest}
use Rattle.coco_tail.proofs.RunLemmas.{always_ok, ok_map, same_writes, some_same}
use Rattle.coco_tail.proofs.calls.run_newest.Goals as goal

pub returns-clause-run : goal.returns-clause-run
returns-clause-run c = always_ok c.put_all.result _ (λ m newest.
    subst (λ (e : Evaluation). CameTo (run e.procs e.call m) (Some c.read_all.new.running)) (some_same _ _ (sym c.in-Some.is ∙ c.in_ok-make_ready.ensures)) (c.in_ok-read_all.ensures.run m newest))

pub returns-clause-newest : goal.returns-clause-newest
returns-clause-newest c = ok_map c.put_all.result _ _ (λ put m newest.
    let r = run c.args.procs.now c.args.call.now m in
    let came : CameTo r (Some c.read_all.new.running) =
    subst (λ (e : Evaluation). CameTo (run e.procs e.call m) (Some c.read_all.new.running)) (some_same _ _ (sym c.in-Some.is ∙ c.in_ok-make_ready.ensures)) (c.in_ok-read_all.ensures.run m newest) in
    let written : c.as_slice.result.now ≡ r.writes = c.as_slice.ensures ∙ same_writes c.writes.ensures.0 r.reply c.writes.result.now r.writes c.read_all.new.running.standing c.writes.ensures.1 came in
    subst (λ (ws : List Write). HaveNewest (put_over m ws) c.put_all.new.shards) written (put m (c.in_ok-read_all.ensures.newest m newest))) c.put_all.ensures.newest
