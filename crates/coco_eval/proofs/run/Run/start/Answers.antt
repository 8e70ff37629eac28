use Rattle.std.proofs.Common.{sym, subst}
use Rattle.coco_types.specs.declared.call.Call.{Call}
use Rattle.coco_ast.specs.Tree.{Procedures}
use Rattle.coco_eval.specs.Keeping.{IsRunOf}
use Rattle.coco_eval.specs.declared.run.Stage.TheVariants as stage
use Rattle.coco_eval.proofs.StepLemmas.{called, is_planned, planned, begun}
use Rattle.coco_eval.proofs.run.Run.start.Goals as goal

pub unreachable-requires : goal.unreachable-requires
unreachable-requires c = let p = called c.args.procs.now c.args.call.now c.requires in is_planned p.0 _ p.1 c.in_default.ensures.plan

pub prepare-requires : goal.prepare-requires
prepare-requires c =
    let p = called c.args.procs.now c.args.call.now c.requires in
    (p.0, planned p.0 c.in-Some.plan _ p.1 c.in-Some.ensures.plan, p.2)

pub invariant_of-result : goal.invariant_of-result
invariant_of-result c =
    let m = c.prepare.new.machine in let spare = c.prepare.new.spare in let ws = c.new.result in let call = c.args.call.now in
    let p = called c.args.procs.now call c.requires in let of = planned p.0 c.in-Some.plan _ p.1 c.in-Some.ensures.plan in
    subst (λ (ps : Procedures). IsRunOf ps c.of-2.result.value call.proc_no m spare ws stage.Ready) (sym c.of.ensures)
    (subst (λ (d : Call). IsRunOf c.args.procs.now d call.proc_no m spare ws stage.Ready) (sym c.of-2.ensures)
    (begun c.args.procs.now call p.0 m spare ws c.in-Some.plan.now c.in-Some.ensures.accepted p.1 of (c.in_ok-prepare.ensures.ok p.0 of p.2)))
