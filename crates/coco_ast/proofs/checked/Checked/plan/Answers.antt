use Rattle.std.proofs.Common.{subst}
use Rattle.coco_ast.specs.Meaning.{procedure_at}
use Rattle.coco_ast.specs.Plans.{IsPlanFor}
use Rattle.coco_ast.specs.Tree.{Procedures}
use Rattle.coco_ast.proofs.Planned.{looked_up_plan}
use Rattle.coco_ast.proofs.checked.Checked.plan.Goals as goal

pub returns-clause-plan : goal.returns-clause-plan
returns-clause-plan c =
    let lookup = rw c.as_slice.ensures.value at c.get.ensures.lookup.3 in
    subst (λ (t : Procedures). IsPlanFor (procedure_at t.procs c.args.proc_no) c.get.result) c.self.view_is
    (looked_up_plan _ c.self.inside.plans.items c.args.proc_no c.get.result c.self.invariant.2 lookup)
