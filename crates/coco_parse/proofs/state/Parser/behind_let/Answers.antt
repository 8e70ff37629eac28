use Rattle.coco_parse.specs.Machine.{Fixed, AssignMark}
use Rattle.coco_parse.specs.Steps.{set_or_get}
use Rattle.coco_parse.proofs.Steps.{exit_refused}
use Rattle.coco_parse.proofs.state.Parser.behind_let.Goals as goal

pub returns-in_err-name-clause-reads : goal.returns-in_err-name-clause-reads
returns-in_err-name-clause-reads c ss k s = exit_refused _ _ c.args.self.now _ c.from_residual.ensures.1 (c.in_err-name.ensures.reads (λ x. Fixed AssignMark (set_or_get x ss k)) s)

pub returns-in_err-mark-clause-reads : goal.returns-in_err-mark-clause-reads
returns-in_err-mark-clause-reads c ss k s =
    exit_refused _ _ c.args.self.now _ c.from_residual-in_err-mark.ensures.1 (c.in_err-mark.ensures.reads (set_or_get c.in_ok-name.name ss k) (c.in_ok-name.ensures.reads (λ x. Fixed AssignMark (set_or_get x ss k)) s))

pub returns-clause-reads : goal.returns-clause-reads
returns-clause-reads c ss k s =
    c.behind_assign.ensures.reads ss k (c.in_ok-mark.ensures.reads (set_or_get c.in_ok-name.name ss k) (c.in_ok-name.ensures.reads (λ x. Fixed AssignMark (set_or_get x ss k)) s))
