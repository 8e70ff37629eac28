use Rattle.coco_ast.specs.Views.{place_of}
use Rattle.coco_parse.specs.Machine.{Fixed, SemicolonMark}
use Rattle.coco_parse.proofs.Steps.{exit_same, exit_refused}
use Rattle.coco_parse.proofs.state.Parser.ended_place.Goals as goal

pub returns-in_err-place-clause-reads : goal.returns-in_err-place-clause-reads
returns-in_err-place-clause-reads c k s = exit_same _ _ _ _ c.from_residual.ensures.1 (c.in_err-place.ensures.reads (λ p. Fixed SemicolonMark (k p)) s)

pub returns-in_err-mark-clause-reads : goal.returns-in_err-mark-clause-reads
returns-in_err-mark-clause-reads c k s = exit_refused _ _ c.args.self.now _ c.from_residual-in_err-mark.ensures.1 (c.in_err-mark.ensures.reads (k (place_of c.in_ok-place.place)) (c.in_ok-place.ensures.reads (λ p. Fixed SemicolonMark (k p)) s))

pub returns-clause-reads : goal.returns-clause-reads
returns-clause-reads c k s = c.in_ok-mark.ensures.reads (k (place_of c.in_ok-place.place)) (c.in_ok-place.ensures.reads (λ p. Fixed SemicolonMark (k p)) s)
