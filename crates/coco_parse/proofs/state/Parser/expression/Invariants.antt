use Rattle.std.proofs.Common.{◌<◌, []}
use Rattle.coco_ast.specs.Tree.{Expression}
use Rattle.coco_ast.specs.Views.{expression_of}
use Rattle.coco_parse.specs.Machine.{Goal, Operand, Operator}
use Rattle.coco_parse.specs.Steps.{Stands, left, frames_of, mark_of}
use Rattle.coco_parse.proofs.state.Parser.expression.Given as goal

abbrev pub invariant-loop-word : goal.invariant-loop-word
invariant-loop-word l = record {
  onward : left l.self l.cursor < left l.self l.fn.cursor;
  reads : (k : Expression → Goal) → Stands l.self l.fn.cursor (Operand [] (mark_of l.end) k) → Stands l.self l.cursor (Operator (expression_of l.operand) (frames_of l.frames.items) (mark_of l.end) k);
}

abbrev pub decreases-loop-word : goal.decreases-loop-word
decreases-loop-word l = left l.self l.cursor
