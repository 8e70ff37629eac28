use Rattle.std.proofs.Common.{◌≤◌}
use Rattle.coco_ast.specs.Tree.{Expression}
use Rattle.coco_parse.specs.Machine.{Goal, Operand}
use Rattle.coco_parse.specs.Machine as machine
use Rattle.coco_parse.specs.Steps.{Stands, left, frames_of}
use Rattle.coco_parse.proofs.state.Parser.operand.Given as goal

abbrev pub invariant-loop-word : goal.invariant-loop-word
invariant-loop-word l = record {
  onward : left l.self l.cursor ≤ left l.self l.fn.cursor;
  reads : (m : machine.Mark) (k : Expression → Goal) → Stands l.self l.fn.cursor (Operand (frames_of l.fn.frames.items) m k) → Stands l.self l.cursor (Operand (frames_of l.frames.items) m k);
}

abbrev pub decreases-loop-word : goal.decreases-loop-word
decreases-loop-word l = left l.self l.cursor
