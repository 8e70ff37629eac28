use Rattle.std.proofs.Common.{◌+◌, ◌*◌, ◌≤◌, [], map}
use Rattle.coco_ast.specs.Tree.{Statements}
use Rattle.coco_ast.specs.Views.{statement_of}
use Rattle.coco_parse.specs.Machine.{Goal, Within}
use Rattle.coco_parse.specs.Steps.{Stands, left}
use Rattle.coco_parse.proofs.state.Parser.+blocks.Given as goal

abbrev pub decreases-statements : goal.decreases-statements
decreases-statements l = 2 * left l.self.now l.cursor.now

abbrev pub decreases-statement : goal.decreases-statement
decreases-statement l = 2 * left l.self.now l.cursor.now + 1

abbrev pub decreases-behind_if : goal.decreases-behind_if
decreases-behind_if l = 2 * left l.self.now l.cursor.now

abbrev pub decreases-behind_block : goal.decreases-behind_block
decreases-behind_block l = 2 * left l.self.now l.cursor.now + 1

abbrev pub decreases-behind_repeat : goal.decreases-behind_repeat
decreases-behind_repeat l = 2 * left l.self.now l.cursor.now

abbrev pub decreases-block : goal.decreases-block
decreases-block l = 2 * left l.self.now l.cursor.now

abbrev pub invariant-statements-loop-block : goal.invariant-statements-loop-block
invariant-statements-loop-block l = record {
  onward : left l.self l.cursor ≤ left l.self l.fn.cursor;
  reads : (k : Statements → Goal) → Stands l.self l.fn.cursor (Within [] k) → Stands l.self l.cursor (Within (map statement_of l.block.items) k);
}

abbrev pub decreases-statements-loop-block : goal.decreases-statements-loop-block
decreases-statements-loop-block l = left l.self l.cursor
