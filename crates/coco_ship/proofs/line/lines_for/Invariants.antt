use Rattle.std.proofs.Common.{◌≡◌, length}
use Rattle.coco_ship.specs.Lines.{AllBegin}
use Rattle.coco_ship.proofs.line.lines_for.Given as goal

-- the lines so far
abbrev pub invariant-loop-noted : goal.invariant-loop-noted
invariant-loop-noted l = record {
  count : length l.lines.items ≡ l.noted-index;
  begun : AllBegin l.notes l.lines.items;
}
