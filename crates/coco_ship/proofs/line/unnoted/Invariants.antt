use Rattle.std.proofs.Common.{◌≡◌, length}
use Rattle.std.specs.List.{All}
use Rattle.coco_ship.specs.Lines.{none_noted}
use Rattle.coco_ship.proofs.line.unnoted.Given as goal

-- so many so far, each without pieces
abbrev pub invariant-loop-copy : goal.invariant-loop-copy
invariant-loop-copy l = record {
  count : length l.notes.items ≡ l._copy;
  none : All (λ noted. noted ≡ none_noted) l.notes.items;
}
