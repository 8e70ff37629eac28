use Rattle.std.proofs.Common.{◌≡◌, ◌++◌}
use Rattle.coco_append.specs.Stamps.{rows_in}
use Rattle.coco_append.proofs.rows.rows_of.Given as goal

-- the rows so far, and those to come
abbrev pub invariant-loop-key : goal.invariant-loop-key
invariant-loop-key l = l.rows.items ++ rows_in l.key-iterator ≡ rows_in l.last.entries
