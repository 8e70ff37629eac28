use Rattle.std.proofs.Common.{◌≡◌, ◌++◌}
use Rattle.coco_copy.specs.Kept.{part_of, stable_of}
use Rattle.coco_copy.proofs.rows.stable_rows.Given as goal

-- the values so far, and those of the rows to come
abbrev pub invariant-loop-key : goal.invariant-loop-key
invariant-loop-key l = l.values.items ++ part_of stable_of l.key-iterator ≡ part_of stable_of l.rows.entries
