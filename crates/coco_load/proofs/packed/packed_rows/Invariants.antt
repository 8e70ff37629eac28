use Rattle.std.proofs.Common.{◌≡◌, take}
use Rattle.coco_load.proofs.packed.packed_rows.Given as goal

-- the rows so far are there
abbrev pub invariant-loop-key : goal.invariant-loop-key
invariant-loop-key l = l.packed.items ≡ take l.key-index l.fn.rows
