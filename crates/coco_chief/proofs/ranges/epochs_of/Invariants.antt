use Rattle.std.proofs.Common.{◌≡◌, take}
use Rattle.coco_chief.proofs.SpanLemmas.{written}
use Rattle.coco_chief.proofs.ranges.epochs_of.Given as goal

-- the first ranges are written out
abbrev pub invariant-loop-range : goal.invariant-loop-range
invariant-loop-range l = l.epochs.items ≡ written (take l.range-index l.ranges)
