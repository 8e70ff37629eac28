use Rattle.std.proofs.Common.{◌≡◌, ◌++◌}
use Rattle.coco_chief.specs.Ranges.{span}
use Rattle.coco_chief.proofs.ranges.write_out.Given as goal

-- the first epochs are added
abbrev pub invariant-loop-behind : goal.invariant-loop-behind
invariant-loop-behind l = l.epochs.items ≡ l.initial.epochs.items ++ span l.range.first l.behind
