use Rattle.std.proofs.Common.{◌≡◌, ℕ, ◌<◌, ◌≤◌, length, take, get_or}
use Rattle.coco_chief.specs.Chief.{has, last_of}
use Rattle.coco_chief.specs.Ranges.{covers, end_of, AreRanges}
use Rattle.coco_chief.proofs.ranges.ranges_of_rising.Given as goal

abbrev pub invariant-loop-epoch : goal.invariant-loop-epoch
invariant-loop-epoch l = record {
  covered : (x : ℕ) → covers l.ranges.items x ≡ has (take l.epoch-index l.epochs) x;
  end : end_of l.ranges.items ≡ last_of (take l.epoch-index l.epochs);
  behind : l.epoch-index < length l.epochs → last_of (take l.epoch-index l.epochs) ≤ get_or l.epochs l.epoch-index 0;
  ranges : AreRanges 0 l.ranges.items;
}
