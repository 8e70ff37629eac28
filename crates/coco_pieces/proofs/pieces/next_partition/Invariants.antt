use Rattle.std.proofs.Common.{◌≡◌, ◌≢◌, ℕ, ◌<◌, ◌≤◌, [], drop}
use Rattle.coco_pieces.specs.Pieces.{writes_on}
use Rattle.coco_pieces.proofs.pieces.next_partition.Given as goal

-- below it only the writes to come may be
abbrev pub invariant-loop-write : goal.invariant-loop-write
invariant-loop-write l = record {
  least : l.from ≤ l.next;
  most : l.next ≤ l.count;
  skips : (p : ℕ) → l.from ≤ p → p < l.next → writes_on l.count p l.writes ≡ writes_on l.count p (drop l.write-index l.writes);
  there : l.next < l.count → writes_on l.count l.next l.writes ≢ [];
}
