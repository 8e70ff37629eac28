use Rattle.std.proofs.Common.{◌≡◌, ◌≢◌, ◌-◌, ◌<◌, ◌≤◌, ◌++◌, []}
use Rattle.coco_pieces.specs.Pieces.{pieces_from, request_pieces, writes_on}
use Rattle.coco_pieces.proofs.pieces.add_pieces.Given as goal

-- those of the partitions from this one on come behind
abbrev pub invariant-loop-partition : goal.invariant-loop-partition
invariant-loop-partition l = record {
  pieces : l.pieces ++ pieces_from l.count l.place l.time l.writes l.partition (l.count - l.partition) ≡ l.initial.pieces ++ request_pieces l.count l.place l.time l.writes;
  within : l.partition ≤ l.count;
  there : l.partition < l.count → writes_on l.count l.partition l.writes ≢ [];
}

abbrev pub decreases-loop-partition : goal.decreases-loop-partition
decreases-loop-partition l = l.count - l.partition
