use Rattle.std.proofs.Common.{◌≡◌, take, true}
use Rattle.coco_ship.specs.Pieces.{covers}
use Rattle.coco_ship.specs.Taking.{Puts}
use Rattle.coco_ship.proofs.take.put_all.Given as goal

-- the writes so far pend
abbrev pub invariant-loop-write : goal.invariant-loop-write
invariant-loop-write l = record {
  puts : Puts l.time (take l.write-index l.writes) l.initial.table l.table;
  pend : covers l.table l.time (take l.write-index l.writes) ≡ true;
}
