use Rattle.std.proofs.Common.{◌≡◌, ◌≤◌, length, drop}
use Rattle.std.specs.HashMap.{spare}
use Rattle.coco_ast.specs.Keyed.{put_over}
use Rattle.coco_serial.specs.Applied.{rows_of}
use Rattle.coco_serial.proofs.call_on_map.put_all.Given as goal

-- the other writes come behind, and there is room for them
abbrev pub invariant-loop-write : goal.invariant-loop-write
invariant-loop-write l = record {
  rows : put_over (rows_of l.rows) (drop l.write-index l.writes) ≡ put_over (rows_of l.initial.rows) l.writes;
  room : length (drop l.write-index l.writes) ≤ spare l.rows;
}
