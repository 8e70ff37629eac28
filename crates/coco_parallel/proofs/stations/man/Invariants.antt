use Rattle.std.proofs.Common.{◌≡◌, ◌+◌, ◌<◌, ◌≤◌, ◌^◌, ◌++◌, length, vec_len, vec_capacity}
use Rattle.coco_parallel.specs.Stations.{stations_of}
use Rattle.coco_parallel.proofs.stations.man.Given as goal

-- the stations so far and those of the rows and seats that are left are all, and there is room for these
abbrev pub invariant-loop-seat : goal.invariant-loop-seat
invariant-loop-seat l = record {
  manned : l.stations.items ++ stations_of l.worker l.rows.rest.items l.copy_rows.rest.items l.seat-iterator.rest.items ≡ stations_of 0 l.fn.rows.items l.fn.copy_rows.items l.fn.seats.items;
  rows : length l.rows.rest.items ≡ length l.seat-iterator.rest.items;
  copy_rows : length l.copy_rows.rest.items ≡ length l.seat-iterator.rest.items;
  room : vec_len l.stations + length l.seat-iterator.rest.items ≤ vec_capacity l.stations;
  few : l.worker + length l.seat-iterator.rest.items < 2 ^ 32;
}
