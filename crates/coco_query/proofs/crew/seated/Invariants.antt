use Rattle.std.proofs.Common.{◌≡◌, ◌+◌, ◌<◌, ◌≤◌, ◌^◌, ◌++◌, length, vec_len, vec_capacity}
use Rattle.coco_query.specs.Crews.{readers_of}
use Rattle.coco_query.proofs.crew.seated.Given as goal

-- the readers so far and those of the rows and seats that are left are all, and there is room for these
abbrev pub invariant-loop-seat : goal.invariant-loop-seat
invariant-loop-seat l = record {
  seated : l.readers.items ++ readers_of l.reader l.rows.rest.items l.seat-iterator.rest.items ≡ readers_of 0 l.fn.rows.items l.fn.seats.items;
  rows : length l.rows.rest.items ≡ length l.seat-iterator.rest.items;
  room : vec_len l.readers + length l.seat-iterator.rest.items ≤ vec_capacity l.readers;
  few : l.reader + length l.seat-iterator.rest.items < 2 ^ 32;
}
