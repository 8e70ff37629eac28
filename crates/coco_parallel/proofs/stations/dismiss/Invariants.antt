use Rattle.std.proofs.Common.{◌≡◌, ◌+◌, ◌≤◌, ◌++◌, map, length, vec_len, vec_capacity}
use Rattle.coco_parallel.specs.declared.workers.Station.{Station}
use Rattle.coco_parallel.proofs.stations.dismiss.Given as goal

-- what was taken and what is in the stations that are left is all, and there is room for it
abbrev pub invariant-loop-station : goal.invariant-loop-station
invariant-loop-station l = record {
  rows : l.rows.items ++ map (λ (s : Station). s.slot.passes) l.station-iterator.rest.items ≡ map (λ (s : Station). s.slot.passes) l.fn.stations.items;
  copy_rows : l.copy_rows.items ++ map (λ (s : Station). s.slot.copy_passes) l.station-iterator.rest.items ≡ map (λ (s : Station). s.slot.copy_passes) l.fn.stations.items;
  seats : l.seats.items ++ map (λ (s : Station). s.slot.seat) l.station-iterator.rest.items ≡ map (λ (s : Station). s.slot.seat) l.fn.stations.items;
  transcripts : l.left.transcripts.items ++ map (λ (s : Station). s.slot.transcript) l.station-iterator.rest.items ≡ map (λ (s : Station). s.slot.transcript) l.fn.stations.items;
  pieces : l.left.pieces.items ++ map (λ (s : Station). s.slot.pieces) l.station-iterator.rest.items ≡ map (λ (s : Station). s.slot.pieces) l.fn.stations.items;
  rows_room : vec_len l.rows + length l.station-iterator.rest.items ≤ vec_capacity l.rows;
  copy_rows_room : vec_len l.copy_rows + length l.station-iterator.rest.items ≤ vec_capacity l.copy_rows;
  seats_room : vec_len l.seats + length l.station-iterator.rest.items ≤ vec_capacity l.seats;
  scripts_room : vec_len l.left.scripts + length l.station-iterator.rest.items ≤ vec_capacity l.left.scripts;
  transcripts_room : vec_len l.left.transcripts + length l.station-iterator.rest.items ≤ vec_capacity l.left.transcripts;
  pieces_room : vec_len l.left.pieces + length l.station-iterator.rest.items ≤ vec_capacity l.left.pieces;
}
