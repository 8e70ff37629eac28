use Rattle.std.proofs.Common.{◌≡◌, ◌+◌, ◌≤◌, ◌++◌, map, length, vec_len, vec_capacity}
use Rattle.coco_query.specs.declared.readers.Reader.{Reader}
use Rattle.coco_query.proofs.crew.dismiss.Given as goal

-- what was taken and what is in the readers that are left is all, and there is room for it
abbrev pub invariant-loop-reader : goal.invariant-loop-reader
invariant-loop-reader l = record {
  rows : l.rows.items ++ map (λ (r : Reader). r.passes) l.reader-iterator.rest.items ≡ map (λ (r : Reader). r.passes) l.fn.readers.items;
  seats : l.seats.items ++ map (λ (r : Reader). r.seat) l.reader-iterator.rest.items ≡ map (λ (r : Reader). r.seat) l.fn.readers.items;
  transcripts : l.left.transcripts.items ++ map (λ (r : Reader). r.transcript) l.reader-iterator.rest.items ≡ map (λ (r : Reader). r.transcript) l.fn.readers.items;
  replies : l.left.replies.items ++ map (λ (r : Reader). r.replies) l.reader-iterator.rest.items ≡ map (λ (r : Reader). r.replies) l.fn.readers.items;
  rows_room : vec_len l.rows + length l.reader-iterator.rest.items ≤ vec_capacity l.rows;
  seats_room : vec_len l.seats + length l.reader-iterator.rest.items ≤ vec_capacity l.seats;
  transcripts_room : vec_len l.left.transcripts + length l.reader-iterator.rest.items ≤ vec_capacity l.left.transcripts;
  replies_room : vec_len l.left.replies + length l.reader-iterator.rest.items ≤ vec_capacity l.left.replies;
}
