use Rattle.std.proofs.Common.{◌≡◌, ◌<◌, ℕ, false, All, take, slice_index_or, vec_len, vec_capacity}
use Rattle.coco_order.specs.Execution.{concat}
use Rattle.coco_parallel.specs.Ends.{has_commit}
use Rattle.coco_parallel.proofs.tail.committed_places.Given as goal

abbrev pub invariant-loop : goal.invariant-loop
invariant-loop l = record {
  count : vec_len l.places ≡ l.counter;
  room : vec_capacity l.places ≡ l.count;
  none : All (λ b. b ≡ false) l.places.items;
}

abbrev pub invariant-loop-transcript : goal.invariant-loop-transcript
invariant-loop-transcript l = record {
  count : vec_len l.places ≡ l.count;
  each : (place : ℕ) → place < l.count → slice_index_or l.places.items place false ≡ has_commit (concat (take l.transcript-index l.transcripts)) place;
}
