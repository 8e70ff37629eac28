use Rattle.std.proofs.Common.{◌≡◌, ◌<◌, ℕ, [], All, take, slice_index_or, vec_len, vec_capacity}
use Rattle.coco_order.specs.Execution.{concat}
use Rattle.coco_parallel.specs.Ends.{ends_at}
use Rattle.coco_parallel.proofs.tail.ends_by_place.Given as goal

abbrev pub invariant-loop : goal.invariant-loop
invariant-loop l = record {
  count : vec_len l.ends ≡ l.counter;
  room : vec_capacity l.ends ≡ l.count;
  none : All (λ es. es ≡ []) l.ends.items;
}

abbrev pub invariant-loop-transcript : goal.invariant-loop-transcript
invariant-loop-transcript l = record {
  count : vec_len l.ends ≡ l.count;
  each : (place : ℕ) → place < l.count → slice_index_or l.ends.items place [] ≡ ends_at place (concat (take l.transcript-index l.transcripts));
}
