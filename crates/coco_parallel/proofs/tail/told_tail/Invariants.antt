use Rattle.std.proofs.Common.{◌≡◌, ◌<◌, ◌≤◌, ℕ, [], List, take, length, slice_index_or, vec_len}
use Rattle.coco_order.specs.Execution.{Journal, concat}
use Rattle.coco_parallel.specs.Ends.{AreCommitted, ends_at}
use Rattle.coco_parallel.specs.Epochs.{execution_with}
use Rattle.coco_parallel.specs.Tails.{tail_from}
use Rattle.coco_parallel.proofs.tail.told_tail.Given as goal

abbrev pub invariant-loop-place : goal.invariant-loop-place
invariant-loop-place l = record {
  count : vec_len l.ends ≡ length l.requests;
  ends : (place : ℕ) → l.place ≤ place → place < length l.requests → slice_index_or l.ends.items place [] ≡ ends_at place (concat l.transcripts);
  tail : (journals : List Journal) → AreCommitted (execution_with journals l.transcripts) l.committed → l.tail ≡ tail_from (execution_with journals l.transcripts) 0 (take l.place l.requests);
}
