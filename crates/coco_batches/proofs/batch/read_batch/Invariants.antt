use Rattle.std.proofs.Common.{◌≡◌, ◌+◌, ◌≤◌, true, length}
use Rattle.coco_types.specs.Limits.{most_input_bytes}
use Rattle.coco_lines.specs.Reads.{IsSpent, source_moment}
use Rattle.coco_batches.specs.Asking.{MayCommit}
use Rattle.coco_batches.specs.BatchReading.{Taking}
use Rattle.coco_batches.proofs.batch.read_batch.Given as goal

abbrev pub invariant-loop-place : goal.invariant-loop-place
invariant-loop-place g l = record {
  new : MayCommit l.procs l.kept l.batch.fresh;
  count : length l.batch.answers.items ≡ l._place;
  given : l.reader.given ≡ l.fn.reader.given + length l.batch.answers.items;
  within : l.reader.given ≤ most_input_bytes;
  taking : Taking l.procs l.kept l.fn.reader l.reader (source_moment g.S.Source l.fn.source) (source_moment g.S.Source l.source) l.batch;
  end : (l.fn.reader.ended ≡ true → IsSpent (source_moment g.S.Source l.fn.source)) → l.reader.ended ≡ true → IsSpent (source_moment g.S.Source l.source);
  faults : g.S.Source.faults l.source ≡ g.S.Source.faults l.fn.source;
}
