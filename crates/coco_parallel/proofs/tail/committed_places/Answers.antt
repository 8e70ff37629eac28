use Rattle.std.proofs.Common.{take, drop, length, false, ◌||◌, slice_index_or, sym, ap, ◌∙◌, arith}
use Rattle.coco_desks.proofs.DeskLemmas.{written_back}
use Rattle.coco_order.specs.Execution.{concat}
use Rattle.coco_parallel.specs.Ends.{has_commit}
use Rattle.coco_parallel.proofs.EndsLemmas.{commit_append, concat_more}
use Rattle.coco_parallel.proofs.tail.committed_places.Goals as goal

pub loop-transcript-preserved : goal.loop-transcript-preserved
loop-transcript-preserved c =
    let value = c.as_mut_slice.ensures.value in
    let slice = ap length value in
    let ok = c.loop-transcript.places.ok.0 in
    let count = c.loop-transcript.invariant.count in
    let same = c.mark.ensures.count in
    record {
      count = count;
      each = λ place lt. ap (λ bs. slice_index_or bs place false) (written_back c.loop-transcript.places.len c.mark.new.places (drop (length c.mark.new.places) c.loop-transcript.places.items) (omega (arith, ok, slice, same)))
          ∙ c.mark.ensures.each place (omega (arith, lt, count, ok, slice))
          ∙ ap (λ b. b || has_commit c.as_slice.result.now place) (ap (λ bs. slice_index_or bs place false) value ∙ c.loop-transcript.invariant.each place lt)
          ∙ ap (λ ts. has_commit (concat (take c.loop-transcript.transcript-index c.args.transcripts.now)) place || has_commit ts place) c.as_slice.ensures
          ∙ sym (commit_append (concat (take c.loop-transcript.transcript-index c.args.transcripts.now)) c.transcript-item.result place)
          ∙ ap (λ ts. has_commit ts place) (sym (concat_more c.args.transcripts.now c.loop-transcript.transcript-index c.transcript-item.result c.loop-transcript-test.true c.transcript-item.is));
    }
