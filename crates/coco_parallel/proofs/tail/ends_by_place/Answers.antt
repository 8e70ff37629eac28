use Rattle.std.proofs.Common.{◌++◌, [], List, take, drop, length, slice_index_or, sym, ap, ◌∙◌, arith}
use Rattle.coco_desks.proofs.DeskLemmas.{written_back}
use Rattle.coco_occ.specs.declared.outcome.Ended.{Ended}
use Rattle.coco_occ.specs.declared.outcome.Tried.{Tried}
use Rattle.coco_order.specs.Execution.{concat}
use Rattle.coco_parallel.specs.Ends.{ends_at}
use Rattle.coco_parallel.proofs.EndsLemmas.{concat_more}
use Rattle.coco_parallel.proofs.ToldLemmas.{ends_append}
use Rattle.coco_parallel.proofs.tail.ends_by_place.Goals as goal

pub loop-transcript-preserved : goal.loop-transcript-preserved
loop-transcript-preserved c =
    let value = c.as_mut_slice.ensures.value in
    let slice = ap length value in
    let ok = c.loop-transcript.ends.ok.0 in
    let count = c.loop-transcript.invariant.count in
    let same = c.add_ends.ensures.count in
    let seen : List Tried = concat (take c.loop-transcript.transcript-index c.args.transcripts.now) in
    record {
      count = count;
      each = λ place lt. ap (λ (es : List (List Ended)). slice_index_or es place []) (written_back c.loop-transcript.ends.len c.add_ends.new.ends (drop (length c.add_ends.new.ends) c.loop-transcript.ends.items) (omega (arith, ok, slice, same)))
          ∙ c.in_ok-add_ends.ensures.each place (omega (arith, lt, count, ok, slice))
          ∙ ap (λ (es : List Ended). es ++ ends_at place c.as_slice.result.now) (ap (λ (es : List (List Ended)). slice_index_or es place []) value ∙ c.loop-transcript.invariant.each place lt)
          ∙ ap (λ (ts : List Tried). ends_at place seen ++ ends_at place ts) c.as_slice.ensures
          ∙ sym (ends_append place seen c.transcript-item.result)
          ∙ ap (ends_at place) (sym (concat_more c.args.transcripts.now c.loop-transcript.transcript-index c.transcript-item.result c.loop-transcript-test.true c.transcript-item.is));
    }
