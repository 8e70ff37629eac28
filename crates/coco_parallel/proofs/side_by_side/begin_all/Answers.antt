use Rattle.std.proofs.Common.{sym, ap, ◌∙◌, slice_set}
use Rattle.std.proofs.lemmas.List.Edits.{map_over_more}
use Rattle.coco_copy.specs.CopyState.{CopyState, begun}
use Rattle.coco_parallel.proofs.side_by_side.begin_all.Goals as goal

pub loop-place-preserved : goal.loop-place-preserved
loop-place-preserved c =
    ap (λ (t : CopyState). slice_set c.loop-place.copies c.loop-place.place t) c.begin.ensures
    ∙ ap (λ (t : CopyState). slice_set c.loop-place.copies c.loop-place.place (begun c.args.epoch t.stable)) (sym c.index-copies-place.is)
    ∙ map_over_more (λ (t : CopyState). begun c.args.epoch t.stable) c.args.copies.now c.loop-place.copies c.loop-place.place c.index-copies-place.result c.loop-place-test.true c.loop-place.invariant c.index-copies-place.is
