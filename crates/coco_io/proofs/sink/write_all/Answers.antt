use Rattle.coco_io.proofs.PartLemmas.{Took-more}
use Rattle.coco_io.proofs.sink.write_all.Goals as goal

pub loop-done-preserved : goal.loop-done-preserved
loop-done-preserved g c =
    let wrote = c.in_ok-done.ensures in
    Took-more _ _ _ _ _ _ _ _ _ c.loop-done.invariant wrote.count wrote.bytes wrote.counts
