use Rattle.std.proofs.Common.{◌+◌, ◌<◌, length, map, take, arith, sym, ◌∙◌, subst}
use Rattle.std.proofs.lemmas.List.{length-map}
use Rattle.coco_host.specs.Recorded.{event_of}
use Rattle.coco_host.specs.Crash.{IsLastSync}
use Rattle.coco_host.proofs.Crashing.{event_read, sync_next, no_sync_next}
use Rattle.coco_host.proofs.crash.last_sync.Goals as goal
use Rattle.coco_host.proofs.crash.last_sync.Goals.{then-is_sync_of, else-is_sync_of}

pub loop-place-preserved : goal.loop-place-preserved
loop-place-preserved c =
    let k = c.loop-place.place in
    let xs = c.args.happened.now in
    let x = c.index-happened-place.result in
    let below : k < length xs = omega (arith, c.loop-place-test.true) in
    let within : k < length (map event_of xs) = omega (arith, below, length-map xs event_of) in
    let e = event_read xs k x below c.index-happened-place.is in
    elim c.if-is_sync_of.branch [
      | then-is_sync_of w ↦ subst (IsLastSync c.args.file (take (k + 1) (map event_of xs))) (sym w.last-is) (sync_next c.args.file (map event_of xs) k (event_of x) within e (sym c.is_sync_of.ensures ∙ w.if-is_sync_of.true))
      | else-is_sync_of w ↦ subst (IsLastSync c.args.file (take (k + 1) (map event_of xs))) (sym w.last-is) (no_sync_next c.args.file (map event_of xs) k (event_of x) within e c.loop-place.last (sym c.is_sync_of.ensures ∙ w.if-is_sync_of.false) c.loop-place.invariant)
    ]
