use Rattle.std.proofs.Common.{List, ap, ◌∙◌}
use Rattle.std.specs.Vec.Iter.{into_iter_items}
use Rattle.coco_types.specs.RowKey.{RowKey}
use Rattle.coco_types.specs.declared.call.Done.{Done}
use Rattle.coco_audit.specs.Dumping.{lines_of, text_of}
use Rattle.coco_audit.proofs.DumpLemmas.{text_is}
use Rattle.coco_audit.proofs.pieces.Dump.new.Goals as goal

pub returns : goal.returns
returns c m values =
    let procs = c.args.procs.now in
    let shards = c.args.shards.now in
    let dones = c.args.kept.now.dones in
    ap (λ (ds : List Done). text_of (lines_of procs shards ds (into_iter_items c.into_iter.result))) c.iter.ensures.rest
    ∙ ap (λ (keys : List RowKey). text_of (lines_of procs shards dones keys)) c.into_iter.ensures.rest
    ∙ text_is shards procs dones m c.in_ok-keys.keys.items values c.in_ok-keys.ensures
