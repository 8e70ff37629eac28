use Rattle.std.proofs.Common.{sym, ◌∙◌}
use Rattle.coco_load.specs.RowMaps.{lent_map}
use Rattle.coco_load.proofs.LentMaps.{put_row, lent_put}
use Rattle.coco_load.proofs.merge.merge.Goals as goal

pub loop-key-preserved : goal.loop-key-preserved
loop-key-preserved c =
    put_row c.args.rows.now c.loop-key.key-index c.loop-key-item.result (lent_map c.loop-key.merged) (lent_map c.insert.new.self) c.loop-key-test.true (sym c.loop-key-item.is)
    (lent_put c.loop-key.merged c.insert.new.self c.loop-key-item.result.0 _ c.in-Ok.ensures.updates.0)
    ∙ c.loop-key.invariant
