use Rattle.std.proofs.Common.{List, map, sym, ap, ◌∙◌}
use Rattle.coco_types.specs.RowKey.{RowKey}
use Rattle.coco_types.specs.declared.value.Value.{Value}
use Rattle.coco_ast.specs.Keyed.{put_over}
use Rattle.coco_load.specs.RowMaps.{as_write}
use Rattle.coco_load.proofs.LentMaps.{put_list}
use Rattle.coco_audit.proofs.verify.executor_on.Goals as goal

pub loop-list-preserved : goal.loop-list-preserved
loop-list-preserved c =
    put_list c.args.lists.now c.loop-list.list-index c.list-item.result c.loop-list.executor.rows c.load_rows.new.executor.rows c.loop-list-test.true (sym c.list-item.is)
    (c.in_ok-load_rows.ensures ∙ ap (λ (rows : List (RowKey × Value)). put_over c.loop-list.executor.rows (map as_write rows)) c.as_slice.ensures)
    ∙ c.loop-list.invariant
