use Rattle.std.proofs.Common.{List, map, sym, ap, ◌∙◌}
use Rattle.coco_types.specs.RowKey.{RowKey}
use Rattle.coco_types.specs.declared.value.Value.{Value}
use Rattle.coco_ast.specs.Keyed.{put_over}
use Rattle.coco_load.specs.RowMaps.{as_write, lent_map}
use Rattle.coco_load.proofs.LentMaps.{put_list}
use Rattle.coco_load.proofs.merge.merged.Goals as goal

pub loop-list-preserved : goal.loop-list-preserved
loop-list-preserved c =
    put_list c.args.lists.now c.loop-list.list-index c.list-item.result (lent_map c.loop-list.merged) (lent_map c.merge.new.merged) c.loop-list-test.true (sym c.list-item.is)
    (c.in_ok-merge.ensures ∙ ap (λ (rows : List (RowKey × Value)). put_over (lent_map c.loop-list.merged) (map as_write rows)) c.as_slice.ensures)
    ∙ c.loop-list.invariant
