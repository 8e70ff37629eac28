use Rattle.std.proofs.Common.{◌≡◌, List, [], drop, map, refl, sym, ap, subst, ◌∙◌}
use Rattle.std.specs.FinMap.{empty}
use Rattle.std.proofs.Math.ListN.{drop_of_length-le}
use Rattle.coco_types.specs.RowKey.{RowKey}
use Rattle.coco_types.specs.declared.value.Value.{Value}
use Rattle.coco_ast.specs.Keyed.{Rows, put_over}
use Rattle.coco_load.specs.Reading.{puts}
use Rattle.coco_load.specs.RowMaps.{as_write, joined}
use Rattle.coco_load.specs.Tables.{HoldMap}
use Rattle.coco_load.proofs.LentMaps.{put_list}
use Rattle.coco_recover.proofs.lost.with_base.Goals as goal

pub loop-rows-init : goal.loop-rows-init
loop-rows-init c = (empty, c.in_ok-tables.ensures, refl)

pub loop-rows-preserved : goal.loop-rows-preserved
loop-rows-preserved c =
    let was = c.loop-rows.invariant in
    let now = put_over was.0 (puts c.as_slice.result.now) in (
      now,
      c.in_ok-load_base.ensures.ok was.0 was.1,
      put_list c.args.base.now c.loop-rows.rows-index c.rows-item.result was.0 now c.loop-rows-test.true (sym c.rows-item.is)
          (ap (λ (rows : List (RowKey × Value)). put_over was.0 (map as_write rows)) c.as_slice.ensures)
          ∙ was.2,
    )

pub returns : goal.returns
returns c =
    let was = c.loop-rows.invariant in
    let tables = c.loop-rows.tables in
    let none : drop c.loop-rows.rows-index c.args.base.now ≡ [] = drop_of_length-le c.args.base.now c.loop-rows-test.false in
    subst (λ (m : Rows). HoldMap c.args.layout.now m tables.shards.items tables.copies.items)
    (sym (ap (λ (lists : List (List (RowKey × Value))). put_over was.0 (puts (joined lists))) none) ∙ was.2) was.1
