use Rattle.std.proofs.Common.{◌≡◌, ◌+◌, ◌∷◌, ◌++◌, [], List, Some, take, sym, subst, ap, ◌∙◌}
use Rattle.std.proofs.lemmas.List.{take_all, take_more}
use Rattle.coco_types.specs.RowKey.{RowKey}
use Rattle.coco_types.specs.declared.value.Value.{Value}
use Rattle.coco_ast.specs.Keyed.{Rows, put_over, write_at}
use Rattle.coco_load.specs.Reading.{puts}
use Rattle.coco_load.specs.Tables.{HoldMap}
use Rattle.coco_load.proofs.Writes.{put_more}
use Rattle.coco_load.proofs.tables.Tables.load_base.Goals as goal

pub loop-row-preserved : goal.loop-row-preserved
loop-row-preserved c = record {
  tables = c.in_ok-load_everywhere.ensures.tables;
  hold = λ m held.
      let row : RowKey × Value = c.row-item.result in
      let before : List (RowKey × Value) = take c.loop-row.row-index c.args.rows.now in
      let all : take (c.loop-row.row-index + 1) c.args.rows.now ≡ before ++ row ∷ [] =
      take_more c.args.rows.now c.loop-row.row-index row c.loop-row-test.true ∙ ap (λ (r : RowKey × Value). before ++ r ∷ []) (sym c.row-item.is) in
      let parts : (c.key.result, c.value.result) ≡ row = ap (λ (k : RowKey). (k, c.value.result)) c.key.ensures ∙ ap (λ (v : Value). (row.0, v)) c.value.ensures in
      let one = subst (λ (r : RowKey × Value). HoldMap c.args.layout.now (write_at (put_over m (puts before)) r.0 (Some r.1)) c.load_everywhere.new.self.shards.items c.load_everywhere.new.self.copies.items) parts
      (c.in_ok-load_everywhere.ensures.ok (put_over m (puts before)) (c.loop-row.invariant.hold m held)) in
      subst (λ (n : Rows). HoldMap c.args.layout.now n c.load_everywhere.new.self.shards.items c.load_everywhere.new.self.copies.items)
      (sym (ap (λ (l : List (RowKey × Value)). put_over m (puts l)) all ∙ put_more m before row)) one;
}

pub returns-clause-ok : goal.returns-clause-ok
returns-clause-ok c m held =
    subst (λ (l : List (RowKey × Value)). HoldMap c.args.layout.now (put_over m (puts l)) c.loop-row.self.shards.items c.loop-row.self.copies.items)
    (take_all c.loop-row.row-index c.args.rows.now c.loop-row-test.false) (c.loop-row.invariant.hold m held)
