use Rattle.std.proofs.Common.{◌≡◌, ℕ, ◌+◌, ◌%◌, ◌∷◌, ◌++◌, [], List, Option, take, sym, subst, ap, ◌∙◌}
use Rattle.std.proofs.lemmas.List.{take_all, take_more}
use Rattle.coco_types.specs.RowKey.{partition_of}
use Rattle.coco_types.specs.declared.value.Value.{Value}
use Rattle.coco_entry.specs.declared.prepared.Row.{Row}
use Rattle.coco_load.specs.Reading.{with_row, with_rows}
use Rattle.coco_load.specs.Tables.{HoldMaps}
use Rattle.coco_load.proofs.Writes.{rows_begin, rows_more}
use Rattle.coco_load.proofs.tables.Tables.load_prepared.Goals as goal

pub loop-row-init : goal.loop-row-init
loop-row-init c = record { tables = c.requires.tables; hold = λ s maps is held. rows_begin c.args.layout.now s c.args.node maps c.args.self.now.shards.items c.args.self.now.copies.items held }

pub loop-row-preserved : goal.loop-row-preserved
loop-row-preserved c = record {
  tables = c.in_ok-load_at.ensures.tables;
  hold = λ s maps is held.
      let row : Row = c.row-item.result in
      let layout = c.args.layout.now in
      let behind : ℕ = c.nodes_behind-behind.result in
      let before : List Row = take c.loop-row.row-index c.args.rows.now in
      let all : take (c.loop-row.row-index + 1) c.args.rows.now ≡ before ++ row ∷ [] =
      take_more c.args.rows.now c.loop-row.row-index row c.loop-row-test.true ∙ ap (λ (r : Row). before ++ r ∷ []) (sym c.row-item.is) in
      let shards = c.load_at.new.self.shards.items in
      let copies = c.load_at.new.self.copies.items in
      subst (λ (l : List Row). HoldMaps layout (with_rows s c.args.node l maps) shards copies) (sym all)
      (rows_more layout s is c.args.node maps before row behind shards copies c.nodes_behind-behind.ensures.around
      (ap (λ (p : ℕ). (p + behind) % layout.nodes) (sym c.partition.ensures.is) ∙ c.nodes_behind-behind.ensures.there)
      (subst (λ (v : Option Value). HoldMaps layout (with_row (partition_of layout.partitions row.key) behind row.key v (with_rows s c.args.node before maps)) shards copies) c.get.ensures
      (c.in_ok-load_at.ensures.ok (with_rows s c.args.node before maps) (c.loop-row.invariant.hold s maps is held))));
}

pub returns-clause-ok : goal.returns-clause-ok
returns-clause-ok c s maps is held =
    subst (λ (l : List Row). HoldMaps c.args.layout.now (with_rows s c.args.node l maps) c.loop-row.self.shards.items c.loop-row.self.copies.items)
    (take_all c.loop-row.row-index c.args.rows.now c.loop-row-test.false) (c.loop-row.invariant.hold s maps is held)
