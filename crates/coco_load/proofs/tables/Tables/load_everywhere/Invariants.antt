use Rattle.coco_ast.specs.Keyed.{Rows}
use Rattle.coco_load.specs.Tables.{AreTables, HoldMap, HoldMaps}
use Rattle.coco_load.proofs.Writes.{written_below}
use Rattle.coco_load.proofs.tables.Tables.load_everywhere.Given as goal

-- the tables before this one have the row
abbrev pub invariant-loop-behind : goal.invariant-loop-behind
invariant-loop-behind l = record {
  tables : AreTables l.layout l.self.shards.items l.self.copies.items;
  hold : (m : Rows) → HoldMap l.layout m l.initial.self.shards.items l.initial.self.copies.items →
      HoldMaps l.layout (written_below l.layout l.key l.value m l.behind) l.self.shards.items l.self.copies.items;
}
