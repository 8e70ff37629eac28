use Rattle.std.proofs.Common.{take}
use Rattle.coco_ast.specs.Keyed.{Rows, put_over}
use Rattle.coco_load.specs.Reading.{puts}
use Rattle.coco_load.specs.Tables.{AreTables, HoldMap}
use Rattle.coco_load.proofs.tables.Tables.load_base.Given as goal

-- the tables hold the map with the rows so far
abbrev pub invariant-loop-row : goal.invariant-loop-row
invariant-loop-row l = record {
  tables : AreTables l.layout l.self.shards.items l.self.copies.items;
  hold : (m : Rows) → HoldMap l.layout m l.initial.self.shards.items l.initial.self.copies.items →
      HoldMap l.layout (put_over m (puts (take l.row-index l.rows))) l.self.shards.items l.self.copies.items;
}
