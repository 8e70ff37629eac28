use Rattle.std.proofs.Common.{◌≡◌, take}
use Rattle.coco_store.specs.Rules.{Setting}
use Rattle.coco_load.specs.Reading.{with_rows}
use Rattle.coco_load.specs.Tables.{AreTables, HoldMaps, Maps}
use Rattle.coco_load.proofs.tables.Tables.load_prepared.Given as goal

-- the tables hold the maps with the rows so far
abbrev pub invariant-loop-row : goal.invariant-loop-row
invariant-loop-row l = record {
  tables : AreTables l.layout l.self.shards.items l.self.copies.items;
  hold : (s : Setting) (maps : Maps) → s.entry.layout ≡ l.layout → HoldMaps l.layout maps l.initial.self.shards.items l.initial.self.copies.items →
      HoldMaps l.layout (with_rows s l.node (take l.row-index l.rows) maps) l.self.shards.items l.self.copies.items;
}
