use Rattle.std.proofs.Common.{◌≡◌, drop}
use Rattle.coco_ast.specs.Keyed.{Rows, put_over}
use Rattle.coco_load.specs.Reading.{puts}
use Rattle.coco_load.specs.RowMaps.{joined, map_with}
use Rattle.coco_load.specs.Tables.{HoldMap}
use Rattle.coco_recover.proofs.lost.with_base.Given as goal

-- the rows of the other lists come over those that are loaded
abbrev pub invariant-loop-rows : goal.invariant-loop-rows
invariant-loop-rows l = (m : Rows) × HoldMap l.layout m l.tables.shards.items l.tables.copies.items × (put_over m (puts (joined (drop l.rows-index l.base))) ≡ map_with (joined l.base))
