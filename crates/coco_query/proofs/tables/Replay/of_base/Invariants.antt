use Rattle.std.proofs.Common.{◌≡◌}
use Rattle.std.specs.FinMap.{empty}
use Rattle.std.specs.List.{flat_map}
use Rattle.coco_ast.specs.Keyed.{put_over}
use Rattle.coco_load.specs.Reading.{puts}
use Rattle.coco_load.specs.Tables.{HoldMap}
use Rattle.coco_query.proofs.tables.Replay.of_base.Given as goal

-- the lists of rows that are left come over those that are there
abbrev pub invariant-loop-rows : goal.invariant-loop-rows
invariant-loop-rows l = record {
  rows : put_over l.executor.rows (puts (flat_map (λ rows. rows) l.rows-iterator.rest.items)) ≡ put_over empty (puts (flat_map (λ rows. rows) l.fn.base.items));
  held : HoldMap l.layout l.executor.rows l.tables.shards.items l.tables.copies.items;
}
