-- Where the tables of an epoch come from.
use Rattle.std.specs.Prelude.{ℕ, zero, suc, List}
use Rattle.coco_ast.specs.Keyed.{Rows}
use Rattle.coco_copy.specs.CopyState.{CopyState}
use Rattle.coco_entry.specs.declared.layout.Layout.{Layout}
use Rattle.coco_load.specs.Tables.{HoldMap, copy_at, shard_at}
use Rattle.coco_shard.specs.RowState.{ShardState}
use Rattle.coco_query.specs.declared.frozen.Frozen.{Frozen}
use Rattle.coco_query.specs.declared.frozen.Frozen.TheVariants.{Shard, Copy}

-- the table of a partition at the last epoch: its first copy, or its shard where there are no copies
abbrev pub taken_from : ℕ → ShardState → CopyState → Frozen
taken_from zero shard copy = Shard shard
taken_from (suc n) shard copy = Copy copy

abbrev pub newest_at : Layout → List ShardState → List CopyState → ℕ → Frozen
newest_at layout shards copies p = taken_from layout.copies (shard_at shards p) (copy_at layout copies p 1)

-- shards that stand alone hold this map
abbrev pub HoldsItsMap : Layout → Rows → List ShardState → Type 0
HoldsItsMap layout m shards = (copies : List CopyState) × HoldMap layout m shards copies
