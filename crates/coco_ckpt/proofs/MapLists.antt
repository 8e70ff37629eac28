-- Lists of the rows of one map, one list for each shard that holds a part of it, make that map.
use Rattle.std.proofs.Common.{◌≡◌, ℕ, ◌<◌, true, List, [], length, get_or, Option, None, Some, refl, sym, ap, ◌∙◌}
use Rattle.std.specs.Prelude.{IsSome}
use Rattle.std.specs.FinMap.{get}
use Rattle.std.specs.Option.{unwrap_or}
use Rattle.coco_types.specs.RowKey.{RowKey}
use Rattle.coco_types.specs.declared.value.Value.{Value}
use Rattle.coco_ast.specs.Keyed.{Rows, value_at}
use Rattle.coco_load.proofs.JoinedMaps.{joined_make}
use Rattle.coco_load.specs.RowMaps.{joined, map_with}
use Rattle.coco_recover.specs.Opening.{ShardsHold, shard_in}
use Rattle.coco_shard.specs.RowState.{ListsRows, RowState, ShardState, resting, stable_at, value_at as version_at}

has_row : (s : ShardState) (k : RowKey) (v : Value) → stable_at s k ≡ Some v → IsSome (get s k)
has_row s k v is = there (get s k) is
  where
    there : (o : Option RowState) → (unwrap_or o (resting None)).stable ≡ Some v → IsSome o
    there None none = cc
    there (Some row) _ = refl

-- lists of the stable rows of so many of the shards, from the first on
pub record AreLists (shards : List ShardState) (n : ℕ) (lists : List (List (RowKey × Value))) : Type 0 where
  pub count : length lists ≡ n
  pub each : (p : ℕ) → p < n → ListsRows (version_at true (shard_in shards p)) (get_or lists p [])

module _ (m : Rows) (shards : List ShardState) (hold : ShardsHold m shards) where
  -- what is stable in a shard is the map's
  stable_of : (p : ℕ) (k : RowKey) (v : Value) → stable_at (shard_in shards p) k ≡ Some v → value_at m k ≡ Some v
  stable_of p k v is =
      sym (hold.values k) ∙ ap (λ q. stable_at (shard_in shards q) k) (hold.partitions p k (has_row (shard_in shards p) k v is)) ∙ is

  -- lists of all shards that hold one map make it
  pub lists_make : (lists : List (List (RowKey × Value))) → 0 < length shards → AreLists shards (length shards) lists → map_with (joined lists) ≡ m
  lists_make lists some are = joined_make m (length shards) (λ p k. stable_at (shard_in shards p) k) lists some are.count are.each (λ p k v within is. stable_of p k v is) hold.values
