-- The newest rows of all shards are those of the map that the tables have, whichever nodes are behind.
use Rattle.std.proofs.Common.{◌≡◌, ℕ, ◌%◌, ◌<◌, Bool, true, false, cond, List, [], length, get_or, Option, None, Some, refl, sym, ap, subst, ◌∙◌, arith}
use Rattle.std.specs.Prelude.{IsSome}
use Rattle.std.specs.Cmp.{nat_eq_equiv}
use Rattle.std.specs.FinMap.{get}
use Rattle.std.specs.Option.{unwrap_or}
use Rattle.coco_ast.proofs.KeyedLemmas.{value_on_partition}
use Rattle.coco_ast.specs.Keyed.{Rows, on_partition, value_at}
use Rattle.coco_finish.specs.Finishing.{HaveMap, is_behind}
use Rattle.coco_finish.specs.declared.tables.NodeTables.{NodeTables}
use Rattle.coco_load.proofs.JoinedMaps.{joined_make}
use Rattle.coco_load.specs.RowMaps.{joined, map_with}
use Rattle.coco_load.specs.Tables.{shard_at}
use Rattle.coco_shard.specs.RowState.{IsOfPartition, ListsRows, RowState, ShardState, newest_at, resting, value_at as version_at}
use Rattle.coco_standing.proofs.Resting.{newest_held}
use Rattle.coco_standing.specs.Places.{node_of}
use Rattle.coco_standing.specs.Standing.{ShardHas, ShardStands}
use Rattle.coco_types.specs.RowKey.{RowKey}
use Rattle.coco_types.specs.declared.value.Value.{Value}

-- shards of so many partitions have a map's rows as their newest ones
record HaveNewest (m : Rows) (shards : List ShardState) : Type 0 where
  pub some : 0 < length shards
  pub partitions : (p : ℕ) → p < length shards → IsOfPartition (length shards) p (shard_at shards p)
  pub values : (k : RowKey) → newest_at (shard_at shards (k.row % length shards)) k ≡ value_at m k

-- lists of the newest rows of so many of the shards, from the first on
pub record AreLists (shards : List ShardState) (n : ℕ) (lists : List (List (RowKey × Value))) : Type 0 where
  pub count : length lists ≡ n
  pub each : (p : ℕ) → p < n → ListsRows (version_at false (shard_at shards p)) (get_or lists p [])

has_row : (s : ShardState) (k : RowKey) (v : Value) → newest_at s k ≡ Some v → IsSome (get s k)
has_row s k v is = there (get s k) is
  where
    there : (o : Option RowState) → (unwrap_or o (resting None)).newest ≡ Some v → IsSome o
    there None none = cc
    there (Some row) _ = refl

lists_make : (m : Rows) (shards : List ShardState) (lists : List (List (RowKey × Value))) → HaveNewest m shards → AreLists shards (length shards) lists → map_with (joined lists) ≡ m
lists_make m shards lists have are = joined_make m (length shards) (λ p k. newest_at (shard_at shards p) k) lists have.some are.count are.each
    (λ p k v within is. sym (have.values k) ∙ ap (λ q. newest_at (shard_at shards q) k) (have.partitions p within k (has_row (shard_at shards p) k v is)) ∙ is)
    have.values

shard_newest : (is_behind : Bool) (count p : ℕ) (m : Rows) (s : ShardState) → ShardStands is_behind count p m s → ShardHas newest_at count p m s
shard_newest false count p m s of = newest_held count p m s of
shard_newest true count p m s has = has

-- their shards have the map's rows as their newest ones, whichever nodes are behind
have_newest : (m : Rows) (t : NodeTables) → HaveMap m t → HaveNewest m t.shards.items
have_newest m t stand = record {
  some = omega (arith, counted, some);
  partitions = λ p within. subst (λ n. IsOfPartition n p (shard_at t.shards.items p)) (sym counted) (at p (omega (arith, within, counted))).partition;
  values = λ k. subst (λ n. newest_at (shard_at t.shards.items (k.row % n)) k ≡ value_at m k) (sym counted) (value k);
}
  where
    counted : length t.shards.items ≡ t.layout.partitions
    counted = stand.counted.shard_count

    some : 0 < t.layout.partitions
    some = stand.counted.ring.some

    at : (p : ℕ) → p < t.layout.partitions → ShardHas newest_at t.layout.partitions p (on_partition t.layout.partitions p m) (shard_at t.shards.items p)
    at p within =
        let n = node_of t.layout p 0 in
        let around = stand.counted.ring.around in
        let there : n < t.layout.nodes = omega (arith, around) in
        shard_newest (is_behind t.behind.items n) t.layout.partitions p (on_partition t.layout.partitions p m) (shard_at t.shards.items p) ((stand.nodes n there).primaries p within refl)

    value : (k : RowKey) → newest_at (shard_at t.shards.items (k.row % t.layout.partitions)) k ≡ value_at m k
    value k =
        let p = k.row % t.layout.partitions in
        let within : p < t.layout.partitions = omega (arith, some) in
        (at p within).values k ∙ value_on_partition t.layout.partitions p m k ∙ ap (λ b. cond b (value_at m k) None) (nat_eq_equiv.refl p)

-- so such lists make the map
pub lists_are : (m : Rows) (t : NodeTables) (lists : List (List (RowKey × Value))) → HaveMap m t → AreLists t.shards.items (length t.shards.items) lists → map_with (joined lists) ≡ m
lists_are m t lists stand are = lists_make m t.shards.items lists (have_newest m t stand) are
