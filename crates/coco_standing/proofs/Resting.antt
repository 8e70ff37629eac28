-- What one table has once it is promoted, reverted or at rest.
use Rattle.std.proofs.Common.{◌≡◌, ℕ, Bool, true, false, Option, None, Some, refl, ap, ◌∙◌}
use Rattle.std.specs.FinMap.{get-empty}
use Rattle.std.specs.Option.{option_map, unwrap_or}
use Rattle.coco_types.specs.RowKey.{RowKey, key_cmp}
use Rattle.coco_types.specs.declared.value.Value.{Value}
use Rattle.coco_types.proofs.KeyMaps.{same_keyed}
use Rattle.coco_ast.specs.Keyed.{Rows, value_at}
use Rattle.coco_copy.specs.CopyState.{CopyState, begun, promoted_at}
use Rattle.coco_shard.specs.RowState.{RowState, ShardState, Holds, newest_at, resting, row_at, stable_at}
use Rattle.coco_shard.proofs.Partitions.{promoted_of, reverted_of}
use Rattle.coco_load.specs.Tables.{IsShardOf}
use Rattle.coco_standing.specs.Changes.{PromotesCopy, PromotesShard}
use Rattle.coco_standing.specs.Standing.{CopyStands, ShardHas, ShardStands}

-- ---- shards

row_held : (f : RowKey → Option Value) (s : ShardState) → Holds f s → (k : RowKey) → row_at s k ≡ resting (f k)
row_held f s holds k = ap (λ (o : Option RowState). unwrap_or o (resting None)) (holds k) ∙ choose (f k)
  where
    choose : (o : Option Value) → unwrap_or (option_map (λ value. resting (Some value)) o) (resting None) ≡ resting o
    choose None = refl
    choose (Some v) = refl

-- both versions of a shard at rest have its map
pub newest_held : (count p : ℕ) (m : Rows) (s : ShardState) → IsShardOf count p m s → ShardHas newest_at count p m s
newest_held count p m s of = record { values = λ k. ap (λ (r : RowState). r.newest) (row_held (value_at m) s of.holds k); partition = of.partition }

pub stable_held : (count p : ℕ) (m : Rows) (s : ShardState) → IsShardOf count p m s → ShardHas stable_at count p m s
stable_held count p m s of = record { values = λ k. ap (λ (r : RowState). r.stable) (row_held (value_at m) s of.holds k); partition = of.partition }

-- a shard that is settled on a version which has a map is that map's
settled_on : (version : ShardState → RowKey → Option Value) (m : Rows) (s t : ShardState) → Holds (version s) t → ((k : RowKey) → version s k ≡ value_at m k) → Holds (value_at m) t
settled_on version m s t holds values k = holds k ∙ ap (option_map (λ value. resting (Some value))) (values k)

from_newest : (count p : ℕ) (m : Rows) (s t : ShardState) → PromotesShard s t → ShardHas newest_at count p m s → IsShardOf count p m t
from_newest count p m s t promotes has = record { holds = settled_on newest_at m s t promotes has.values; partition = promoted_of count p s t promotes has.partition }

pub shard_promoted : (is_behind : Bool) (count p : ℕ) (m : Rows) (s t : ShardState) → PromotesShard s t → ShardStands is_behind count p m s → IsShardOf count p m t
shard_promoted false count p m s t promotes of = from_newest count p m s t promotes (newest_held count p m s of)
shard_promoted true count p m s t promotes has = from_newest count p m s t promotes has

pub shard_reverted : (count p : ℕ) (m : Rows) (s t : ShardState) → Holds (stable_at s) t → ShardHas stable_at count p m s → IsShardOf count p m t
shard_reverted count p m s t reverts has = record { holds = settled_on stable_at m s t reverts has.values; partition = reverted_of count p s t reverts has.partition }

-- ---- copies

-- to promote a copy at rest leaves its map
at_rest : (epoch : ℕ) (m : Rows) (k : RowKey) → promoted_at (begun epoch m) k ≡ value_at m k
at_rest epoch m k = ap (λ (o : Option (ℕ × Option Value)). unwrap_or (option_map (λ p. p.1) o) (value_at m k)) (get-empty key_cmp k)

pub copy_rests : (m : Rows) (s : CopyState) → s ≡ begun s.epoch m → (k : RowKey) → promoted_at s k ≡ value_at m k
copy_rests m s rests k = ap (λ (c : CopyState). promoted_at c k) rests ∙ at_rest s.epoch m k

from_promoted : (m : Rows) (s t : CopyState) → PromotesCopy s t → ((k : RowKey) → promoted_at s k ≡ value_at m k) → t ≡ begun t.epoch m
from_promoted m s t promotes values =
    ap (λ (rows : Rows). record t { stable = rows }) (same_keyed t.stable m (λ k. promotes.stable k ∙ values k))
    ∙ ap (λ (pending : _). record { epoch = t.epoch; stable = m; pending = pending }) promotes.pending

pub copy_promoted : (is_behind : Bool) (m : Rows) (s t : CopyState) → PromotesCopy s t → CopyStands is_behind m s → t ≡ begun t.epoch m
copy_promoted false m s t promotes rests = from_promoted m s t promotes (copy_rests m s rests)
copy_promoted true m s t promotes values = from_promoted m s t promotes values
