-- A shard or a copy behind a row that is loaded.
use Rattle.std.proofs.Common.{◌≡◌, ℕ, ◌%◌, Bool, true, false, cond, Option, None, Some, IsSome, refl, sym, ap, ◌∙◌, subst}
use Rattle.std.specs.FinMap.{empty, get-empty}
use Rattle.std.specs.Option.{is_some, option_map, unwrap_or}
use Rattle.coco_shard.proofs.Steps.{holds_settled, loads_settle}
use Rattle.coco_types.specs.RowKey.{RowKey, key_cmp}
use Rattle.coco_types.specs.declared.value.Value.{Value}
use Rattle.coco_types.proofs.Keys.{is_key, key_swap, one_key}
use Rattle.coco_types.proofs.KeyMaps.{get_put, get_taken}
use Rattle.coco_ast.specs.Keyed.{Rows, value_at, write_at}
use Rattle.coco_ast.proofs.Writing.{value_written}
use Rattle.coco_copy.specs.CopyState.{CopyState, begun}
use Rattle.coco_shard.specs.RowState.{RowState, ShardState, Holds, IsSettled, loaded, resting, stable_at}
use Rattle.coco_shard.proofs.Partitions.{loaded_of, none_of}
use Rattle.coco_load.specs.Tables.{IsCopyOf, IsShardOf}

-- ---- shards

abbrev rested : Option Value → Option RowState
rested = option_map (λ value. resting (Some value))

held_loaded : (f : RowKey → Option Value) (s : ShardState) (key : RowKey) (value : Option Value) → Holds f s → Holds (λ k. cond (is_key key k) value (f k)) (loaded s key value)
held_loaded f s key None holds k = get_taken s key k ∙ ap (cond (is_key key k) None) (holds k) ∙ choose (is_key key k)
  where
    choose : (b : Bool) → cond b None (rested (f k)) ≡ rested (cond b None (f k))
    choose true = refl
    choose false = refl
held_loaded f s key (Some v) holds k = get_put s key (resting (Some v)) k ∙ ap (cond (is_key key k) (Some (resting (Some v)))) (holds k) ∙ choose (is_key key k)
  where
    choose : (b : Bool) → cond b (Some (resting (Some v))) (rested (f k)) ≡ rested (cond b (Some v) (f k))
    choose true = refl
    choose false = refl

stable_held : (f : RowKey → Option Value) (s : ShardState) → Holds f s → (k : RowKey) → stable_at s k ≡ f k
stable_held f s holds k = ap (λ (o : Option RowState). (unwrap_or o (resting None)).stable) (holds k) ∙ choose (f k)
  where
    choose : (o : Option Value) → (unwrap_or (rested o) (resting None)).stable ≡ o
    choose None = refl
    choose (Some v) = refl

pub settled_of : (count p : ℕ) (m : Rows) (s : ShardState) → IsShardOf count p m s → IsSettled s
settled_of count p m s of = holds_settled (value_at m) s of.holds

pub shard_loaded : (count p : ℕ) (m : Rows) (s : ShardState) (key : RowKey) (value : Option Value) → key.row % count ≡ p → IsShardOf count p m s → IsShardOf count p (write_at m key value) (loaded s key value)
shard_loaded count p m s key value here of = record {
  holds = λ k. held_loaded (value_at m) s key value of.holds k
      ∙ ap rested (sym (value_written m key value k ∙ ap (λ (b : Bool). cond b value (value_at m k)) (key_swap k key)));
  partition = loaded_of count p s key value here of.partition;
}

pub no_shard : (count p : ℕ) → IsShardOf count p empty empty
no_shard count p = record {
  holds = λ k. get-empty key_cmp k ∙ ap rested (sym (get-empty key_cmp k));
  partition = none_of count p;
}

-- ---- copies

pub copy_loaded : (count p : ℕ) (m : Rows) (s : CopyState) (key : RowKey) (value : Option Value) → key.row % count ≡ p → IsCopyOf count p m s → IsCopyOf count p (write_at m key value) (record s { stable = write_at s.stable key value })
copy_loaded count p m s key value here of = record {
  holds = ap (λ (c : CopyState). record c { stable = write_at c.stable key value }) of.holds;
  partition = λ k there. elim (is_key k key) as (λ b. is_key k key ≡ b → IsSome (cond b value (value_at m k)) → k.row % count ≡ p) [
    | true ↦ λ t _. ap (λ (z : RowKey). z.row % count) (one_key k key t) ∙ here
    | false ↦ λ _ old. of.partition k old
  ] refl (subst IsSome (value_written m key value k) there);
}

two_sides : true ≡ false → ⊥
two_sides h = cc

pub no_copy : (count p : ℕ) → IsCopyOf count p empty (begun 0 empty)
no_copy count p = record { holds = refl; partition = λ k there. absurd (two_sides (sym there ∙ ap is_some (get-empty key_cmp k))) }
