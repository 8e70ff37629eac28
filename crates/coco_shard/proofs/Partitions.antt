-- A shard's rows stay those of its partition.
use Rattle.std.proofs.Common.{◌≡◌, ℕ, ◌%◌, true, false, cond, Option, None, Some, IsSome, refl, sym, ap, ◌∙◌, subst}
use Rattle.std.specs.Option.{option_map, unwrap_or, is_some}
use Rattle.std.specs.FinMap.{get, insert, remove, empty, get-empty}
use Rattle.coco_types.specs.RowKey.{RowKey, key_cmp}
use Rattle.coco_types.specs.declared.value.Value.{Value}
use Rattle.coco_shard.specs.declared.ops.Ask.{Ask}
use Rattle.coco_shard.specs.RowState.{RowState, ShardState, Holds, IsOfPartition, loaded, newest_at, resting, row_at, stable_at, with_row}
use Rattle.coco_shard.specs.Table.{after_ask, answer_at, key_of, left_by}
use Rattle.coco_types.proofs.Keys.{is_key, one_key}
use Rattle.coco_types.proofs.KeyMaps.{get_put, get_taken}

two_sides : true ≡ false → ⊥
two_sides h = cc

module _ (count p : ℕ) where
  pub none_of : IsOfPartition count p empty
  none_of k there = absurd (two_sides (sym there ∙ ap is_some (get-empty key_cmp k)))

  pub put_of : (s : ShardState) (key : RowKey) (row : RowState) → key.row % count ≡ p → IsOfPartition count p s → IsOfPartition count p (insert s key row)
  put_of s key row here of k there =
      elim (is_key key k) as (λ b. is_key key k ≡ b → IsSome (cond b (Some row) (get s k)) → k.row % count ≡ p) [
        | true ↦ λ t _. ap (λ z. z.row % count) (sym (one_key key k t)) ∙ here
        | false ↦ λ _ old. of k old
      ] refl (subst IsSome (get_put s key row k) there)

  pub taken_of : (s : ShardState) (key : RowKey) → IsOfPartition count p s → IsOfPartition count p (remove s key)
  taken_of s key of k there =
      elim (is_key key k) as (λ b. IsSome (cond b None (get s k)) → k.row % count ≡ p) [
        | true ↦ λ none. absurd (two_sides (sym none))
        | false ↦ λ old. of k old
      ] (subst IsSome (get_taken s key k) there)

  pub loaded_of : (s : ShardState) (key : RowKey) (value : Option Value) → key.row % count ≡ p → IsOfPartition count p s → IsOfPartition count p (loaded s key value)
  loaded_of s key None here of = taken_of s key of
  loaded_of s key (Some value) here of = put_of s key (resting (Some value)) here of

  with_of : (s : ShardState) (key : RowKey) (left : Option RowState) → key.row % count ≡ p → IsOfPartition count p s → IsOfPartition count p (with_row s key left)
  with_of s key None here of = of
  with_of s key (Some row) here of = put_of s key row here of

  pub asked_of : (s : ShardState) (ask : Ask) → (key_of ask.op).row % count ≡ p → IsOfPartition count p s → IsOfPartition count p (after_ask s ask)
  asked_of s ask here of =
      let row : RowState = row_at s (key_of ask.op) in
      with_of s (key_of ask.op) (left_by (answer_at row ask.by ask.op) ask.by ask.op row) here of

  -- a missing row has no value in either version
  valued : (version : RowState → Option Value) → version (resting None) ≡ None → (s : ShardState) (k : RowKey) → IsSome (version (row_at s k)) → IsSome (get s k)
  valued version bare s k = elim (get s k) as (λ o. IsSome (version (unwrap_or o (resting None))) → IsSome o) [
    | None ↦ λ some. absurd (two_sides (sym some ∙ ap is_some bare))
    | Some row ↦ λ _. refl
  ]

  held : (s t : ShardState) (version : RowState → Option Value) → version (resting None) ≡ None → Holds (λ k. version (row_at s k)) t → IsOfPartition count p s → IsOfPartition count p t
  held s t version bare holds of k there = of k (valued version bare s k (mapped (version (row_at s k)) (subst IsSome (holds k) there)))
    where
      mapped : (o : Option Value) → IsSome (option_map (λ value. resting (Some value)) o) → IsSome o
      mapped None h = absurd (two_sides (sym h))
      mapped (Some v) h = refl

  pub promoted_of : (s t : ShardState) → Holds (newest_at s) t → IsOfPartition count p s → IsOfPartition count p t
  promoted_of s t = held s t (λ row. row.newest) refl

  pub reverted_of : (s t : ShardState) → Holds (stable_at s) t → IsOfPartition count p s → IsOfPartition count p t
  reverted_of s t = held s t (λ row. row.stable) refl
