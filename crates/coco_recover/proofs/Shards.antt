-- The shards of loaded tables hold one map together.
use Rattle.std.proofs.Common.{◌≡◌, ℕ, ◌%◌, ◌<◌, ◌≤◌, true, false, cond, nat_eq, nat_lt, List, Option, None, Some, refl, sym, ap, subst, ◌∙◌, arith}
use Rattle.std.specs.Prelude.{IsSome}
use Rattle.std.specs.FinMap.{empty, get-empty}
use Rattle.std.specs.Option.{option_map, unwrap_or}
use Rattle.std.proofs.lemmas.Bool.{eq-eqb, ltb-false, ltb-true}
use Rattle.std.proofs.lemmas.List.{get_or_past}
use Rattle.std.proofs.lemmas.Option.{unwrap_or-slice_get}
use Rattle.std.proofs.lemmas.Nat.{mod_below}
use Rattle.coco_types.specs.RowKey.{RowKey, key_cmp}
use Rattle.coco_types.specs.declared.value.Value.{Value}
use Rattle.coco_ast.specs.Keyed.{Rows, on_partition, value_at}
use Rattle.coco_ast.proofs.KeyedLemmas.{value_on_partition}
use Rattle.coco_copy.specs.CopyState.{CopyState}
use Rattle.coco_entry.specs.declared.layout.Layout.{Layout}
use Rattle.coco_load.specs.Tables.{HoldMaps, Maps, shard_at}
use Rattle.coco_shard.specs.RowState.{Holds, IsOfPartition, IsSettled, RowState, ShardState, resting, stable_at}
use Rattle.coco_recover.specs.Opening.{ShardsHold, shard_in}

held_stable : (f : RowKey → Option Value) (s : ShardState) → Holds f s → (k : RowKey) → stable_at s k ≡ f k
held_stable f s holds k = ap (λ (o : Option RowState). (unwrap_or o (resting None)).stable) (holds k) ∙ by (f k)
  where
    by : (o : Option Value) → (unwrap_or (option_map (λ value. resting (Some value)) o) (resting None)).stable ≡ o
    by None = refl
    by (Some value) = refl

none_there : (count p : ℕ) → IsOfPartition count p empty
none_there count p k some = let two : false ≡ true = subst (λ (o : Option RowState). IsSome o) (get-empty key_cmp k) some in cc

module _ (layout : Layout) (maps : Maps) (shards : List ShardState) (copies : List CopyState) (held : HoldMaps layout maps shards copies) where
  same_shard : (p : ℕ) → shard_at shards p ≡ shard_in shards p
  same_shard p = sym (unwrap_or-slice_get shards p empty)

  of_partition : (p : ℕ) → IsOfPartition layout.partitions p (shard_at shards p)
  of_partition p = elim (nat_lt p layout.partitions) as (λ b. nat_lt p layout.partitions ≡ b → IsOfPartition layout.partitions p (shard_at shards p)) [
    | true ↦ λ t. (held.primaries p (ltb-true p layout.partitions t)).partition
    | false ↦ λ f. (
        let past : layout.partitions ≤ p = ltb-false p layout.partitions f in
        subst (IsOfPartition layout.partitions p) (sym (get_or_past shards p empty (omega (arith, past, held.tables.shard_count)))) (none_there layout.partitions p))
  ] refl

  pub shards_hold : (m : Rows) → ((p : ℕ) → p < layout.partitions → maps p 0 ≡ on_partition layout.partitions p m) → ShardsHold m shards
  shards_hold m are = record {
    partitions = λ p. subst (λ (n : ℕ). IsOfPartition n p (shard_in shards p)) (sym held.tables.shard_count) (subst (IsOfPartition layout.partitions p) (same_shard p) (of_partition p));
    settled = λ p. subst IsSettled (same_shard p) (held.tables.settled p);
    values = λ k. subst (λ (n : ℕ). stable_at (shard_in shards (k.row % n)) k ≡ value_at m k) (sym held.tables.shard_count) (value k);
  }
    where
      value : (k : RowKey) → stable_at (shard_in shards (k.row % layout.partitions)) k ≡ value_at m k
      value k =
          let p = k.row % layout.partitions in
          let within = mod_below k.row layout.partitions held.tables.ring.some in
          let here : nat_eq (k.row % layout.partitions) p ≡ true = eq-eqb p p refl in
          ap (λ (s : ShardState). stable_at s k) (sym (same_shard p))
          ∙ held_stable (value_at (maps p 0)) (shard_at shards p) (held.primaries p within).holds k
          ∙ ap (λ (n : Rows). value_at n k) (are p within)
          ∙ value_on_partition layout.partitions p m k
          ∙ ap (λ b. cond b (value_at m k) None) here
