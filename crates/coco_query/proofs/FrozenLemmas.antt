-- Tables that are taken from an opened store's shards and copies.
use Rattle.std.proofs.Common.{◌≡◌, ℕ, zero, suc, ◌%◌, ◌<◌, ◌≤◌, Bool, true, false, cond, nat_eq, List, length, map, Option, None, Some, IsSome, refl, sym, ap, ◌∙◌, subst, arith}
use Rattle.std.specs.FinMap.{empty, get}
use Rattle.std.specs.Option.{option_map, unwrap_or}
use Rattle.std.proofs.lemmas.Bool.{eqb-true}
use Rattle.std.proofs.lemmas.List.{get_or-map, length-map}
use Rattle.coco_types.specs.RowKey.{RowKey}
use Rattle.coco_types.specs.declared.value.Value.{Value}
use Rattle.coco_ast.specs.Keyed.{Rows, on_partition, value_at}
use Rattle.coco_ast.proofs.KeyedLemmas.{value_on_partition}
use Rattle.coco_copy.specs.CopyState.{CopyState}
use Rattle.coco_entry.specs.declared.layout.Layout.{Layout}
use Rattle.coco_load.specs.Tables.{HoldMap, HoldMaps, IsCopyOf, IsShardOf, Maps, copy_at, shard_at}
use Rattle.coco_shard.specs.RowState.{Holds, RowState, ShardState, resting, stable_at}
use Rattle.coco_query.specs.Frozen.{AreOfPartitions, HoldsFrozen, had, table_at}
use Rattle.coco_query.specs.Replaying.{newest_at, taken_from}
use Rattle.coco_query.specs.declared.frozen.Frozen.{Frozen}
use Rattle.coco_query.specs.declared.frozen.Frozen.TheVariants.{Shard, Copy}

-- ---- one table

held_stable : (f : RowKey → Option Value) (s : ShardState) → Holds f s → (k : RowKey) → stable_at s k ≡ f k
held_stable f s holds k = ap (λ (o : Option RowState). (unwrap_or o (resting None)).stable) (holds k) ∙ by (f k)
  where
    by : (o : Option Value) → (unwrap_or (option_map (λ value. resting (Some value)) o) (resting None)).stable ≡ o
    by None = refl
    by (Some value) = refl

there : (f : RowKey → Option Value) (s : ShardState) → Holds f s → (k : RowKey) → IsSome (f k) → IsSome (get s k)
there f s holds k some = subst IsSome (sym (holds k)) (by (f k) some)
  where
    by : (o : Option Value) → IsSome o → IsSome (option_map (λ value. resting (Some value)) o)
    by None some = absurd (let two : false ≡ true = some in cc)
    by (Some value) some = refl

-- a table that has the values of a map, each of them on this partition
record IsTableOf (count p : ℕ) (m : Rows) (t : Frozen) : Type 0 where
  pub values : (k : RowKey) → had t k ≡ value_at m k
  pub partition : (k : RowKey) → IsSome (had t k) → k.row % count ≡ p

of_shard : (count p : ℕ) (m : Rows) (s : ShardState) → IsShardOf count p m s → IsTableOf count p m (Shard s)
of_shard count p m s of = record {
  values = held_stable (value_at m) s of.holds;
  partition = λ k some. of.partition k (there (value_at m) s of.holds k (subst IsSome (held_stable (value_at m) s of.holds k) some));
}

of_copy : (count p : ℕ) (m : Rows) (s : CopyState) → IsCopyOf count p m s → IsTableOf count p m (Copy s)
of_copy count p m s of =
    let same : (k : RowKey) → value_at s.stable k ≡ value_at m k = λ k. ap (λ (t : CopyState). value_at t.stable k) of.holds in
    record { values = same; partition = λ k some. of.partition k (subst IsSome (same k) some) }

-- ---- those of the last epoch

-- which of a partition's tables is taken
abbrev taken : ℕ → ℕ
taken zero = 0
taken (suc n) = 1

module _ (layout : Layout) (maps : Maps) (shards : List ShardState) (copies : List CopyState) (held : HoldMaps layout maps shards copies) where
  newest_of : (p : ℕ) → p < layout.partitions → IsTableOf layout.partitions p (maps p (taken layout.copies)) (newest_at layout shards copies p)
  newest_of p less = by layout.copies (λ some. held.others p 1 less (omega arith) some)
    where
      by : (n : ℕ) → (1 ≤ n → IsCopyOf layout.partitions p (maps p 1) (copy_at layout copies p 1)) → IsTableOf layout.partitions p (maps p (taken n)) (taken_from n (shard_at shards p) (copy_at layout copies p 1))
      by zero copy = of_shard layout.partitions p (maps p 0) (shard_at shards p) (held.primaries p less)
      by (suc n) copy = of_copy layout.partitions p (maps p 1) (copy_at layout copies p 1) (copy (omega arith))

  module _ (tables : List Frozen) (count : length tables ≡ layout.partitions) (each : (p : ℕ) → p < layout.partitions → table_at tables p ≡ newest_at layout shards copies p) where
    within : (p : ℕ) → p < length tables → p < layout.partitions
    within p less = omega (arith, less, count)

    of_table : (p : ℕ) → p < length tables → IsTableOf layout.partitions p (maps p (taken layout.copies)) (table_at tables p)
    of_table p less = subst (IsTableOf layout.partitions p (maps p (taken layout.copies))) (sym (each p (within p less))) (newest_of p (within p less))

    pub newest_partitions : AreOfPartitions tables
    newest_partitions p k less some = subst (λ (n : ℕ). k.row % n ≡ p) (sym count) ((of_table p less).partition k some)

    pub newest_hold : (m : Rows) → ((p j : ℕ) → maps p j ≡ on_partition layout.partitions p m) → HoldsFrozen m tables
    newest_hold m are p k less =
        (of_table p less).values k ∙ ap (λ (n : Rows). value_at n k) (are p (taken layout.copies))
        ∙ ap (λ (n : ℕ). value_at (on_partition n p m) k) (sym count)

-- ---- shards alone

module _ (layout : Layout) (m : Rows) (shards : List ShardState) (copies : List CopyState) (held : HoldMap layout m shards copies) (tables : List Frozen) (are : tables ≡ map Shard shards) where
  pub shards_count : length tables ≡ layout.partitions
  shards_count = ap length are ∙ length-map shards Shard ∙ held.tables.shard_count

  pub shards_hold : HoldsFrozen m tables
  shards_hold p k less =
      let within : p < layout.partitions = omega (arith, less, shards_count) in
      let there : p < length shards = omega (arith, within, held.tables.shard_count) in
      ap (λ (t : Frozen). had t k) (ap (λ (ts : List Frozen). table_at ts p) are ∙ get_or-map Shard shards p empty (Shard empty) there)
      ∙ (of_shard layout.partitions p (on_partition layout.partitions p m) (shard_at shards p) (held.primaries p within)).values k
      ∙ ap (λ (n : ℕ). value_at (on_partition n p m) k) (sym shards_count)

-- tables that hold a map have each key on its partition
pub hold_partitions : (m : Rows) (tables : List Frozen) → HoldsFrozen m tables → AreOfPartitions tables
hold_partitions m tables hold p k less some =
    by (nat_eq (k.row % length tables) p) refl
  where
    by : (b : Bool) → nat_eq (k.row % length tables) p ≡ b → k.row % length tables ≡ p
    by true is = eqb-true (k.row % length tables) p is
    by false is = absurd (
        let none : had (table_at tables p) k ≡ None = hold p k less ∙ value_on_partition (length tables) p m k ∙ ap (λ (b : Bool). cond b (value_at m k) None) is in
        let two : false ≡ true = subst IsSome none some in cc)
