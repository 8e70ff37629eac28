-- The tables behind a row that is loaded into one of them.
use Rattle.std.proofs.Common.{◌≡◌, ℕ, ◌+◌, ◌-◌, ◌*◌, ◌%◌, ◌<◌, ◌≤◌, Bool, true, false, cond, ◌&&◌, nat_eq, List, [], ◌∷◌, ◌++◌, length, get_or, slice_set, take, zero, suc, Option, None, refl, sym, ap, ◌∙◌, subst, arith}
use Rattle.std.specs.FinMap.{empty, get-empty}
use Rattle.std.proofs.lemmas.Bool.{eqb-true, eq-eqb}
use Rattle.std.proofs.lemmas.List.{get_or-set_same, get_or-set_other, take_at}
use Rattle.std.proofs.Math.ListN.{length-set}
use Rattle.coco_shard.proofs.Steps.{loads_settle}
use Rattle.coco_types.specs.RowKey.{RowKey, key_cmp, partition_of}
use Rattle.coco_types.specs.declared.value.Value.{Value}
use Rattle.coco_types.proofs.KeyMaps.{same_keyed}
use Rattle.coco_ast.specs.Keyed.{Rows, on_partition, value_at, write_at}
use Rattle.coco_ast.proofs.KeyedLemmas.{value_on_partition}
use Rattle.coco_copy.specs.CopyState.{CopyState, begun}
use Rattle.coco_entry.specs.declared.layout.Layout.{Layout}
use Rattle.coco_shard.specs.RowState.{IsSettled, ShardState, loaded}
use Rattle.coco_load.specs.Reading.{with_row}
use Rattle.coco_load.specs.Tables.{AreTables, HoldMap, HoldMaps, IsCopyOf, IsRing, IsShardOf, Maps, copy_at, shard_at}
use Rattle.coco_load.proofs.Loading.{copy_loaded, no_copy, no_shard, settled_of, shard_loaded}
use Rattle.coco_load.proofs.Ring.{one_place, place_within}

two_sides : true ≡ false → ⊥
two_sides h = cc

-- ---- lists

at_set : {X : Type 0} (xs : List X) (i j : ℕ) (x d : X) → i < length xs → get_or (slice_set xs i x) j d ≡ cond (nat_eq j i) x (get_or xs j d)
at_set xs i j x d lt = elim (nat_eq j i) as (λ b. nat_eq j i ≡ b → get_or (slice_set xs i x) j d ≡ cond b x (get_or xs j d)) [
  | true ↦ λ t. ap (λ (n : ℕ). get_or (slice_set xs i x) n d) (eqb-true j i t) ∙ get_or-set_same xs i x d lt
  | false ↦ λ f. get_or-set_other xs i j x d (λ e. two_sides (sym (eq-eqb j i e) ∙ f))
] refl

pub all_default : {X : Type 0} (xs : List X) (x d : X) → x ≡ d → ((i : ℕ) → get_or xs i d ≡ d) → (i : ℕ) → get_or (xs ++ x ∷ []) i d ≡ d
all_default [] x d same none zero = same
all_default [] x d same none (suc i) = refl
all_default (y ∷ ys) x d same none zero = none 0
all_default (y ∷ ys) x d same none (suc i) = all_default ys x d same (λ j. none (suc j)) i

-- a list that was lent with one item set, put back in its place
pub put_back : {X : Type 0} (now rest old : List X) (len i : ℕ) (x : X) → len ≡ length old → now ≡ slice_set old i x → take len (now ++ rest) ≡ slice_set old i x
put_back now rest old len i x same are = take_at now rest len (ap length are ∙ length-set old i x ∙ sym same) ∙ are

-- ---- no rows

no_value : (b : Bool) (o : Option Value) → o ≡ None → cond b o None ≡ None
no_value true o none = none
no_value false o none = refl

pub on_empty : (count p : ℕ) → on_partition count p empty ≡ empty
on_empty count p = same_keyed _ _ (λ k. value_on_partition count p empty k ∙ no_value (nat_eq (k.row % count) p) (value_at empty k) (get-empty key_cmp k) ∙ sym (get-empty key_cmp k))

-- ---- one map more

with_row_same : (p j : ℕ) (k : RowKey) (v : Option Value) (maps : Maps) → with_row p j k v maps p j ≡ write_at (maps p j) k v
with_row_same p j k v maps = ap (λ (b : Bool). cond b (write_at (maps p j) k v) (maps p j)) (ap (λ (b : Bool). b && nat_eq j j) (eq-eqb p p refl) ∙ eq-eqb j j refl)

pub with_row_other : (p j : ℕ) (k : RowKey) (v : Option Value) (maps : Maps) (q i : ℕ) → (q ≡ p → i ≡ j → ⊥) → with_row p j k v maps q i ≡ maps q i
with_row_other p j k v maps q i apart = elim (nat_eq q p) as (λ b. nat_eq q p ≡ b → cond (b && nat_eq i j) (write_at (maps q i) k v) (maps q i) ≡ maps q i) [
  | true ↦ λ t. elim (nat_eq i j) as (λ c. nat_eq i j ≡ c → cond c (write_at (maps q i) k v) (maps q i) ≡ maps q i) [
    | true ↦ λ s. absurd (apart (eqb-true q p t) (eqb-true i j s))
    | false ↦ λ _. refl
  ] refl
  | false ↦ λ _. refl
] refl

-- maps that are the same for each table
pub same_maps : (layout : Layout) (maps others : Maps) (shards : List ShardState) (copies : List CopyState)
    → ((p j : ℕ) → p < layout.partitions → j ≤ layout.copies → maps p j ≡ others p j) → HoldMaps layout maps shards copies → HoldMaps layout others shards copies
same_maps layout maps others shards copies same hold = record {
  tables = hold.tables;
  primaries = λ p below. subst (λ (m : Rows). IsShardOf layout.partitions p m (shard_at shards p)) (same p 0 below (omega arith)) (hold.primaries p below);
  others = λ p j below from to. subst (λ (m : Rows). IsCopyOf layout.partitions p m (copy_at layout copies p j)) (same p j below to) (hold.others p j below from to);
}

module _ (layout : Layout) (key : RowKey) (value : Option Value) (shards : List ShardState) (copies : List CopyState) where
  abbrev here : ℕ
  here = partition_of layout.partitions key

  within : AreTables layout shards copies → here < layout.partitions
  within are = let some : 0 < layout.partitions = are.ring.some in omega arith

  -- ---- a shard

  abbrev shard : ShardState
  shard = loaded (shard_at shards here) key value

  abbrev shards_then : List ShardState
  shards_then = slice_set shards here shard

  shard_then : AreTables layout shards copies → (p : ℕ) → shard_at shards_then p ≡ cond (nat_eq p here) shard (shard_at shards p)
  shard_then are p = at_set shards here p shard empty (let count : length shards ≡ layout.partitions = are.shard_count in let lt : here < layout.partitions = within are in omega arith)

  pub shard_tables : AreTables layout shards copies → AreTables layout shards_then copies
  shard_tables are = record {
    ring = are.ring;
    shard_count = length-set shards here shard ∙ are.shard_count;
    copy_count = are.copy_count;
    settled = λ p. subst IsSettled (sym (shard_then are p)) (elim (nat_eq p here) as (λ b. IsSettled (cond b shard (shard_at shards p))) [
      | true ↦ loads_settle (shard_at shards here) key value (are.settled here)
      | false ↦ are.settled p
    ]);
  }

  pub shard_hold : (maps : Maps) → HoldMaps layout maps shards copies → HoldMaps layout (with_row here 0 key value maps) shards_then copies
  shard_hold maps hold = record {
    tables = shard_tables hold.tables;
    primaries = λ p below. subst (IsShardOf layout.partitions p (with_row here 0 key value maps p 0)) (sym (shard_then hold.tables p))
        (elim (nat_eq p here) as (λ b. nat_eq p here ≡ b → IsShardOf layout.partitions p (with_row here 0 key value maps p 0) (cond b shard (shard_at shards p))) [
          | true ↦ λ t. subst (λ (q : ℕ). IsShardOf layout.partitions q (with_row here 0 key value maps q 0) shard) (sym (eqb-true p here t)) now
          | false ↦ λ f. subst (λ (m : Rows). IsShardOf layout.partitions p m (shard_at shards p)) (sym (with_row_other here 0 key value maps p 0 (λ e _. two_sides (sym (eq-eqb p here e) ∙ f)))) (hold.primaries p below)
        ] refl);
    others = λ p j below from to. subst (λ (m : Rows). IsCopyOf layout.partitions p m (copy_at layout copies p j)) (sym (with_row_other here 0 key value maps p j (λ _ none. not_none j from none))) (hold.others p j below from to);
  }
    where
      not_none : (j : ℕ) → 1 ≤ j → j ≡ 0 → ⊥
      not_none j from none = omega arith

      now : IsShardOf layout.partitions here (with_row here 0 key value maps here 0) shard
      now = subst (λ (m : Rows). IsShardOf layout.partitions here m shard) (sym (with_row_same here 0 key value maps))
          (shard_loaded layout.partitions here (maps here 0) (shard_at shards here) key value refl (hold.primaries here (within hold.tables)))

  -- ---- a copy

  module _ (j : ℕ) (from : 1 ≤ j) (to : j ≤ layout.copies) where
    abbrev place : ℕ
    place = here * layout.copies + j - 1

    abbrev copy : CopyState
    copy = copy_at layout copies here j

    abbrev copy_loaded_then : CopyState
    copy_loaded_then = record copy { stable = write_at copy.stable key value }

    abbrev copies_then : List CopyState
    copies_then = slice_set copies place copy_loaded_then

    pub copy_tables : AreTables layout shards copies → AreTables layout shards copies_then
    copy_tables are = record {
      ring = are.ring;
      shard_count = are.shard_count;
      copy_count = length-set copies place copy_loaded_then ∙ are.copy_count;
      settled = are.settled;
    }

    copy_then : AreTables layout shards copies → (p i : ℕ) → copy_at layout copies_then p i ≡ cond (nat_eq (p * layout.copies + i - 1) place) copy_loaded_then (copy_at layout copies p i)
    copy_then are p i = at_set copies place (p * layout.copies + i - 1) copy_loaded_then (begun 0 empty)
        (subst (λ (n : ℕ). place < n) (sym are.copy_count) (place_within layout.copies layout.partitions here j (within are) from to))

    pub copy_hold : (maps : Maps) → HoldMaps layout maps shards copies → HoldMaps layout (with_row here j key value maps) shards copies_then
    copy_hold maps hold = record {
      tables = copy_tables hold.tables;
      primaries = λ p below. subst (λ (m : Rows). IsShardOf layout.partitions p m (shard_at shards p)) (sym (with_row_other here j key value maps p 0 (λ _ none. not_first none))) (hold.primaries p below);
      others = λ p i below since until. subst (IsCopyOf layout.partitions p (with_row here j key value maps p i)) (sym (copy_then hold.tables p i))
          (elim (nat_eq (p * layout.copies + i - 1) place) as (λ b. nat_eq (p * layout.copies + i - 1) place ≡ b → IsCopyOf layout.partitions p (with_row here j key value maps p i) (cond b copy_loaded_then (copy_at layout copies p i))) [
            | true ↦ λ t. (let e = one_place layout.copies p here i j since until from to (eqb-true (p * layout.copies + i - 1) place t) in
                subst (λ (q : ℕ). IsCopyOf layout.partitions q (with_row here j key value maps q i) copy_loaded_then) (sym e.0)
                (subst (λ (n : ℕ). IsCopyOf layout.partitions here (with_row here j key value maps here n) copy_loaded_then) (sym e.1) now))
            | false ↦ λ f. subst (λ (m : Rows). IsCopyOf layout.partitions p m (copy_at layout copies p i))
                (sym (with_row_other here j key value maps p i (λ e g. two_sides (sym (eq-eqb (p * layout.copies + i - 1) place (ap (λ (q : ℕ). q * layout.copies + i - 1) e ∙ ap (λ (n : ℕ). here * layout.copies + n - 1) g)) ∙ f))))
                (hold.others p i below since until)
          ] refl);
    }
      where
        not_first : 0 ≡ j → ⊥
        not_first none = omega arith

        now : IsCopyOf layout.partitions here (with_row here j key value maps here j) copy_loaded_then
        now = subst (λ (m : Rows). IsCopyOf layout.partitions here m copy_loaded_then) (sym (with_row_same here j key value maps))
            (copy_loaded layout.partitions here (maps here j) copy key value refl (hold.others here j (within hold.tables) from to))

  -- ---- no table

  pub none_hold : (j : ℕ) → layout.copies < j → (maps : Maps) → HoldMaps layout maps shards copies → HoldMaps layout (with_row here j key value maps) shards copies
  none_hold j above maps hold = same_maps layout maps (with_row here j key value maps) shards copies (λ p i below to. sym (with_row_other here j key value maps p i (λ _ e. over i to e))) hold
    where
      over : (i : ℕ) → i ≤ layout.copies → i ≡ j → ⊥
      over i to e = omega arith

-- ---- as the calls leave it

module _ (layout : Layout) (key : RowKey) (value : Option Value) (shards : List ShardState) (copies : List CopyState) where
  abbrev shards_at : ℕ → List ShardState
  shards_at i = slice_set shards i (loaded (shard_at shards i) key value)

  pub shard_left_tables : (i : ℕ) (now : List ShardState) → i ≡ partition_of layout.partitions key → now ≡ shards_at i → AreTables layout shards copies → AreTables layout now copies
  shard_left_tables i now is are tables =
      subst (λ (l : List ShardState). AreTables layout l copies) (sym are)
      (subst (λ (n : ℕ). AreTables layout (shards_at n) copies) (sym is) (shard_tables layout key value shards copies tables))

  pub shard_left : (behind i : ℕ) (now : List ShardState) → behind ≡ 0 → i ≡ partition_of layout.partitions key → now ≡ shards_at i
      → (maps : Maps) → HoldMaps layout maps shards copies → HoldMaps layout (with_row (partition_of layout.partitions key) behind key value maps) now copies
  shard_left behind i now first is are maps hold =
      subst (λ (n : ℕ). HoldMaps layout (with_row (partition_of layout.partitions key) n key value maps) now copies) (sym first)
      (subst (λ (l : List ShardState). HoldMaps layout (with_row (partition_of layout.partitions key) 0 key value maps) l copies) (sym are)
      (subst (λ (n : ℕ). HoldMaps layout (with_row (partition_of layout.partitions key) 0 key value maps) (shards_at n) copies) (sym is) (shard_hold layout key value shards copies maps hold)))

  abbrev copies_at : ℕ → List CopyState
  copies_at i = (let copy = get_or copies i (begun 0 empty) in slice_set copies i (record copy { stable = write_at copy.stable key value }))

  pub copy_left_tables : (behind p i : ℕ) (now : List CopyState) → 1 ≤ behind → behind ≤ layout.copies → p ≡ partition_of layout.partitions key → i ≡ p * layout.copies + behind - 1 → now ≡ copies_at i
      → AreTables layout shards copies → AreTables layout shards now
  copy_left_tables behind p i now from to is there are tables =
      subst (λ (l : List CopyState). AreTables layout shards l) (sym are)
      (subst (λ (n : ℕ). AreTables layout shards (copies_at n)) (sym (there ∙ ap (λ (q : ℕ). q * layout.copies + behind - 1) is)) (copy_tables layout key value shards copies behind from to tables))

  pub copy_left : (behind p i : ℕ) (now : List CopyState) → 1 ≤ behind → behind ≤ layout.copies → p ≡ partition_of layout.partitions key → i ≡ p * layout.copies + behind - 1 → now ≡ copies_at i
      → (maps : Maps) → HoldMaps layout maps shards copies → HoldMaps layout (with_row (partition_of layout.partitions key) behind key value maps) shards now
  copy_left behind p i now from to is there are maps hold =
      subst (λ (l : List CopyState). HoldMaps layout (with_row (partition_of layout.partitions key) behind key value maps) shards l) (sym are)
      (subst (λ (n : ℕ). HoldMaps layout (with_row (partition_of layout.partitions key) behind key value maps) shards (copies_at n)) (sym (there ∙ ap (λ (q : ℕ). q * layout.copies + behind - 1) is)) (copy_hold layout key value shards copies behind from to maps hold))

-- tables without rows hold the empty map
pub none_held : (layout : Layout) (shards : List ShardState) (copies : List CopyState) → IsRing layout → length shards ≡ layout.partitions → length copies ≡ layout.partitions * layout.copies
    → ((p : ℕ) → shard_at shards p ≡ empty) → ((i : ℕ) → get_or copies i (begun 0 empty) ≡ begun 0 empty) → HoldMap layout empty shards copies
none_held layout shards copies ring shard_count copy_count none nothing = record {
  tables = record {
    ring = ring;
    shard_count = shard_count;
    copy_count = copy_count;
    settled = λ p. subst IsSettled (sym (none p)) (settled_of 1 0 empty empty (no_shard 1 0));
  };
  primaries = λ p below. subst (λ (s : ShardState). IsShardOf layout.partitions p (on_partition layout.partitions p empty) s) (sym (none p))
      (subst (λ (m : Rows). IsShardOf layout.partitions p m empty) (sym (on_empty layout.partitions p)) (no_shard layout.partitions p));
  others = λ p j below from to. subst (λ (s : CopyState). IsCopyOf layout.partitions p (on_partition layout.partitions p empty) s) (sym (nothing (p * layout.copies + j - 1)))
      (subst (λ (m : Rows). IsCopyOf layout.partitions p m (begun 0 empty)) (sym (on_empty layout.partitions p)) (no_copy layout.partitions p));
}
