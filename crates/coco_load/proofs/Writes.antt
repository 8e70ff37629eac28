-- What rows make of the maps of all tables.
use Rattle.std.proofs.Common.{◌≡◌, ℕ, ◌+◌, ◌%◌, ◌<◌, ◌≤◌, Bool, true, false, cond, ◌&&◌, nat_eq, nat_lt, List, [], ◌∷◌, ◌++◌, append-nil, filter, map, Option, None, Some, refl, sym, ap, ◌∙◌, subst, arith}
use Rattle.std.proofs.lemmas.Bool.{eqb-true, eq-eqb}
use Rattle.std.proofs.lemmas.Bool.Decides.{nat_tests}
use Rattle.std.proofs.lemmas.List.{map-append}
use Rattle.std.proofs.lemmas.List.Elements.{filter-append}
use Rattle.coco_types.specs.RowKey.{RowKey, partition_of}
use Rattle.coco_types.specs.declared.call.Write.{Write}
use Rattle.coco_types.specs.declared.value.Value.{Value}
use Rattle.coco_types.proofs.Keys.{is_key, one_key}
use Rattle.coco_types.proofs.KeyMaps.{same_keyed}
use Rattle.coco_ast.specs.Keyed.{Rows, on_partition, put_over, value_at, write_at}
use Rattle.coco_ast.proofs.KeyedLemmas.{value_on_partition}
use Rattle.coco_ast.proofs.Writing.{value_written}
use Rattle.coco_copy.specs.CopyState.{CopyState}
use Rattle.coco_entry.specs.declared.layout.Layout.{Layout}
use Rattle.coco_entry.specs.declared.prepared.Row.{Row}
use Rattle.coco_shard.specs.RowState.{ShardState}
use Rattle.coco_store.specs.Contents.{writes_on}
use Rattle.coco_store.specs.Rules.{Setting}
use Rattle.coco_load.specs.Reading.{puts, with_row, with_rows}
use Rattle.coco_load.specs.Tables.{HoldMap, HoldMaps, Maps}
use Rattle.coco_load.proofs.Ring.{one_round}
use Rattle.coco_load.proofs.TableLemmas.{same_maps, with_row_other}

two_sides : true ≡ false → ⊥
two_sides h = cc

pub put_over-append : (m : Rows) (xs ys : List Write) → put_over m (xs ++ ys) ≡ put_over (put_over m xs) ys
put_over-append m [] ys = refl
put_over-append m (x ∷ xs) ys = put_over-append (write_at m x.key x.value) xs ys

-- ---- one map on its partitions

-- a write stands on the partition of its key alone
module _ (count : ℕ) (m : Rows) (key : RowKey) (value : Option Value) where
  abbrev there : ℕ
  there = key.row % count

  on_there : on_partition count there (write_at m key value) ≡ write_at (on_partition count there m) key value
  on_there = same_keyed _ _ (λ k.
      value_on_partition count there (write_at m key value) k ∙ ap (λ (o : Option Value). cond (nat_eq (k.row % count) there) o None) (value_written m key value k)
      ∙ elim (is_key k key) as (λ b. is_key k key ≡ b → cond (nat_eq (k.row % count) there) (cond b value (value_at m k)) None ≡ cond b value (cond (nat_eq (k.row % count) there) (value_at m k) None)) [
        | true ↦ λ t. ap (λ (b : Bool). cond b value None) (eq-eqb (k.row % count) there (ap (λ (z : RowKey). z.row % count) (one_key k key t)))
        | false ↦ λ _. refl
      ] refl
      ∙ sym (value_written (on_partition count there m) key value k ∙ ap (cond (is_key k key) value) (value_on_partition count there m k)))

  on_others : (p : ℕ) → nat_eq p there ≡ false → on_partition count p (write_at m key value) ≡ on_partition count p m
  on_others p other = same_keyed _ _ (λ k.
      value_on_partition count p (write_at m key value) k ∙ ap (λ (o : Option Value). cond (nat_eq (k.row % count) p) o None) (value_written m key value k)
      ∙ elim (is_key k key) as (λ b. is_key k key ≡ b → cond (nat_eq (k.row % count) p) (cond b value (value_at m k)) None ≡ cond (nat_eq (k.row % count) p) (value_at m k) None) [
        | true ↦ λ t. (let no : nat_eq (k.row % count) p ≡ false = not_there k t in ap (λ (b : Bool). cond b value None) no ∙ sym (ap (λ (b : Bool). cond b (value_at m k) None) no))
        | false ↦ λ _. refl
      ] refl
      ∙ sym (value_on_partition count p m k))
    where
      not_there : (k : RowKey) → is_key k key ≡ true → nat_eq (k.row % count) p ≡ false
      not_there k t = elim (nat_eq (k.row % count) p) as (λ b. nat_eq (k.row % count) p ≡ b → b ≡ false) [
        | true ↦ λ s. absurd (two_sides (sym (eq-eqb p there (sym (eqb-true (k.row % count) p s) ∙ ap (λ (z : RowKey). z.row % count) (one_key k key t))) ∙ other))
        | false ↦ λ _. refl
      ] refl

  pub on_written : (p : ℕ) → on_partition count p (write_at m key value) ≡ cond (nat_eq p there) (write_at (on_partition count p m) key value) (on_partition count p m)
  on_written p = elim (nat_eq p there) as (λ b. nat_eq p there ≡ b → on_partition count p (write_at m key value) ≡ cond b (write_at (on_partition count p m) key value) (on_partition count p m)) [
    | true ↦ λ t. subst (λ (q : ℕ). on_partition count q (write_at m key value) ≡ write_at (on_partition count q m) key value) (sym (eqb-true p there t)) on_there
    | false ↦ λ f. on_others p f
  ] refl

-- ---- a row of a base, in one table after another

written_more : (b : Bool) (j n : ℕ) (m : Rows) (key : RowKey) (value : Option Value)
    → cond (b && nat_eq j n) (write_at (cond (b && nat_lt j n) (write_at m key value) m) key value) (cond (b && nat_lt j n) (write_at m key value) m) ≡ cond (b && nat_lt j (n + 1)) (write_at m key value) m
written_more true j n m key value = elim (nat_eq j n) as (λ b. nat_eq j n ≡ b → cond b (write_at (cond (nat_lt j n) (write_at m key value) m) key value) (cond (nat_lt j n) (write_at m key value) m) ≡ cond (nat_lt j (n + 1)) (write_at m key value) m) [
  | true ↦ λ t. ap (λ (b : Bool). write_at (cond b (write_at m key value) m) key value) (not_below j n t) ∙ sym (ap (λ (b : Bool). cond b (write_at m key value) m) (is_below j n t))
  | false ↦ λ f. ap (λ (b : Bool). cond b (write_at m key value) m) (alike j n f)
] refl
  where
    not_below : (j n : ℕ) → nat_eq j n ≡ true → nat_lt j n ≡ false
    not_below j n same = grind (arith, nat_tests)

    is_below : (j n : ℕ) → nat_eq j n ≡ true → nat_lt j (n + 1) ≡ true
    is_below j n same = grind (arith, nat_tests)

    alike : (j n : ℕ) → nat_eq j n ≡ false → nat_lt j n ≡ nat_lt j (n + 1)
    alike j n other = grind (arith, nat_tests)
written_more false j n m key value = refl

module _ (layout : Layout) (key : RowKey) (value : Option Value) (m : Rows) where
  -- the tables before this one have the row
  abbrev pub written_below : ℕ → Maps
  written_below n p j = cond (nat_eq p (partition_of layout.partitions key) && nat_lt j n) (write_at (on_partition layout.partitions p m) key value) (on_partition layout.partitions p m)

  pub none_written : (shards : List ShardState) (copies : List CopyState) → HoldMap layout m shards copies → HoldMaps layout (written_below 0) shards copies
  none_written shards copies = same_maps layout (λ p j. on_partition layout.partitions p m) (written_below 0) shards copies (λ p j below to. sym (ap (λ (b : Bool). cond b (write_at (on_partition layout.partitions p m) key value) (on_partition layout.partitions p m)) (no (nat_eq p (partition_of layout.partitions key)) j)))
    where
      no : (b : Bool) (j : ℕ) → b && nat_lt j 0 ≡ false
      no true j = grind (arith, nat_tests)
      no false j = refl

  more : (n p j : ℕ) → with_row (partition_of layout.partitions key) n key value (written_below n) p j ≡ written_below (n + 1) p j
  more n p j = written_more (nat_eq p (partition_of layout.partitions key)) j n (on_partition layout.partitions p m) key value

  pub one_more_written : (shards : List ShardState) (copies : List CopyState) (n : ℕ) → HoldMaps layout (with_row (partition_of layout.partitions key) n key value (written_below n)) shards copies → HoldMaps layout (written_below (n + 1)) shards copies
  one_more_written shards copies n = same_maps layout (with_row (partition_of layout.partitions key) n key value (written_below n)) (written_below (n + 1)) shards copies (λ p j below to. more n p j)

  pub all_written : (shards : List ShardState) (copies : List CopyState) (n : ℕ) → layout.copies < n → HoldMaps layout (written_below n) shards copies → HoldMap layout (write_at m key value) shards copies
  all_written shards copies n over = same_maps layout (written_below n) (λ p j. on_partition layout.partitions p (write_at m key value)) shards copies
      (λ p j below to. ap (λ (b : Bool). cond b (write_at (on_partition layout.partitions p m) key value) (on_partition layout.partitions p m)) (yes (nat_eq p (partition_of layout.partitions key)) j to) ∙ sym (on_written layout.partitions m key value p))
    where
      yes : (b : Bool) (j : ℕ) → j ≤ layout.copies → b && nat_lt j n ≡ b
      yes true j to = grind (arith, nat_tests)
      yes false j to = refl

-- one row more of a base
pub put_more : (m : Rows) (rows : List (RowKey × Value)) (row : RowKey × Value) → put_over m (puts (rows ++ row ∷ [])) ≡ write_at (put_over m (puts rows)) row.0 (Some row.1)
put_more m rows row = ap (put_over m) (map-append (λ (r : RowKey × Value). record { key = r.0; value = Some r.1 }) rows (row ∷ [])) ∙ put_over-append m (puts rows) (puts (row ∷ []))

-- ---- rows of a node

module _ (s : Setting) (n : ℕ) (maps : Maps) where
  no_rows : (p j : ℕ) → maps p j ≡ with_rows s n [] maps p j
  no_rows p j = elim (nat_eq ((p + j) % s.entry.layout.nodes) n) as (λ b. maps p j ≡ cond b (maps p j) (maps p j)) [ true ↦ refl | false ↦ refl ]

  abbrev home : Row → ℕ
  home row = partition_of s.entry.layout.partitions row.key

  abbrev w : ℕ
  w = s.entry.layout.nodes

  abbrev write_of : Row → Write
  write_of r = record { key = r.key; value = r.value }

  abbrev is_on : ℕ → Row → Bool
  is_on p r = nat_eq (partition_of s.entry.layout.partitions r.key) p

  writes_more : (p : ℕ) (rows : List Row) (row : Row) → writes_on s p (rows ++ row ∷ []) ≡ writes_on s p rows ++ map write_of (cond (is_on p row) (row ∷ []) [])
  writes_more p rows row = ap (map write_of) (filter-append (is_on p) rows (row ∷ [])) ∙ map-append write_of (filter (is_on p) rows) (cond (is_on p row) (row ∷ []) [])

  writes_there : (p : ℕ) (rows : List Row) (row : Row) → is_on p row ≡ true → (m : Rows) → put_over m (writes_on s p (rows ++ row ∷ [])) ≡ write_at (put_over m (writes_on s p rows)) row.key row.value
  writes_there p rows row is m = ap (put_over m) (writes_more p rows row ∙ ap (λ (b : Bool). writes_on s p rows ++ map write_of (cond b (row ∷ []) [])) is) ∙ put_over-append m (writes_on s p rows) (write_of row ∷ [])

  writes_apart : (p : ℕ) (rows : List Row) (row : Row) → is_on p row ≡ false → writes_on s p (rows ++ row ∷ []) ≡ writes_on s p rows
  writes_apart p rows row is = writes_more p rows row ∙ ap (λ (b : Bool). writes_on s p rows ++ map write_of (cond b (row ∷ []) [])) is ∙ append-nil (writes_on s p rows)

  -- one row more goes to the table of its partition on this node, if there is one
  row_more : (rows : List Row) (row : Row) (i p j : ℕ) → j < s.entry.layout.nodes → i < s.entry.layout.nodes → (partition_of s.entry.layout.partitions row.key + i) % s.entry.layout.nodes ≡ n
      → with_row (home row) i row.key row.value (with_rows s n rows maps) p j ≡ with_rows s n (rows ++ row ∷ []) maps p j
  row_more rows row i p j below under at =
      elim (nat_eq (home row) p) as (λ b. nat_eq (home row) p ≡ b → with_row (home row) i row.key row.value (with_rows s n rows maps) p j ≡ with_rows s n (rows ++ row ∷ []) maps p j) [
        | true ↦ λ t. (let same : (home row) ≡ p = eqb-true (home row) p t in
            elim (nat_eq ((p + j) % w) n) as (λ b. nat_eq ((p + j) % w) n ≡ b → with_row (home row) i row.key row.value (with_rows s n rows maps) p j ≡ cond b (put_over (maps p j) (writes_on s p (rows ++ row ∷ []))) (maps p j)) [
              | true ↦ λ on. (let both : nat_eq p (home row) && nat_eq j i ≡ true = two (nat_eq p (home row)) (nat_eq j i) (eq-eqb p (home row) (sym same)) (eq-eqb j i (turn on same)) in
                  ap (λ (b : Bool). cond b (write_at (with_rows s n rows maps p j) row.key row.value) (with_rows s n rows maps p j)) both
                  ∙ ap (λ (b : Bool). write_at (cond b (put_over (maps p j) (writes_on s p rows)) (maps p j)) row.key row.value) on
                  ∙ sym (writes_there p rows row t (maps p j)))
              | false ↦ λ off.
                  with_row_other (home row) i row.key row.value (with_rows s n rows maps) p j (λ e g. two_sides (sym (eq-eqb ((p + j) % w) n (ap (λ (q : ℕ). (q + j) % w) e ∙ ap (λ (k : ℕ). ((home row) + k) % w) g ∙ at)) ∙ off))
                  ∙ ap (λ (b : Bool). cond b (put_over (maps p j) (writes_on s p rows)) (maps p j)) off
            ] refl)
        | false ↦ λ f.
            with_row_other (home row) i row.key row.value (with_rows s n rows maps) p j (λ e g. two_sides (sym (eq-eqb (home row) p (sym e)) ∙ f))
            ∙ ap (λ (ws : List Write). cond (nat_eq ((p + j) % w) n) (put_over (maps p j) ws) (maps p j)) (sym (writes_apart p rows row f))
      ] refl
    where
      two : (a b : Bool) → a ≡ true → b ≡ true → a && b ≡ true
      two true b one other = other
      two false b one other = one

      turn : nat_eq ((p + j) % w) n ≡ true → (home row) ≡ p → j ≡ i
      turn on same = one_round w p j i below under (eqb-true ((p + j) % w) n on ∙ sym at ∙ ap (λ (q : ℕ). (q + i) % w) same)

pub rows_begin : (layout : Layout) (s : Setting) (n : ℕ) (maps : Maps) (shards : List ShardState) (copies : List CopyState) → HoldMaps layout maps shards copies → HoldMaps layout (with_rows s n [] maps) shards copies
rows_begin layout s n maps shards copies = same_maps layout maps (with_rows s n [] maps) shards copies (λ p j below to. no_rows s n maps p j)

pub rows_more : (layout : Layout) (s : Setting) → s.entry.layout ≡ layout → (n : ℕ) (maps : Maps) (rows : List Row) (row : Row) (i : ℕ) (shards : List ShardState) (copies : List CopyState)
    → i < layout.nodes → (partition_of layout.partitions row.key + i) % layout.nodes ≡ n
    → HoldMaps layout (with_row (partition_of layout.partitions row.key) i row.key row.value (with_rows s n rows maps)) shards copies
    → HoldMaps layout (with_rows s n (rows ++ row ∷ []) maps) shards copies
rows_more layout s is n maps rows row i shards copies = subst (λ (l : Layout). i < l.nodes → (partition_of l.partitions row.key + i) % l.nodes ≡ n
    → HoldMaps l (with_row (partition_of l.partitions row.key) i row.key row.value (with_rows s n rows maps)) shards copies
    → HoldMaps l (with_rows s n (rows ++ row ∷ []) maps) shards copies) is
    (λ under at hold. same_maps s.entry.layout (with_row (partition_of s.entry.layout.partitions row.key) i row.key row.value (with_rows s n rows maps)) (with_rows s n (rows ++ row ∷ []) maps) shards copies
    (λ p j below to. row_more s n maps rows row i p j (let around = hold.tables.ring.around in omega (arith, to, around)) under at) hold)
