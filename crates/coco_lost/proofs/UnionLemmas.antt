-- Maps of partitions that are put together.
use Rattle.std.proofs.Common.{◌≡◌, ◌≢◌, ℕ, zero, suc, ◌+◌, ◌%◌, ◌<◌, ◌≤◌, Bool, true, false, cond, nat_eq, List, [], ◌∷◌, ◌++◌, Option, None, Some, IsSome, refl, sym, ap, ◌∙◌, arith}
use Rattle.std.specs.FinMap.{empty, entries, find, from_entries, get, get-empty, get-entries, get-from_entries}
use Rattle.std.specs.Option.{option_or, unwrap_or}
use Rattle.std.specs.Ordering.{eq_by_cmp}
use Rattle.std.proofs.lemmas.Bool.{eqb-true, eqb-false, eq-eqb}
use Rattle.coco_types.specs.RowKey.{RowKey, key_cmp}
use Rattle.coco_types.specs.declared.value.Value.{Value}
use Rattle.coco_types.proofs.KeyMaps.{same_keyed}
use Rattle.coco_types.proofs.Keys.{keys_total}
use Rattle.coco_ast.specs.Keyed.{Rows, on_partition, value_at}
use Rattle.coco_ast.proofs.KeyedLemmas.{value_on_partition}
use Rattle.coco_shard.specs.RowState.{RowState, ShardState, newest_at, resting}
use Rattle.coco_standing.specs.Standing.{ShardHas, ShardStands}
use Rattle.coco_standing.proofs.Nodes.{not_one}
use Rattle.coco_standing.proofs.Resting.{newest_held}

-- ---- one map over another

pub over : Rows → Rows → Rows
over m n = from_entries (entries m ++ entries n)

module _ (q : RowKey) where
  picked : (b : Bool) (v : Value) (o p : Option Value) → cond b (Some v) (option_or o p) ≡ option_or (cond b (Some v) o) p
  picked true v o p = refl
  picked false v o p = refl

  found : (es fs : List (RowKey × Value)) → find key_cmp q (es ++ fs) ≡ option_or (find key_cmp q es) (find key_cmp q fs)
  found [] fs = refl
  found (e ∷ es) fs = ap (cond (eq_by_cmp key_cmp q e.0) (Some e.1)) (found es fs) ∙ picked (eq_by_cmp key_cmp q e.0) e.1 (find key_cmp q es) (find key_cmp q fs)

  value_over : (m n : Rows) → value_at (over m n) q ≡ option_or (value_at m q) (value_at n q)
  unfolding over
  value_over m n =
      get-from_entries keys_total (entries m ++ entries n) q ∙ found (entries m) (entries n)
      ∙ ap (λ (o : Option Value). option_or o (find key_cmp q (entries n))) (sym (get-entries m q)) ∙ ap (option_or (value_at m q)) (sym (get-entries n q))

or_nothing : (o : Option Value) → option_or o None ≡ o
or_nothing None = refl
or_nothing (Some v) = refl

-- ---- a map of each partition

module _ (count : ℕ) (maps : ℕ → Rows) where
  here : (p : ℕ) (m : Rows) (k : RowKey) → k.row % count ≡ p → value_at (on_partition count p m) k ≡ value_at m k
  here p m k is = value_on_partition count p m k ∙ ap (λ (b : Bool). cond b (value_at m k) None) (eq-eqb (k.row % count) p is)

  away : (p : ℕ) (m : Rows) (k : RowKey) → k.row % count ≢ p → value_at (on_partition count p m) k ≡ None
  away p m k differs = value_on_partition count p m k ∙ ap (λ (b : Bool). cond b (value_at m k) None) (not_one (k.row % count) p differs)

  -- the maps of the first partitions in one
  abbrev pub together : ℕ → Rows
  together zero = empty
  together (suc n) = over (on_partition count n (maps n)) (together n)

  none_above : (n : ℕ) (k : RowKey) → n ≤ k.row % count → value_at (together n) k ≡ None
  none_above zero k above = get-empty key_cmp k
  none_above (suc n) k above =
      let differs : k.row % count ≢ n = omega (arith, above) in
      value_over k (on_partition count n (maps n)) (together n)
      ∙ ap (λ (o : Option Value). option_or o (value_at (together n) k)) (away n (maps n) k differs) ∙ none_above n k (omega (arith, above))

  values_below : (n : ℕ) (k : RowKey) → k.row % count < n → value_at (together n) k ≡ value_at (maps (k.row % count)) k
  values_below zero k below = absurd (omega (arith, below))
  values_below (suc n) k below = value_over k (on_partition count n (maps n)) (together n) ∙ by (values_below n k) (nat_eq (k.row % count) n) refl
    where
      by : (k.row % count < n → value_at (together n) k ≡ value_at (maps (k.row % count)) k) → (b : Bool) → nat_eq (k.row % count) n ≡ b → option_or (value_at (on_partition count n (maps n)) k) (value_at (together n) k) ≡ value_at (maps (k.row % count)) k
      by earlier true at =
          let is : k.row % count ≡ n = eqb-true (k.row % count) n at in
          ap (option_or (value_at (on_partition count n (maps n)) k)) (none_above n k (omega (arith, is)))
          ∙ or_nothing (value_at (on_partition count n (maps n)) k) ∙ here n (maps n) k is ∙ ap (λ (p : ℕ). value_at (maps p) k) (sym is)
      by earlier false at =
          let differs : k.row % count ≢ n = eqb-false (k.row % count) n at in
          ap (λ (o : Option Value). option_or o (value_at (together n) k)) (away n (maps n) k differs) ∙ earlier (omega (arith, below, differs))

  -- each of them is its partition of that map, if it has no other rows
  pub own_of_all : (p : ℕ) → p < count → ((k : RowKey) → k.row % count ≢ p → value_at (maps p) k ≡ None) → maps p ≡ on_partition count p (together count)
  own_of_all p below confined = same_keyed (maps p) (on_partition count p (together count)) (λ k. by k (nat_eq (k.row % count) p) refl)
    where
      by : (k : RowKey) (b : Bool) → nat_eq (k.row % count) p ≡ b → value_at (maps p) k ≡ value_at (on_partition count p (together count)) k
      by k true at =
          let is : k.row % count ≡ p = eqb-true (k.row % count) p at in
          sym (here p (together count) k is ∙ values_below count k (omega (arith, is, below)) ∙ ap (λ (q : ℕ). value_at (maps q) k) is)
      by k false at = let differs : k.row % count ≢ p = eqb-false (k.row % count) p at in confined k differs ∙ sym (away p (together count) k differs)

-- ---- shards

no_row : (o : Option RowState) → (IsSome o → ⊥) → o ≡ None
no_row None absent = refl
no_row (Some r) absent = absurd (absent refl)

has_only_own : (count p : ℕ) (m : Rows) (s : ShardState) → ShardHas newest_at count p m s → (k : RowKey) → k.row % count ≢ p → value_at m k ≡ None
has_only_own count p m s has k differs =
    sym (has.values k) ∙ ap (λ (o : Option RowState). (unwrap_or o (resting None)).newest) (no_row (get s k) (λ some. differs (has.partition k some)))

-- the map at which a shard stands has rows of its partition alone
pub only_own : (is_behind : Bool) (count p : ℕ) (m : Rows) (s : ShardState) → ShardStands is_behind count p m s → (k : RowKey) → k.row % count ≢ p → value_at m k ≡ None
only_own true count p m s stands = has_only_own count p m s stands
only_own false count p m s stands = has_only_own count p m s (newest_held count p m s stands)
