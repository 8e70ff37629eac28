-- What the parts of rows have at a key.
use Rattle.std.proofs.Common.{◌≡◌, ◌&&◌, Bool, T, true, false, cond, subst, List, [], ◌∷◌, ◌++◌, Option, None, Some, refl, sym, ap, ◌∙◌}
use Rattle.std.specs.Option.{option_and_then}
use Rattle.std.specs.List.{AllByRecursion}
use Rattle.std.specs.List.Sorted.{IsStrictlySortedBy}
use Rattle.std.specs.Map.{keys_of}
use Rattle.std.specs.BTreeMap.{is_at}
use Rattle.std.specs.FinMap.{from_entries, get, insert, remove, entries, entries_sorted, get-entries, get-from_entries, is_sorted}
use Rattle.std.specs.FinMap.Entries.{below_all, same_entries}
use Rattle.std.specs.Ordering.{is_lt}
use Rattle.std.specs.declared.cmp.Ordering.TheVariants.{Less}
use Rattle.std.specs.Cmp.{eq_by_cmp_equiv}
use Rattle.std.proofs.lemmas.Map.{lookup-none, lookup-set_value}
use Rattle.std.proofs.lemmas.Map.Entries.{none_past_head}
use Rattle.std.proofs.lemmas.Map.Keys.{IsDistinct-from_sorted, sorted_head, sorted_tail}
use Rattle.std.specs.Map.{set_value}
use Rattle.coco_types.specs.RowKey.{RowKey, key_cmp}
use Rattle.coco_types.proofs.Keys.{is_key, one_key, keys_exact, keys_total}
use Rattle.coco_types.proofs.KeyMaps.{value_in, get_key, same_keyed, one_put, one_taken}
use Rattle.coco_rows.specs.Listing.{kept_at, entry_of, part_of, IsRising}

-- the entries after a row is put back, at each key
pub set_at : {R : Type 0} (es : List (RowKey × R)) (k : RowKey) (before after : R) (q : RowKey) → kept_at es k ≡ Some before → kept_at (set_value (is_at (key_cmp k)) es after) q ≡ cond (is_key k q) (Some after) (kept_at es q)
set_at es k before after q was = lookup-set_value (eq_by_cmp_equiv keys_total) (is_at (key_cmp k)) (λ x y h. ap (λ z. is_at (key_cmp z) y) (one_key k x h)) q after es (rw was refl)

both_true : (a b : Bool) → T a → T b → T (a && b)
both_true true b x y = y
both_true false b x y = x

below_test : {X : Type 0} (k : RowKey) (es : List (RowKey × X)) → AllByRecursion (λ y. key_cmp k y ≡ Less) (keys_of es) → T (below_all key_cmp k es)
below_test k [] all = tt
below_test k (e ∷ es) all = subst (λ o. T (is_lt o && below_all key_cmp k es)) (sym all.0) (below_test k es all.1)

-- keys in order pass the test of it
sorted_test : {X : Type 0} (es : List (RowKey × X)) → IsRising es → T (is_sorted key_cmp es)
sorted_test [] rising = tt
sorted_test (e ∷ es) rising =
    both_true (below_all key_cmp e.0 es) (is_sorted key_cmp es) (below_test e.0 es (sorted_head key_cmp e.0 (keys_of es) rising)) (sorted_test es (sorted_tail key_cmp e.0 (keys_of es) rising))

module _ {R X : Type 0} (part : R → Option X) where
  tail_rises : (e : RowKey × R) (es : List (RowKey × R)) → IsRising (e ∷ es) → IsRising es
  tail_rises e es rising = sorted_tail key_cmp e.0 (keys_of es) rising

  -- the first key stands once
  once_first : (e : RowKey × R) (es : List (RowKey × R)) (k : RowKey) → IsRising (e ∷ es) → is_key k e.0 ≡ true → kept_at es k ≡ None
  once_first e es k rising t = lookup-none (is_at (key_cmp k)) es (none_past_head (eq_by_cmp_equiv keys_total) k e es (IsDistinct-from_sorted key_cmp (keys_of (e ∷ es)) rising) t)

  all_kept : (P : RowKey → Type 0) (es : List (RowKey × R)) → AllByRecursion P (keys_of es) → AllByRecursion P (keys_of (part_of part es))
  all_kept P [] all = all
  all_kept P (e ∷ es) all =
      elim (part e.1) as (λ v. AllByRecursion P (keys_of (entry_of e.0 v ++ part_of part es))) [
        | None ↦ all_kept P es all.1
        | Some v ↦ (all.0, all_kept P es all.1)
      ]

  pub part_rises : (es : List (RowKey × R)) → IsRising es → IsRising (part_of part es)
  unfolding IsStrictlySortedBy
  part_rises [] rising = rising
  part_rises (e ∷ es) rising =
      let rest : IsRising (part_of part es) = part_rises es (tail_rises e es rising) in
      let above : AllByRecursion (λ y. key_cmp e.0 y ≡ Less) (keys_of (part_of part es)) = all_kept (λ y. key_cmp e.0 y ≡ Less) es (sorted_head key_cmp e.0 (keys_of es) rising) in
      elim (part e.1) as (λ v. IsRising (entry_of e.0 v ++ part_of part es)) [
        | None ↦ rest
        | Some v ↦ (above, rest)
      ]

  pub value_of_part : (es : List (RowKey × R)) (k : RowKey) → IsRising es → value_in (part_of part es) k ≡ option_and_then part (kept_at es k)
  value_of_part [] k rising = refl
  value_of_part (e ∷ es) k rising =
      let rest : value_in (part_of part es) k ≡ option_and_then part (kept_at es k) = value_of_part es k (tail_rises e es rising) in
      elim (part e.1) as (λ v. part e.1 ≡ v → value_in (entry_of e.0 v ++ part_of part es) k ≡ option_and_then part (cond (is_key k e.0) (Some e.1) (kept_at es k))) [
        | None ↦ λ is. rest ∙ elim (is_key k e.0) as (λ b. is_key k e.0 ≡ b → option_and_then part (kept_at es k) ≡ option_and_then part (cond b (Some e.1) (kept_at es k))) [
          | true ↦ λ t. ap (option_and_then part) (once_first e es k rising t) ∙ sym is
          | false ↦ λ _. refl
        ] refl
        | Some v ↦ λ is. elim (is_key k e.0) as (λ b. cond b (Some v) (value_in (part_of part es) k) ≡ option_and_then part (cond b (Some e.1) (kept_at es k))) [
          | true ↦ sym is
          | false ↦ rest
        ]
      ] refl

  -- what the map of a part has at a key
  pub get_part : (es : List (RowKey × R)) (k : RowKey) → IsRising es → get (from_entries {R = key_cmp} (part_of part es)) k ≡ option_and_then part (kept_at es k)
  get_part es k rising = get_key (part_of part es) k ∙ value_of_part es k rising

  -- rows that have the same part at each key make one map
  pub part_same : (es fs : List (RowKey × R)) → IsRising es → IsRising fs → ((q : RowKey) → option_and_then part (kept_at fs q) ≡ option_and_then part (kept_at es q))
      → from_entries {R = key_cmp} (part_of part fs) ≡ from_entries (part_of part es)
  part_same es fs rising rises h = same_keyed _ _ (λ q. get_part fs q rises ∙ h q ∙ sym (get_part es q rising))

  pub part_put : (es fs : List (RowKey × R)) (k : RowKey) (x : X) → IsRising es → IsRising fs → ((q : RowKey) → option_and_then part (kept_at fs q) ≡ cond (is_key k q) (Some x) (option_and_then part (kept_at es q)))
      → from_entries {R = key_cmp} (part_of part fs) ≡ insert (from_entries (part_of part es)) k x
  part_put es fs k x rising rises h = one_put (part_of part es) (part_of part fs) k x (λ q. value_of_part fs q rises ∙ h q ∙ ap (cond (is_key k q) (Some x)) (sym (value_of_part es q rising)))

  pub part_taken : (es fs : List (RowKey × R)) (k : RowKey) → IsRising es → IsRising fs → ((q : RowKey) → option_and_then part (kept_at fs q) ≡ cond (is_key k q) None (option_and_then part (kept_at es q)))
      → from_entries {R = key_cmp} (part_of part fs) ≡ remove (from_entries (part_of part es)) k
  part_taken es fs k rising rises h = one_taken (part_of part es) (part_of part fs) k (λ q. value_of_part fs q rises ∙ h q ∙ ap (cond (is_key k q) None) (sym (value_of_part es q rising)))

  -- the map of a part has its entries
  pub part_entries : (es : List (RowKey × R)) → IsRising es → part_of part es ≡ entries (from_entries {R = key_cmp} (part_of part es))
  part_entries es rising = same_entries key_cmp keys_total keys_exact (part_of part es) (entries (from_entries (part_of part es))) (sorted_test (part_of part es) (part_rises es rising)) (entries_sorted (from_entries (part_of part es)))
      (λ q. sym (get-from_entries keys_total (part_of part es) q) ∙ get-entries (from_entries (part_of part es)) q)
