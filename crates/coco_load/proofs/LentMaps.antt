-- Rows put over a map, and a map of lent values.
use Rattle.std.proofs.Common.{◌≡◌, ℕ, suc, ◌+◌, ◌<◌, Bool, T, true, false, ◌&&◌, cond, List, [], ◌∷◌, ◌++◌, map, length, drop, get_or, Option, Some, refl, sym, ap, subst, ◌∙◌, add-one}
use denote.Ref.{Bor}
use Rattle.std.specs.BTreeMap.{BTreeMap}
use Rattle.std.specs.Option.{option_map}
use Rattle.std.specs.FinMap.{from_entries, insert, entries, entries_sorted, get-entries, get-from_entries, is_sorted}
use Rattle.std.specs.FinMap.Entries.{below_all, same_entries}
use Rattle.std.specs.List.{AllByRecursion}
use Rattle.std.specs.List.Sorted.{IsStrictlySortedBy}
use Rattle.std.specs.Map.{keys_of}
use Rattle.std.specs.Ordering.{is_lt}
use Rattle.std.specs.declared.cmp.Ordering.TheVariants.{Less}
use Rattle.std.proofs.Math.Seq.{drop-cons}
use Rattle.std.proofs.lemmas.List.{map-append}
use Rattle.std.proofs.lemmas.Map.Keys.{sorted_head, sorted_tail}
use Rattle.std.proofs.lemmas.Map.Made.{lookup-map_values}
use Rattle.coco_types.specs.RowKey.{RowKey, key_cmp}
use Rattle.coco_types.specs.declared.call.Write.{Write}
use Rattle.coco_types.specs.declared.value.Value.{Value}
use Rattle.coco_types.proofs.Keys.{is_key, keys_exact, keys_total}
use Rattle.coco_types.proofs.KeyMaps.{value_in, one_put}
use Rattle.coco_ast.specs.Keyed.{Rows, put_over, write_at}
use Rattle.coco_load.specs.RowMaps.{as_write, joined, lent_map}

-- ---- rows put over a map

put_over-append : (m : Rows) (xs ys : List Write) → put_over m (xs ++ ys) ≡ put_over (put_over m xs) ys
put_over-append m [] ys = refl
put_over-append m (x ∷ xs) ys = put_over-append (write_at m x.key x.value) xs ys

-- a row from the front of those to come
pub put_row : (rows : List (RowKey × Value)) (i : ℕ) (row : RowKey × Value) (m n : Rows) → i < length rows → get_or rows i row ≡ row → n ≡ insert m row.0 row.1
    → put_over n (map as_write (drop (i + 1) rows)) ≡ put_over m (map as_write (drop i rows))
put_row rows i row m n within at is =
    let first : drop i rows ≡ row ∷ drop (i + 1) rows = drop-cons rows i row within ∙ ap (λ r. r ∷ drop (suc i) rows) at ∙ ap (λ k. row ∷ drop k rows) (sym (add-one i)) in
    ap (λ (k : Rows). put_over k (map as_write (drop (i + 1) rows))) is ∙ ap (λ rs. put_over m (map as_write rs)) (sym first)

-- a list from the front of those to come
pub put_list : (lists : List (List (RowKey × Value))) (i : ℕ) (rows : List (RowKey × Value)) (m n : Rows) → i < length lists → get_or lists i rows ≡ rows → n ≡ put_over m (map as_write rows)
    → put_over n (map as_write (joined (drop (i + 1) lists))) ≡ put_over m (map as_write (joined (drop i lists)))
put_list lists i rows m n within at is =
    let others = joined (drop (i + 1) lists) in
    let first : drop i lists ≡ rows ∷ drop (i + 1) lists = drop-cons lists i rows within ∙ ap (λ r. r ∷ drop (suc i) lists) at ∙ ap (λ k. rows ∷ drop k lists) (sym (add-one i)) in
    ap (λ (k : Rows). put_over k (map as_write others)) is ∙ sym (put_over-append m (map as_write rows) (map as_write others))
    ∙ ap (put_over m) (sym (map-append as_write rows others)) ∙ ap (λ ls. put_over m (map as_write (joined ls))) (sym first)

-- ---- a map of lent values

-- one more value
pub lent_put : (m n : BTreeMap RowKey (Bor Value)) (k : RowKey) (v : Bor Value) → ((q : RowKey) → value_in n.entries q ≡ cond (is_key k q) (Some v) (value_in m.entries q))
    → lent_map n ≡ insert (lent_map m) k v.now
lent_put m n k v h = one_put (map (λ e. (e.0, e.1.now)) m.entries) (map (λ e. (e.0, e.1.now)) n.entries) k v.now
    (λ q. lookup-map_values (λ (b : Bor Value). b.now) (is_key q) n.entries ∙ ap (option_map (λ (b : Bor Value). b.now)) (h q) ∙ under (is_key k q) (value_in m.entries q)
    ∙ ap (cond (is_key k q) (Some v.now)) (sym (lookup-map_values (λ (b : Bor Value). b.now) (is_key q) m.entries)))
  where
    under : (b : Bool) (o : Option (Bor Value)) → option_map (λ (b : Bor Value). b.now) (cond b (Some v) o) ≡ cond b (Some v.now) (option_map (λ (b : Bor Value). b.now) o)
    under true o = refl
    under false o = refl

-- ---- entries in order are those of their map

both_true : (a b : Bool) → T a → T b → T (a && b)
both_true true b x y = y
both_true false b x y = x

module _ {X : Type 0} where
  below_test : (k : RowKey) (es : List (RowKey × X)) → AllByRecursion (λ y. key_cmp k y ≡ Less) (keys_of es) → T (below_all key_cmp k es)
  below_test k [] all = tt
  below_test k (e ∷ es) all = subst (λ o. T (is_lt o && below_all key_cmp k es)) (sym all.0) (below_test k es all.1)

  sorted_test : (es : List (RowKey × X)) → IsStrictlySortedBy key_cmp (keys_of es) → T (is_sorted key_cmp es)
  sorted_test [] rising = tt
  sorted_test (e ∷ es) rising =
      both_true (below_all key_cmp e.0 es) (is_sorted key_cmp es) (below_test e.0 es (sorted_head key_cmp e.0 (keys_of es) rising)) (sorted_test es (sorted_tail key_cmp e.0 (keys_of es) rising))

  pub entries_in_order : (es : List (RowKey × X)) → IsStrictlySortedBy key_cmp (keys_of es) → es ≡ entries (from_entries {R = key_cmp} es)
  entries_in_order es rising = same_entries key_cmp keys_total keys_exact es (entries (from_entries es)) (sorted_test es rising) (entries_sorted (from_entries es))
      (λ q. sym (get-from_entries keys_total es q) ∙ get-entries (from_entries es) q)

keys_shown : (es : List (RowKey × Bor Value)) → keys_of (map (λ e. (e.0, e.1.now)) es) ≡ keys_of es
keys_shown [] = refl
keys_shown (e ∷ es) = ap (λ ks. e.0 ∷ ks) (keys_shown es)

pub lent_entries : (m : BTreeMap RowKey (Bor Value)) → IsStrictlySortedBy key_cmp (keys_of m.entries) → map (λ e. (e.0, e.1.now)) m.entries ≡ entries (lent_map m)
lent_entries m rising = entries_in_order _ (subst (IsStrictlySortedBy key_cmp) (sym (keys_shown m.entries)) rising)
