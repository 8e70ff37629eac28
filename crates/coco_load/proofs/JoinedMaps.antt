-- Lists of the rows of one map, one for each partition, make that map.
use Rattle.std.proofs.Common.{◌≡◌, ℕ, zero, suc, ◌%◌, ◌<◌, Bool, true, false, cond, List, [], ◌∷◌, ◌++◌, map, length, get_or, Option, None, Some, refl, sym, ap, subst, ◌∙◌, arith}
use Rattle.std.specs.FinMap.{empty, get-empty, insert}
use Rattle.std.specs.List.{AllByRecursion}
use Rattle.std.specs.List.Sorted.{IsStrictlySortedBy}
use Rattle.std.specs.Map.{keys_of}
use Rattle.std.specs.Option.{is_some}
use Rattle.std.specs.Ordering.{is_eq}
use Rattle.std.specs.declared.cmp.Ordering.TheVariants.{Less}
use Rattle.std.proofs.lemmas.Map.Keys.{sorted_head, sorted_tail}
use Rattle.coco_types.specs.RowKey.{RowKey, key_cmp}
use Rattle.coco_types.specs.declared.value.Value.{Value}
use Rattle.coco_types.proofs.KeyMaps.{get_put, get_put_same, same_keyed, value_in}
use Rattle.coco_types.proofs.Keys.{is_key, key_itself, key_swap, one_key}
use Rattle.coco_ast.specs.Keyed.{Rows, put_over, value_at}
use Rattle.coco_ast.proofs.Lists.{all_append, all_weaker}
use Rattle.coco_shard.specs.RowState.{ListsRows}
use Rattle.coco_load.specs.RowMaps.{as_write, joined, map_with}

-- ---- rows of one map

module _ (m : Rows) where
  -- each of these rows is the map's
  abbrev pub AreRowsOf : List (RowKey × Value) → Type 0
  AreRowsOf = AllByRecursion (λ row. value_at m row.0 ≡ Some row.1)

  -- where a map has what this one has, it still has it with rows of this one put over it
  put_same : (n : Rows) (rows : List (RowKey × Value)) (k : RowKey) → AreRowsOf rows → value_at n k ≡ value_at m k → value_at (put_over n (map as_write rows)) k ≡ value_at m k
  put_same n [] k are same = same
  put_same n (row ∷ rows) k are same = put_same (insert n row.0 row.1) rows k are.1 (get_put n row.0 row.1 k ∙ choose (is_key row.0 k) refl)
    where
      choose : (b : Bool) → is_key row.0 k ≡ b → cond b (Some row.1) (value_at n k) ≡ value_at m k
      choose true is = sym are.0 ∙ ap (value_at m) (one_key row.0 k is)
      choose false _ = same

  -- under each of their keys it has what this one has
  put_found : (n : Rows) (rows : List (RowKey × Value)) (k : RowKey) → AreRowsOf rows → is_some (value_in rows k) ≡ true → value_at (put_over n (map as_write rows)) k ≡ value_at m k
  put_found n [] k are found = cc
  put_found n (row ∷ rows) k are found = elim (is_key k row.0) as (λ b. is_key k row.0 ≡ b → is_some (cond b (Some row.1) (value_in rows k)) ≡ true → value_at (put_over (insert n row.0 row.1) (map as_write rows)) k ≡ value_at m k) [
    | true ↦ λ is _. (let same : k ≡ row.0 = one_key k row.0 is in
        put_same (insert n row.0 row.1) rows k are.1
        (ap (value_at (insert n row.0 row.1)) same ∙ get_put_same n row.0 row.1 ∙ sym are.0 ∙ ap (value_at m) (sym same)))
    | false ↦ λ _ later. put_found (insert n row.0 row.1) rows k are.1 later
  ] refl found

  -- rows of this map, one at least under each key that it has
  pub rows_make : (rows : List (RowKey × Value)) → AreRowsOf rows → ((k : RowKey) (v : Value) → value_at m k ≡ Some v → is_some (value_in rows k) ≡ true) → map_with rows ≡ m
  rows_make rows are all = same_keyed (map_with rows) m (λ k. at k (value_at m k) refl)
    where
      at : (k : RowKey) (o : Option Value) → value_at m k ≡ o → value_at (map_with rows) k ≡ value_at m k
      at k None none = put_same empty rows k are (get-empty key_cmp k ∙ sym none)
      at k (Some v) is = put_found empty rows k are (all k v is)

-- ---- a list of rows

behind : (first : RowKey × Value) (rows some : List (RowKey × Value)) → AllByRecursion (λ k. key_cmp first.0 k ≡ Less) (keys_of some) → AllByRecursion (λ row. value_in rows row.0 ≡ Some row.1) some
    → AllByRecursion (λ row. value_in (first ∷ rows) row.0 ≡ Some row.1) some
behind first rows [] below found = tt
behind first rows (row ∷ some) below found =
    (ap (λ b. cond b (Some first.1) (value_in rows row.0)) (key_swap row.0 first.0 ∙ ap is_eq below.0) ∙ found.0, behind first rows some below.1 found.1)

-- where keys rise, each row is the one under its key
rising_found : (rows : List (RowKey × Value)) → IsStrictlySortedBy key_cmp (keys_of rows) → AllByRecursion (λ row. value_in rows row.0 ≡ Some row.1) rows
rising_found [] rising = tt
rising_found (row ∷ rows) rising = (
  ap (λ b. cond b (Some row.1) (value_in rows row.0)) (key_itself row.0),
  behind row rows rows (sorted_head key_cmp row.0 (keys_of rows) rising) (rising_found rows (sorted_tail key_cmp row.0 (keys_of rows) rising)),
)

listed_found : (f : RowKey → Option Value) (rows : List (RowKey × Value)) → ListsRows f rows → AllByRecursion (λ row. f row.0 ≡ Some row.1) rows
listed_found f rows lists = all_weaker (λ row. value_in rows row.0 ≡ Some row.1) (λ row. f row.0 ≡ Some row.1) (λ row is. sym (lists.each row.0) ∙ is) rows (rising_found rows lists.rising)

-- ---- lists joined

all_joined : (P : RowKey × Value → Type 0) (lists : List (List (RowKey × Value))) → ((p : ℕ) → p < length lists → AllByRecursion P (get_or lists p [])) → AllByRecursion P (joined lists)
all_joined P [] each = tt
all_joined P (rows ∷ lists) each = all_append P rows (joined lists) (each 0 (omega arith)) (all_joined P lists (λ p within. each (suc p) (omega (arith, within))))

found_left : (k : RowKey) (rows others : List (RowKey × Value)) → is_some (value_in rows k) ≡ true → is_some (value_in (rows ++ others) k) ≡ true
found_left k [] others found = cc
found_left k (row ∷ rows) others found = elim (is_key k row.0) as (λ b. is_some (cond b (Some row.1) (value_in rows k)) ≡ true → is_some (cond b (Some row.1) (value_in (rows ++ others) k)) ≡ true) [
  | true ↦ λ _. refl
  | false ↦ λ later. found_left k rows others later
] found

found_right : (k : RowKey) (rows others : List (RowKey × Value)) → is_some (value_in others k) ≡ true → is_some (value_in (rows ++ others) k) ≡ true
found_right k [] others found = found
found_right k (row ∷ rows) others found = elim (is_key k row.0) as (λ b. is_some (cond b (Some row.1) (value_in (rows ++ others) k)) ≡ true) [
  | true ↦ refl
  | false ↦ found_right k rows others found
]

found_joined : (k : RowKey) (lists : List (List (RowKey × Value))) (p : ℕ) → is_some (value_in (get_or lists p []) k) ≡ true → is_some (value_in (joined lists) k) ≡ true
found_joined k [] p found = cc
found_joined k (rows ∷ lists) zero found = found_left k rows (joined lists) found
found_joined k (rows ∷ lists) (suc p) found = found_right k rows (joined lists) (found_joined k lists p found)

-- ---- partitions

-- lists of the rows of so many partitions make a map, where each has what the map has there and no others
pub joined_make : (m : Rows) (count : ℕ) (of : ℕ → RowKey → Option Value) (lists : List (List (RowKey × Value))) → 0 < count → length lists ≡ count
    → ((p : ℕ) → p < count → ListsRows (of p) (get_or lists p [])) → ((p : ℕ) (k : RowKey) (v : Value) → p < count → of p k ≡ Some v → value_at m k ≡ Some v)
    → ((k : RowKey) → of (k.row % count) k ≡ value_at m k) → map_with (joined lists) ≡ m
joined_make m count of lists some as_many each only has = rows_make m (joined lists)
    (all_joined (λ row. value_at m row.0 ≡ Some row.1) lists (λ p within. of_map p (subst (λ n. p < n) as_many within)))
    (λ k v is. found_joined k lists (k.row % count) (ap is_some ((each (k.row % count) (omega (arith, some))).each k ∙ has k ∙ is)))
  where
    of_map : (p : ℕ) → p < count → AreRowsOf m (get_or lists p [])
    of_map p within = all_weaker (λ row. of p row.0 ≡ Some row.1) (λ row. value_at m row.0 ≡ Some row.1) (λ row is. only p row.0 row.1 within is)
        (get_or lists p []) (listed_found (of p) (get_or lists p []) (each p within))
