-- Maps under keys: entries seen as a finite map, and what a change of one key makes of either.
use Rattle.std.proofs.Common.{◌≡◌, Bool, true, false, List, [], ◌∷◌, Option, None, Some, cond, refl, sym, ap, ◌∙◌}
use Rattle.std.specs.FinMap.{FinMap, from_entries, insert, remove, get, find, get-from_entries, get-insert, get-remove, same_map}
use Rattle.std.specs.Map.{lookup}
use Rattle.coco_types.specs.RowKey.{RowKey, key_cmp}
pub use Rattle.coco_types.proofs.Keys.{keys_exact, keys_total, is_key, key_itself, key_swap}

-- what entries have at a key
abbrev pub value_in : {X : Type 0} → List (RowKey × X) → RowKey → Option X
value_in es k = lookup (is_key k) es

module _ {X : Type 0} where
  find_key : (es : List (RowKey × X)) (k : RowKey) → find key_cmp k es ≡ value_in es k
  find_key [] k = refl
  find_key (e ∷ es) k = ap (cond (is_key k e.0) (Some e.1)) (find_key es k)

  -- what the map that the entries make has at a key
  pub get_key : (es : List (RowKey × X)) (k : RowKey) → get (from_entries {R = key_cmp} es) k ≡ value_in es k
  get_key es k = get-from_entries keys_total es k ∙ find_key es k

  -- maps that have the same at each key are one
  pub same_keyed : (m n : FinMap key_cmp X) → ((q : RowKey) → get m q ≡ get n q) → m ≡ n
  same_keyed m n = same_map keys_total keys_exact m n

  -- what a map has after a value is set at a key
  pub get_put : (m : FinMap key_cmp X) (k : RowKey) (x : X) (q : RowKey) → get (insert m k x) q ≡ cond (is_key k q) (Some x) (get m q)
  get_put m k x q = get-insert keys_total m k x q ∙ ap (λ b. cond b (Some x) (get m q)) (key_swap q k)

  pub get_put_same : (m : FinMap key_cmp X) (k : RowKey) (x : X) → get (insert m k x) k ≡ Some x
  get_put_same m k x = get_put m k x k ∙ ap (λ b. cond b (Some x) (get m k)) (key_itself k)

  -- what a map has after a key is taken away
  pub get_taken : (m : FinMap key_cmp X) (k q : RowKey) → get (remove m k) q ≡ cond (is_key k q) None (get m q)
  get_taken m k q = get-remove keys_total m k q ∙ ap (λ b. cond b None (get m q)) (key_swap q k)

  -- of two values set at a key the later one stays
  pub put_put : (m : FinMap key_cmp X) (k : RowKey) (x y : X) → insert (insert m k x) k y ≡ insert m k y
  put_put m k x y = same_keyed _ _ (λ q. get_put (insert m k x) k y q ∙ ap (cond (is_key k q) (Some y)) (get_put m k x q) ∙ again (is_key k q) (get m q) ∙ sym (get_put m k y q))
    where
      again : (b : Bool) (o : Option X) → cond b (Some y) (cond b (Some x) o) ≡ cond b (Some y) o
      again true o = refl
      again false o = refl

  -- entries that differ at one key, which the later ones have, make maps that differ there
  pub one_put : (es fs : List (RowKey × X)) (k : RowKey) (v : X) → ((q : RowKey) → value_in fs q ≡ cond (is_key k q) (Some v) (value_in es q)) → from_entries {R = key_cmp} fs ≡ insert (from_entries es) k v
  one_put es fs k v h = same_keyed _ _ (λ q. get_key fs q ∙ h q ∙ sym (get_put (from_entries es) k v q ∙ ap (cond (is_key k q) (Some v)) (get_key es q)))

  -- the same, where the later ones have nothing at the key
  pub one_taken : (es fs : List (RowKey × X)) (k : RowKey) → ((q : RowKey) → value_in fs q ≡ cond (is_key k q) None (value_in es q)) → from_entries {R = key_cmp} fs ≡ remove (from_entries es) k
  one_taken es fs k h = same_keyed _ _ (λ q. get_key fs q ∙ h q ∙ sym (get_taken (from_entries es) k q ∙ ap (cond (is_key k q) None) (get_key es q)))
