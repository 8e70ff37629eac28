-- A hash map under keys, seen as a finite map.
use Rattle.std.proofs.Common.{◌≡◌, ℕ, Bool, true, false, cond, ◌&&◌, nat_eq, List, [], ◌∷◌, Option, None, Some, Result, Ok, Err, IsOk, OnOk, Decides, refl, ap, sym, subst, ◌∙◌}
use Rattle.std.specs.Bool.{one_answer}
use Rattle.std.specs.BTreeMap.{is_at}
use Rattle.std.specs.FinMap.{from_entries, insert, remove, same_map}
use Rattle.std.specs.Map.{lookup}
use Rattle.std.proofs.lemmas.Bool.{and_parts, eqb-true, eq-eqb}
use Rattle.coco_types.proofs.KeyMaps.{value_in, get_key, one_put, one_taken}
use Rattle.coco_types.proofs.Keys.{keys_total, keys_exact, one_key, key_itself}
use Rattle.coco_types.specs.RowKey.{RowKey, key_cmp}

abbrev pub same_key : RowKey → RowKey → Bool
same_key a b = nat_eq a.table b.table && nat_eq a.row b.row

both : (a b : Bool) → a ≡ true → b ≡ true → a && b ≡ true
both true b h k = k
both false b h k = let e : false ≡ true = h in cc

same_decides : (k q : RowKey) → Decides (same_key k q) (k ≡ q)
same_decides k q = (
  λ h. let parts = and_parts (nat_eq k.table q.table) (nat_eq k.row q.row) h in
      ap (λ (t : ℕ). record { table = t; row = k.row }) (eqb-true k.table q.table parts.0) ∙ ap (λ (r : ℕ). record { table = q.table; row = r }) (eqb-true k.row q.row parts.1),
  λ e. both _ _ (eq-eqb k.table q.table (ap (λ (x : RowKey). x.table) e)) (eq-eqb k.row q.row (ap (λ (x : RowKey). x.row) e)),
)

order_decides : (k q : RowKey) → Decides (is_at (key_cmp k) q) (k ≡ q)
order_decides k q = (one_key k q, λ e. subst (λ (x : RowKey). is_at (key_cmp k) x ≡ true) e (key_itself k))

-- keys are equal exactly where they compare alike
pub same_key-order : (k q : RowKey) → same_key k q ≡ is_at (key_cmp k) q
same_key-order k q = one_answer (same_key k q) (is_at (key_cmp k) q) (same_decides k q) (order_decides k q)

module _ {X : Type 0} where
  pub lookup_key : (es : List (RowKey × X)) (k : RowKey) → lookup (same_key k) es ≡ value_in es k
  lookup_key [] k = refl
  lookup_key (e ∷ es) k = ap (λ (b : Bool). cond b (Some e.1) (lookup (same_key k) es)) (same_key-order k e.0) ∙ ap (cond (is_at (key_cmp k) e.0) (Some e.1)) (lookup_key es k)

  changed : (es fs : List (RowKey × X)) (k : RowKey) (w : Option X) → ((q : RowKey) → lookup (same_key q) fs ≡ cond (same_key k q) w (lookup (same_key q) es))
      → (q : RowKey) → value_in fs q ≡ cond (is_at (key_cmp k) q) w (value_in es q)
  changed es fs k w h q = sym (lookup_key fs q) ∙ h q ∙ ap (λ (b : Bool). cond b w (lookup (same_key q) es)) (same_key-order k q) ∙ ap (cond (is_at (key_cmp k) q) w) (lookup_key es q)

  -- what an insertion and a removal make of the map
  pub hash_put : (es fs : List (RowKey × X)) (k : RowKey) (v : X) → ((q : RowKey) → lookup (same_key q) fs ≡ cond (same_key k q) (Some v) (lookup (same_key q) es)) → from_entries {R = key_cmp} fs ≡ insert (from_entries es) k v
  hash_put es fs k v h = one_put es fs k v (changed es fs k (Some v) h)

  pub hash_taken : (es fs : List (RowKey × X)) (k : RowKey) → ((q : RowKey) → lookup (same_key q) fs ≡ cond (same_key k q) None (lookup (same_key q) es)) → from_entries {R = key_cmp} fs ≡ remove (from_entries es) k
  hash_taken es fs k h = one_taken es fs k (changed es fs k None h)

  pub hash_same : (es fs : List (RowKey × X)) → ((q : RowKey) → lookup (same_key q) fs ≡ lookup (same_key q) es) → from_entries {R = key_cmp} fs ≡ from_entries es
  hash_same es fs h = same_map keys_total keys_exact _ _ (λ q. get_key fs q ∙ sym (lookup_key fs q) ∙ h q ∙ lookup_key es q ∙ sym (get_key es q))

pub on_ok : {T E : Type 0} (r : Result T E) (P : Type 0) → IsOk r → OnOk r P → P
on_ok (Ok x) P is h = h
on_ok (Err e) P is h = let f : false ≡ true = is in cc

pub ok_more : {T E : Type 0} (r : Result T E) (P Q : Type 0) → (P → Q) → OnOk r P → OnOk r Q
ok_more (Ok x) P Q f h = f h
ok_more (Err e) P Q f h = tt
