-- Writes that rise by key: a search for a key, and the times that reads of their keys showed.
use Rattle.std.proofs.Common.{◌≡◌, inl, inr, ℕ, zero, suc, ◌<◌, ◌≤◌, ◌||◌, Bool, true, false, cond, List, [], ◌∷◌, ◌++◌, length, map, Option, None, Some, Result, Ok, Err, refl, sym, ap, ◌∙◌, subst, arith, slice_index_or, slice_set}
use Rattle.std.specs.List.{list_any, find, AllByRecursion, HoldsAt}
use Rattle.std.specs.List.Sorted.{IsSearchInRange, IsBinarySearchResult, IsNonDecreasingBy}
use Rattle.std.specs.Option.{option_map, option_or, is_some, IfSome, IfNone}
use Rattle.std.specs.Ordering.{is_eq, ordering_index}
use Rattle.std.specs.Result.{result_ok}
use Rattle.std.specs.declared.cmp.Ordering.{Ordering}
use Rattle.std.specs.declared.cmp.Ordering.TheVariants.{Less, Equal, Greater}
use Rattle.std.proofs.lemmas.Bool.{cases_lt}
use Rattle.std.proofs.lemmas.List.Folds.{list_any_none, list_any_at}
use Rattle.coco_types.specs.RowKey.{RowKey, key_cmp}
use Rattle.coco_types.specs.declared.call.Write.{Write}
use Rattle.coco_types.proofs.Keys.{keys_total, keys_exact, key_itself, key_swap}
use Rattle.coco_ast.specs.Meaning.{is_key}
use Rattle.coco_ast.proofs.Writing.{Ascend, IsBelowAll}
use Rattle.coco_occ.specs.Course.{wts_in, keys, Rise}
use Rattle.coco_occ.specs.declared.course.SeenKey.{SeenKey}

below_keys : (k : RowKey) (ws : List Write) → IsBelowAll k ws → AllByRecursion (λ q. key_cmp k q ≡ Less) (keys ws)
below_keys k [] below = tt
below_keys k (w ∷ ws) below = (below.0, below_keys k ws below.1)

pub rise : (ws : List Write) → Ascend ws → Rise ws
rise [] ascend = tt
rise (w ∷ ws) ascend = (below_keys w.key ws ascend.0, rise ws ascend.1)

-- ---- a search

-- the key at a place is above one that is below all
below_at : (k q : RowKey) (ws : List Write) (place : ℕ) → AllByRecursion (λ x. key_cmp k x ≡ Less) (keys ws) → place < length ws → HoldsAt (λ w. w.key ≡ q) ws place → key_cmp k q ≡ Less
below_at k q [] place below lt is = absurd (omega arith)
below_at k q (w ∷ ws) zero below lt is = subst (λ (x : RowKey). key_cmp k x ≡ Less) (is w) below.0
below_at k q (w ∷ ws) (suc place) below lt is = below_at k q ws place below.1 (omega (arith, lt)) is

at_most_two : (o : Ordering) → ordering_index o ≤ 2
at_most_two Less = omega arith
at_most_two Equal = omega arith
at_most_two Greater = omega arith

-- the lower of two keys compares no higher
compares_lower : (a b k : RowKey) → key_cmp a b ≡ Less → ordering_index (key_cmp a k) ≤ ordering_index (key_cmp b k)
compares_lower a b k less =
    elim (key_cmp b k) as (λ o. key_cmp b k ≡ o → ordering_index (key_cmp a k) ≤ ordering_index o) [
      | Less ↦ λ is. lowest (keys_total.trans a b k less is) 0
      | Equal ↦ λ is. lowest (subst (λ (x : RowKey). key_cmp a x ≡ Less) (keys_exact b k is) less) 1
      | Greater ↦ λ is. at_most_two (key_cmp a k)
    ] refl
  where
    lowest : key_cmp a k ≡ Less → (n : ℕ) → ordering_index (key_cmp a k) ≤ n
    lowest is n = subst (λ (o : Ordering). ordering_index o ≤ n) (sym is) (omega arith)

compares_rise : (k : RowKey) (ws : List Write) → Rise ws → IsNonDecreasingBy (λ w. ordering_index (key_cmp w.key k)) ws
compares_rise k [] rises i j d le lt = absurd (omega arith)
compares_rise k (w ∷ ws) rises zero zero d le lt = omega arith
compares_rise k (w ∷ ws) rises (suc i) zero d le lt = absurd (omega arith)
compares_rise k (w ∷ ws) rises zero (suc j) d le lt =
    compares_lower w.key (slice_index_or ws j d).key k (below_at w.key (slice_index_or ws j d).key ws j rises.0 (omega (arith, lt)) (at_index ws j d (omega (arith, lt))))
  where
    at_index : (xs : List Write) (n : ℕ) (x : Write) → n < length xs → HoldsAt (λ v. v.key ≡ (slice_index_or xs n x).key) xs n
    at_index [] n x lt = absurd (omega arith)
    at_index (y ∷ xs) zero x lt = λ d. refl
    at_index (y ∷ xs) (suc n) x lt = at_index xs n x (omega (arith, lt))
compares_rise k (w ∷ ws) rises (suc i) (suc j) d le lt = compares_rise k ws rises.1 i j d (omega (arith, le)) (omega (arith, lt))

other_key : (k q : RowKey) (o : Ordering) → key_cmp q k ≡ o → is_eq o ≡ false → is_key k q ≡ false
other_key k q o is other = key_swap k q ∙ ap is_eq is ∙ other

pub found_at : (k : RowKey) (ws : List Write) (r : Result ℕ ℕ) → IsSearchInRange r (length ws) → IsBinarySearchResult (λ w. key_cmp w.key k) ws r → IfSome (result_ok r) (λ place. (place < length ws) × HoldsAt (λ w. w.key ≡ k) ws place)
found_at k ws (Ok place) range found = (range, λ d. keys_exact (slice_index_or ws place d).key k (found d))
found_at k ws (Err place) range parted = tt

pub found_none : (k : RowKey) (ws : List Write) (r : Result ℕ ℕ) → IsBinarySearchResult (λ w. key_cmp w.key k) ws r → Rise ws → IfNone (result_ok r) (list_any (λ w. is_key k w.key) ws ≡ false)
found_none k ws (Ok place) found rises = tt
found_none k ws (Err place) parted rises = list_any_none (λ w. is_key k w.key) ws (λ i d lt. elim (cases_lt i place) [
  | inl below ↦ other_key k (slice_index_or ws i d).key Less ((parted (compares_rise k ws rises)).0 i d (omega arith) below) refl
  | inr above ↦ other_key k (slice_index_or ws i d).key Greater ((parted (compares_rise k ws rises)).1 i d (omega (arith, above)) lt) refl
])

pub found_any : (k : RowKey) (ws : List Write) (o : Option ℕ) → IfSome o (λ place. (place < length ws) × HoldsAt (λ w. w.key ≡ k) ws place) → (Rise ws → IfNone o (list_any (λ w. is_key k w.key) ws ≡ false)) → Rise ws →
    is_some o ≡ list_any (λ w. is_key k w.key) ws
found_any k ws None found none rises = sym (none rises)
found_any k ws (Some place) found none rises =
    let d : Write = record { key = k; value = None } in
    sym (list_any_at (λ w. is_key k w.key) ws place d found.0 (ap (is_key k) (found.1 d) ∙ key_itself k))

-- ---- the times that reads showed

cons_same : {X : Type 0} (x y : X) (xs ys : List X) → x ≡ y → xs ≡ ys → x ∷ xs ≡ y ∷ ys
cons_same x y xs ys e es = cc

or_none : (o : Option ℕ) → option_or o None ≡ o
or_none None = refl
or_none (Some t) = refl

-- one read more
wts_in-push : (seen : List SeenKey) (s : SeenKey) (k : RowKey) → wts_in (seen ++ s ∷ []) k ≡ option_or (wts_in seen k) (cond (is_key k s.key) (Some s.wts) None)
wts_in-push [] s k = elim (is_key k s.key) as (λ b. option_map (λ (x : SeenKey). x.wts) (cond b (Some s) None) ≡ cond b (Some s.wts) None) [ true ↦ refl | false ↦ refl ]
wts_in-push (x ∷ seen) s k =
    elim (is_key k x.key) as (λ b. option_map (λ (y : SeenKey). y.wts) (cond b (Some x) (find (λ y. is_key k y.key) (seen ++ s ∷ []))) ≡ option_or (option_map (λ (y : SeenKey). y.wts) (cond b (Some x) (find (λ y. is_key k y.key) seen))) (cond (is_key k s.key) (Some s.wts) None)) [
      | true ↦ refl
      | false ↦ wts_in-push seen s k
    ]

of_other : (seen : List SeenKey) (s : SeenKey) (k : RowKey) → is_key k s.key ≡ false → wts_in (seen ++ s ∷ []) k ≡ wts_in seen k
of_other seen s k other = wts_in-push seen s k ∙ ap (λ b. option_or (wts_in seen k) (cond b (Some s.wts) None)) other ∙ or_none (wts_in seen k)

of_same : (seen : List SeenKey) (s : SeenKey) (k : RowKey) → k ≡ s.key → option_or (wts_in seen s.key) (Some s.wts) ≡ wts_in (seen ++ s ∷ []) k
of_same seen s k is =
    ap (λ (x : RowKey). option_or (wts_in seen x) (Some s.wts)) (sym is)
    ∙ ap (λ b. option_or (wts_in seen k) (cond b (Some s.wts) None)) (sym (ap (is_key k) (sym is) ∙ key_itself k))
    ∙ sym (wts_in-push seen s k)

abbrev pub times : List SeenKey → List Write → List (Option ℕ)
times seen ws = map (λ w. wts_in seen w.key) ws

pub times_same : (seen : List SeenKey) (s : SeenKey) (ws : List Write) → list_any (λ w. is_key s.key w.key) ws ≡ false → times seen ws ≡ times (seen ++ s ∷ []) ws
times_same seen s [] none = refl
times_same seen s (w ∷ ws) none = cons_same _ _ _ _ (sym (of_other seen s w.key (key_swap w.key s.key ∙ (no_either (is_key s.key w.key) _ none).0))) (times_same seen s ws (no_either (is_key s.key w.key) _ none).1)
  where
    no_either : (a b : Bool) → (a || b) ≡ false → (a ≡ false) × (b ≡ false)
    no_either true b h = absurd (let e : true ≡ false = h in cc)
    no_either false b h = (refl, h)

none_above : (k : RowKey) (ws : List Write) → AllByRecursion (λ q. key_cmp k q ≡ Less) (keys ws) → list_any (λ w. is_key k w.key) ws ≡ false
none_above k [] below = refl
none_above k (w ∷ ws) below = ap (λ o. is_eq o || list_any (λ v. is_key k v.key) ws) below.0 ∙ none_above k ws below.1

pub times_more : (seen : List SeenKey) (s : SeenKey) (ws : List Write) (place : ℕ) → Rise ws → place < length ws → HoldsAt (λ w. w.key ≡ s.key) ws place →
    slice_set (times seen ws) place (option_or (wts_in seen s.key) (Some s.wts)) ≡ times (seen ++ s ∷ []) ws
times_more seen s [] place rises lt is = absurd (omega arith)
times_more seen s (w ∷ ws) zero rises lt is =
    cons_same _ _ _ _ (of_same seen s w.key (is w)) (times_same seen s ws (none_above s.key ws (subst (λ (k : RowKey). AllByRecursion (λ q. key_cmp k q ≡ Less) (keys ws)) (is w) rises.0)))
times_more seen s (w ∷ ws) (suc place) rises lt is =
    cons_same _ _ _ _ (sym (of_other seen s w.key (ap is_eq (below_at w.key s.key ws place rises.0 (omega (arith, lt)) is)))) (times_more seen s ws place rises.1 (omega (arith, lt)) is)

pub time_at : (seen : List SeenKey) (k : RowKey) (ws : List Write) (place : ℕ) (d : Option ℕ) → place < length ws → HoldsAt (λ w. w.key ≡ k) ws place → slice_index_or (times seen ws) place d ≡ wts_in seen k
time_at seen k [] place d lt is = absurd (omega arith)
time_at seen k (w ∷ ws) zero d lt is = ap (wts_in seen) (is w)
time_at seen k (w ∷ ws) (suc place) d lt is = time_at seen k ws place d (omega (arith, lt)) is
