-- Requests at the places of their ids.
use Rattle.std.proofs.Common.{◌≡◌, ◌≢◌, ◌⊎◌, inl, inr, ℕ, zero, suc, ◌+◌, ◌<◌, ◌≤◌, Bool, true, false, eqb, List, [], ◌∷◌, ◌++◌, length, map, get_or, Option, Some, None, Result, Ok, Err, refl, sym, ap, subst, ◌∙◌, arith, append_assoc, append-nil}
use Rattle.std.specs.Prelude.{nat_eq, IfOk}
use Rattle.std.specs.List.{slice_get, filter_map, All, AllByRecursion, Contains, IsDistinct}
use Rattle.std.specs.List.Sorted.{IsBinarySearchResult, IsNonDecreasingBy, IsPermutation, IsSearchInRange, IsSortedByKey}
use Rattle.std.specs.Option.{option_map}
use Rattle.std.specs.Ordering.{nat_cmp, ordering_index}
use Rattle.std.proofs.Math.ListN.{set}
use Rattle.std.proofs.lemmas.Bool.{cases_lt, eqb-true, eqb-false, eq-eqb}
use Rattle.std.proofs.lemmas.Bool.Decides.{nat_tests}
use Rattle.std.proofs.lemmas.Cmp.{nat_cmp_total, ranked}
use Rattle.std.proofs.lemmas.List.{ext_get_or, length-map, length-set, map-append}
use Rattle.std.proofs.lemmas.List.Elements.{All-append, All-cons, All-contains, All-nil, Contains-append_left, Contains-push, Contains-push_cases}
use Rattle.std.proofs.lemmas.List.Sorted.{All-permutation, Contains-permutation, IsPermutation-sym, searchable_from_sorted}
use Rattle.std.proofs.lemmas.Option.{get_or_from_slice_get, same_Some, slice_get-get_or, slice_get-map, slice_get_within}
use Rattle.coco_ast.specs.History.{request_of}
use Rattle.coco_finish.proofs.FinishLemmas.{get_set_other, get_set_same}
use Rattle.coco_types.specs.declared.call.Done.{Done}
use Rattle.coco_types.specs.declared.call.Request.{Request}
use Rattle.coco_lost.specs.Requests.{ArePlaces, AreRequestsOf, IsPut}
use Rattle.coco_lost.proofs.Places.{each_set}

-- ---- lists

at_slice : {X : Type 0} (xs : List X) (n : ℕ) (x : X) → slice_get xs n ≡ Some x → Contains xs x
at_slice xs n x at = (n, slice_get_within xs n x at, get_or_from_slice_get xs n x x at)

slice_at : {X : Type 0} (xs : List X) (x : X) → Contains xs x → (n : ℕ) × (slice_get xs n ≡ Some x)
slice_at {X} xs x among = (among.0, slice_get-get_or xs among.0 x among.1 ∙ ap (λ (y : X). Some y) among.2)

some_at : {X : Type 0} (xs : List X) (n : ℕ) → n < length xs → (x : X) × (slice_get xs n ≡ Some x)
some_at [] n lt = absurd (omega (arith, lt))
some_at (x ∷ xs) zero lt = (x, refl)
some_at (x ∷ xs) (suc n) lt = some_at xs n (omega (arith, lt))

in_map : {X Y : Type 0} (f : X → Y) (xs : List X) (y : Y) → Contains (map f xs) y → (x : X) × Contains xs x × (f x ≡ y)
in_map {X} {Y} f xs y among =
    let at = slice_at (map f xs) y among in
    let lt : at.0 < length xs = (let count : length (map f xs) ≡ length xs = length-map xs f in let less : at.0 < length (map f xs) = slice_get_within (map f xs) at.0 y at.1 in omega (arith, count, less)) in
    let x = some_at xs at.0 lt in (
      x.0,
      at_slice xs at.0 x.0 x.1,
      same_Some (f x.0) y (ap (λ (o : Option X). option_map f o) (sym x.1) ∙ sym (slice_get-map f xs at.0) ∙ at.1),
    )

all_at : (P : ℕ → Type 0) (xs : List ℕ) (m y : ℕ) → AllByRecursion P xs → slice_get xs m ≡ Some y → P y
all_at P [] m y all at = absurd (let less : m < 0 = slice_get_within [] m y at in omega (arith, less))
all_at P (x ∷ xs) zero y all at = subst P (same_Some x y at) all.0
all_at P (x ∷ xs) (suc m) y all at = all_at P xs m y all.1 at

two_sides : {X : Type 0} → true ≡ false → X
two_sides h = absurd cc

-- an id that has one place
place_once : (ids : List ℕ) (n m id : ℕ) → IsDistinct nat_eq ids → slice_get ids n ≡ Some id → slice_get ids m ≡ Some id → n ≡ m
unfolding IsDistinct
place_once [] n m id distinct at at_too = absurd (let less : n < 0 = slice_get_within [] n id at in omega (arith, less))
place_once (x ∷ xs) zero zero id distinct at at_too = refl
place_once (x ∷ xs) zero (suc m) id distinct at at_too = two_sides (sym (eq-eqb x id (same_Some x id at)) ∙ all_at (λ y. nat_eq x y ≡ false) xs m id distinct.0 at_too)
place_once (x ∷ xs) (suc n) zero id distinct at at_too = two_sides (sym (eq-eqb x id (same_Some x id at_too)) ∙ all_at (λ y. nat_eq x y ≡ false) xs n id distinct.0 at)
place_once (x ∷ xs) (suc n) (suc m) id distinct at at_too = ap suc (place_once xs n m id distinct.1 at at_too)

-- ---- a search

rises_with : (places : List (ℕ × ℕ)) (id : ℕ) → IsNonDecreasingBy (λ place. place.0) places → IsNonDecreasingBy (λ place. ordering_index (nat_cmp place.0 id)) places
rises_with places id rising i j d le lt = let less : (get_or places i d).0 ≤ (get_or places j d).0 = rising i j d le lt in grind (arith, nat_tests)

pub found_at : (places : List (ℕ × ℕ)) (id : ℕ) (r : Result ℕ ℕ) (at : ℕ) (e : ℕ × ℕ) → r ≡ Ok at → IsSearchInRange r (length places) → IsBinarySearchResult (λ place. nat_cmp place.0 id) places r → Contains places (id, (get_or places at e).1)
found_at places id (Ok k) at e is range found =
    let same : k ≡ at = cc in
    let key : (get_or places at e).0 ≡ id = ranked (get_or places at e).0 id _ (sym (ap (λ (j : ℕ). nat_cmp (get_or places j e).0 id) (sym same) ∙ found e)) in
    subst (λ (i : ℕ). Contains places (i, (get_or places at e).1)) key (at_slice places at (get_or places at e) (slice_get-get_or places at e (subst (λ (j : ℕ). j < length places) same range)))
found_at places id (Err k) at e is range found = absurd cc

pub found_none : (places : List (ℕ × ℕ)) (id : ℕ) (r : Result ℕ ℕ) (at : ℕ) → r ≡ Err at → IsBinarySearchResult (λ place. nat_cmp place.0 id) places r → IsNonDecreasingBy (λ place. place.0) places
    → (place : ℕ) → Contains places (id, place) → ⊥
found_none places id (Ok k) at is parted rising place among = absurd cc
found_none places id (Err k) at is parted rising place among =
    by_place (cases_lt among.0 k) (ap (λ (p : ℕ × ℕ). p.0) among.2)
  where
    by_place : (among.0 < k) ⊎ (k ≤ among.0) → (get_or places among.0 (id, place)).0 ≡ id → ⊥
    by_place (inl below) key =
        let less : (get_or places among.0 (id, place)).0 < id = ranked (get_or places among.0 (id, place)).0 id _ (sym ((parted (rises_with places id rising)).0 among.0 (id, place) (omega arith) below)) in
        omega (arith, less, key)
    by_place (inr above) key =
        let more : id < (get_or places among.0 (id, place)).0 = ranked (get_or places among.0 (id, place)).0 id _ (sym ((parted (rises_with places id rising)).1 among.0 (id, place) above among.1)) in
        omega (arith, more, key)

-- sorted by the id
pub rises_sorted : (places : List (ℕ × ℕ)) → IsSortedByKey (λ place. place.0) nat_cmp places → IsNonDecreasingBy (λ place. place.0) places
rises_sorted places sorted i j d le lt =
    let least : ordering_index (nat_cmp (get_or places i d).0 (get_or places j d).0) ≤ ordering_index (nat_cmp (get_or places j d).0 (get_or places j d).0) =
    searchable_from_sorted nat_cmp_total (λ (place : ℕ × ℕ). place.0) places (get_or places j d).0 sorted i j d le lt in
    grind (arith, nat_tests)

-- ---- slots

-- The slots have requests of the Dones that have come, each at the place of its id, and one at the place of each id that has come.
pub record Filled (ids : List ℕ) (passed : List Done) (slots : List (Option Request)) : Type 0 where
  pub count : length slots ≡ length ids
  pub only : (n : ℕ) (r : Request) → slice_get slots n ≡ Some (Some r) → Contains (map request_of passed) r × (slice_get ids n ≡ Some r.id)
  pub each : IsDistinct nat_eq ids → (d : Done) (n : ℕ) → Contains passed d → slice_get ids n ≡ Some d.id → (r : Request) × (slice_get slots n ≡ Some (Some r))

module _ (ids : List ℕ) (places : List (ℕ × ℕ)) (passed : List Done) (slots : List (Option Request)) (d : Done) (slots_new : List (Option Request))
    (are : ArePlaces ids places) (was : Filled ids passed slots) where
  wider : (r : Request) → Contains (map request_of passed) r → Contains (map request_of (passed ++ d ∷ [])) r
  wider r among = subst (λ (rs : List Request). Contains rs r) (sym (map-append request_of passed (d ∷ []))) (Contains-append_left (map request_of passed) (request_of d ∷ []) r among)

  newest : Contains (map request_of (passed ++ d ∷ [])) (request_of d)
  newest = subst (λ (rs : List Request). Contains rs (request_of d)) (sym (map-append request_of passed (d ∷ []))) (Contains-push (map request_of passed) (request_of d))

  module _ (place : ℕ) (among : Contains places (d.id, place)) (is : slots_new ≡ set slots place (Some (request_of d))) where
    at : slice_get ids place ≡ Some d.id
    at = All-contains (λ (p : ℕ × ℕ). slice_get ids p.1 ≡ Some p.0) places (d.id, place) are.only among

    within : place < length slots
    within = let less : place < length ids = slice_get_within ids place d.id at in let count : length slots ≡ length ids = was.count in omega (arith, less, count)

    only_put : (n : ℕ) (r : Request) → slice_get (set slots place (Some (request_of d))) n ≡ Some (Some r) → Contains (map request_of (passed ++ d ∷ [])) r × (slice_get ids n ≡ Some r.id)
    only_put n r got = each_set slots place (Some (request_of d)) within (λ k x. (q : Request) → x ≡ Some q → Contains (map request_of (passed ++ d ∷ [])) q × (slice_get ids k ≡ Some q.id))
        (λ q same. let one : request_of d ≡ q = same_Some (request_of d) q same in (subst (Contains (map request_of (passed ++ d ∷ []))) one newest, subst (λ (x : Request). slice_get ids place ≡ Some x.id) one at))
        (λ k x other found q same. let old = was.only k q (found ∙ ap (λ (y : Option Request). Some y) same) in (wider q old.0, old.1))
        n (Some r) got r refl

    each_put : IsDistinct nat_eq ids → (e : Done) (n : ℕ) → Contains (passed ++ d ∷ []) e → slice_get ids n ≡ Some e.id → (r : Request) × (slice_get (set slots place (Some (request_of d))) n ≡ Some (Some r))
    each_put distinct e n among_e at_e = elim (Contains-push_cases passed d e among_e) [
      | inl old ↦ by (was.each distinct e n old at_e) (eqb n place) refl
      | inr now ↦ (
        request_of d,
        subst (λ (k : ℕ). slice_get (set slots place (Some (request_of d))) k ≡ Some (Some (request_of d)))
            (place_once ids place n d.id distinct at (at_e ∙ ap (λ (x : Done). Some x.id) (sym now))) (get_set_same slots place (Some (request_of d)) within),
      )
    ]
      where
        by : (r : Request) × (slice_get slots n ≡ Some (Some r)) → (b : Bool) → eqb n place ≡ b → (r : Request) × (slice_get (set slots place (Some (request_of d))) n ≡ Some (Some r))
        by old true same = (request_of d, ap (λ (k : ℕ). slice_get (set slots place (Some (request_of d))) k) (eqb-true n place same) ∙ get_set_same slots place (Some (request_of d)) within)
        by old false other = (old.0, get_set_other slots place n (Some (request_of d)) (eqb-false n place other) ∙ old.1)

    filled_put : Filled ids (passed ++ d ∷ []) slots_new
    filled_put = subst (λ (s : List (Option Request)). Filled ids (passed ++ d ∷ []) s) (sym is) (record {
      count = length-set slots place (Some (request_of d)) ∙ was.count;
      only = only_put;
      each = each_put;
    })

  filled_not : ((place : ℕ) → Contains places (d.id, place) → ⊥) → slots_new ≡ slots → Filled ids (passed ++ d ∷ []) slots_new
  filled_not none is = subst (λ (s : List (Option Request)). Filled ids (passed ++ d ∷ []) s) (sym is) (record {
    count = was.count;
    only = λ n r got. let old = was.only n r got in (wider r old.0, old.1);
    each = λ distinct e n among at. elim (Contains-push_cases passed d e among) [
      | inl old ↦ was.each distinct e n old at
      | inr now ↦ absurd (none n (are.each n d.id (at ∙ ap (λ (x : Done). Some x.id) (sym now))))
    ];
  })

  pub filled_step : IsPut places (request_of d) slots slots_new → Filled ids (passed ++ d ∷ []) slots_new
  filled_step (inl put) = filled_put put.0 put.1 put.2
  filled_step (inr none) = filled_not none.0 none.1

-- ---- the end

somes_of : (requests : List Request) → filter_map (λ (slot : Option Request). slot) (map (λ (r : Request). Some r) requests) ≡ requests
somes_of [] = refl
somes_of (r ∷ rs) = ap (λ (xs : List Request). r ∷ xs) (somes_of rs)

module _ (ids : List ℕ) (dones : List Done) (slots : List (Option Request)) (filled : Filled ids dones slots) (requests : List Request) (are : AreRequestsOf ids dones requests) where
  id_at : (n : ℕ) (r : Request) → slice_get requests n ≡ Some r → slice_get ids n ≡ Some r.id
  id_at n r at = ap (λ (xs : List ℕ). slice_get xs n) are.ids_are ∙ slice_get-map (λ (q : Request). q.id) requests n ∙ ap (λ (o : Option Request). option_map (λ (q : Request). q.id) o) at

  slot_at : (n : ℕ) (r : Request) → slice_get requests n ≡ Some r → slice_get slots n ≡ Some (Some r)
  slot_at n r at =
      let done = in_map request_of dones r (Contains-permutation requests (map request_of dones) r are.each (at_slice requests n r at)) in
      let slot = filled.each are.distinct done.0 n done.1 (id_at n r at ∙ ap (λ (q : Request). Some q.id) (sym done.2)) in
      let put = filled.only n slot.0 slot.1 in
      let place = slice_at requests slot.0 (Contains-permutation (map request_of dones) requests slot.0 (IsPermutation-sym requests (map request_of dones) are.each) put.0) in
      let same : place.0 ≡ n = place_once ids place.0 n slot.0.id are.distinct (id_at place.0 slot.0 place.1) put.1 in
      let one : slot.0 ≡ r = same_Some slot.0 r (sym place.1 ∙ ap (λ (k : ℕ). slice_get requests k) same ∙ at) in
      slot.1 ∙ ap (λ (q : Request). Some (Some q)) one

  count_is : length slots ≡ length requests
  count_is = filled.count ∙ ap (λ (xs : List ℕ). length xs) are.ids_are ∙ length-map requests (λ (q : Request). q.id)

  slots_are : slots ≡ map (λ (r : Request). Some r) requests
  slots_are = ext_get_or None slots (map (λ (r : Request). Some r) requests) (count_is ∙ sym (length-map requests (λ (r : Request). Some r))) (λ n lt.
      let r = some_at requests n (omega (arith, lt, count_is)) in
      get_or_from_slice_get slots n (Some r.0) None (slot_at n r.0 r.1)
      ∙ sym (get_or_from_slice_get (map (λ (q : Request). Some q) requests) n (Some r.0) None
      (slice_get-map (λ (q : Request). Some q) requests n ∙ ap (λ (o : Option Request). option_map (λ (q : Request). Some q) o) r.1)))

  pub filled_all : filter_map (λ (slot : Option Request). slot) slots ≡ requests
  filled_all = ap (λ (xs : List (Option Request)). filter_map (λ (slot : Option Request). slot) xs) slots_are ∙ somes_of requests

-- what has come is all, once no more comes
pub all_passed : {X : Type 0} (all passed rest : List X) → all ≡ passed ++ rest → length rest ≡ 0 → all ≡ passed
all_passed all passed [] is none = is ∙ append-nil passed
all_passed all passed (x ∷ rest) is none = absurd (omega (arith, none))

-- one place more
module _ (ids : List ℕ) (k id : ℕ) (places : List (ℕ × ℕ)) (here : slice_get ids k ≡ Some id) where
  pub places_each : ((n i : ℕ) → n < k → slice_get ids n ≡ Some i → Contains places (i, n)) → (n i : ℕ) → n < k + 1 → slice_get ids n ≡ Some i → Contains (places ++ (id, k) ∷ []) (i, n)
  places_each each n i lt at = by (eqb n k) refl
    where
      by : (b : Bool) → eqb n k ≡ b → Contains (places ++ (id, k) ∷ []) (i, n)
      by true is =
          let same : n ≡ k = eqb-true n k is in
          let one : id ≡ i = same_Some id i (sym here ∙ ap (λ (m : ℕ). slice_get ids m) (sym same) ∙ at) in
          subst (λ (m : ℕ). Contains (places ++ (id, k) ∷ []) (i, m)) (sym same) (subst (λ (j : ℕ). Contains (places ++ (id, k) ∷ []) (j, k)) one (Contains-push places (id, k)))
      by false is = let other : n ≢ k = eqb-false n k is in Contains-append_left places ((id, k) ∷ []) (i, n) (each n i (omega (arith, lt, other)) at)

  pub places_only : All (λ (place : ℕ × ℕ). slice_get ids place.1 ≡ Some place.0) places → All (λ (place : ℕ × ℕ). slice_get ids place.1 ≡ Some place.0) (places ++ (id, k) ∷ [])
  places_only only = All-append (λ (place : ℕ × ℕ). slice_get ids place.1 ≡ Some place.0) places ((id, k) ∷ []) only
      (All-cons (λ (place : ℕ × ℕ). slice_get ids place.1 ≡ Some place.0) (id, k) [] here (All-nil (λ (place : ℕ × ℕ). slice_get ids place.1 ≡ Some place.0)))

pub are_places : (ids : List ℕ) (places sorted : List (ℕ × ℕ)) → IsPermutation places sorted → ((n id : ℕ) → n < length ids → slice_get ids n ≡ Some id → Contains places (id, n))
    → All (λ (place : ℕ × ℕ). slice_get ids place.1 ≡ Some place.0) places → ArePlaces ids sorted
are_places ids places sorted same each only = record {
  each = λ n id at. Contains-permutation places sorted (id, n) same (each n id (slice_get_within ids n id at) at);
  only = All-permutation (λ (place : ℕ × ℕ). slice_get ids place.1 ≡ Some place.0) places sorted same only;
}

pub within_slots : (ids : List ℕ) (places : List (ℕ × ℕ)) (slots : List (Option Request)) → ArePlaces ids places → length slots ≡ length ids → All (λ (place : ℕ × ℕ). place.1 < length slots) places
within_slots ids places slots are count k d lt =
    let at : (get_or places k d).1 < length ids = slice_get_within ids (get_or places k d).1 (get_or places k d).0 (are.only k d lt) in
    omega (arith, at, count)

pub place_within : (places : List (ℕ × ℕ)) (slots : List (Option Request)) (id place : ℕ) → All (λ (p : ℕ × ℕ). p.1 < length slots) places → Contains places (id, place) → place < length slots
place_within places slots id place all among = All-contains (λ (p : ℕ × ℕ). p.1 < length slots) places (id, place) all among

-- one more has come
pub one_more : {X : Type 0} (all passed rest : List X) (x : X) (later : List X) → all ≡ passed ++ rest → rest ≡ x ∷ later → all ≡ (passed ++ x ∷ []) ++ later
one_more {X} all passed rest x later is step = is ∙ ap (λ (xs : List X). passed ++ xs) step ∙ sym (append_assoc passed (x ∷ []) later)

-- more holds of what an Ok has
pub ok_more : {X E : Type 0} {P Q : X → Type 0} (r : Result X E) → IfOk r P → ((x : X) → P x → Q x) → IfOk r Q
ok_more (Ok x) holds more = more x holds
ok_more (Err e) holds more = tt
