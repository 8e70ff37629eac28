-- The requests that go to the tail, and their places.
use Rattle.std.proofs.Common.{◌≡◌, ℕ, zero, suc, ◌+◌, ◌<◌, ◌≤◌, Bool, true, false, cond, nat_eq, List, [], ◌∷◌, ◌++◌, map, length, slice_index_or, take, refl, sym, ap, ◌∙◌, arith}
use Rattle.std.specs.List.{AllByRecursion, IsDistinct}
use Rattle.std.proofs.lemmas.Bool.{eq-eqb, eqb-true}
use Rattle.std.proofs.lemmas.List.{append-nil, length-take-le, map-append, take_more}
use Rattle.coco_types.specs.declared.call.Request.{Request}
use Rattle.coco_ast.proofs.Lists.{all_append}
use Rattle.coco_tail.specs.Pieces.{place_of}
use Rattle.coco_tail.specs.Running.{AreAtTheirPlaces, requests_of}
use Rattle.coco_tail.specs.declared.placed.PlacedRequest.{PlacedRequest}
use Rattle.coco_order.specs.Execution.{Execution}
use Rattle.coco_order.specs.Outcome.{is_committed, uncommitted}
use Rattle.coco_parallel.proofs.SlotLemmas.{by_bool}

-- ---- which requests

-- what is told of the requests from a place on, in order, but for those of places that committed
module _ {X : Type 0} (x : Execution) (one : ℕ → Request → X) (all : ℕ → List Request → List X) (none : (place : ℕ) → all place [] ≡ [])
    (step : (place : ℕ) (r : Request) (rs : List Request) → all place (r ∷ rs) ≡ cond (is_committed x place) (all (suc place) rs) (one place r ∷ all (suc place) rs)) where
  told_append : (place : ℕ) (rs qs : List Request) → all place (rs ++ qs) ≡ all place rs ++ all (place + length rs) qs
  told_append place [] qs = let here : place ≡ place + 0 = omega arith in ap (λ (n : ℕ). all n qs) here ∙ ap (λ (xs : List X). xs ++ all (place + 0) qs) (sym (none place))
  told_append place (r ∷ rs) qs =
      let next : suc place + length rs ≡ place + suc (length rs) = omega arith in
      step place r (rs ++ qs) ∙ by_test (is_committed x place) (told_append (suc place) rs qs)
      ∙ ap (λ (n : ℕ). cond (is_committed x place) (all (suc place) rs) (one place r ∷ all (suc place) rs) ++ all n qs) next
      ∙ ap (λ (xs : List X). xs ++ all (place + suc (length rs)) qs) (sym (step place r rs))
    where
      by_test : (b : Bool) → all (suc place) (rs ++ qs) ≡ all (suc place) rs ++ all (suc place + length rs) qs
          → cond b (all (suc place) (rs ++ qs)) (one place r ∷ all (suc place) (rs ++ qs)) ≡ cond b (all (suc place) rs) (one place r ∷ all (suc place) rs) ++ all (suc place + length rs) qs
      by_test true more = more
      by_test false more = ap (λ (xs : List X). one place r ∷ xs) more

  told_more : (rs : List Request) (place : ℕ) (d : Request) → place < length rs → all 0 (take (place + 1) rs) ≡ all 0 (take place rs) ++ cond (is_committed x place) [] (one place (slice_index_or rs place d) ∷ [])
  told_more rs place d lt =
      let taken : 0 + length (take place rs) ≡ place = omega (arith, length-take-le place rs (omega (arith, lt))) in
      ap (all 0) (take_more rs place d lt) ∙ told_append 0 (take place rs) (slice_index_or rs place d ∷ [])
      ∙ ap (λ (n : ℕ). all 0 (take place rs) ++ all n (slice_index_or rs place d ∷ [])) taken
      ∙ ap (λ (xs : List X). all 0 (take place rs) ++ xs) (step place (slice_index_or rs place d) [] ∙ ap (λ (xs : List X). cond (is_committed x place) xs (one place (slice_index_or rs place d) ∷ xs)) (none (suc place)))

  -- a request of a committed place isn't told, each other one is
  pub not_told : (rs : List Request) (place : ℕ) → place < length rs → is_committed x place ≡ true → all 0 (take place rs) ≡ all 0 (take (place + 1) rs)
  not_told [] place lt is = absurd (omega (arith, lt))
  not_told (r ∷ rs) place lt is = sym (append-nil (all 0 (take place (r ∷ rs)))) ∙ ap (λ b. all 0 (take place (r ∷ rs)) ++ cond b [] (one place (slice_index_or (r ∷ rs) place r) ∷ [])) (sym is) ∙ sym (told_more (r ∷ rs) place r lt)

  pub told : (rs : List Request) (place : ℕ) (d : Request) → place < length rs → is_committed x place ≡ false → all 0 (take place rs) ++ one place (slice_index_or rs place d) ∷ [] ≡ all 0 (take (place + 1) rs)
  told rs place d lt is = ap (λ b. all 0 (take place rs) ++ cond b [] (one place (slice_index_or rs place d) ∷ [])) (sym is) ∙ sym (told_more rs place d lt)

  pub none_told : (place : ℕ) (rs : List Request) → ((k : ℕ) → k < length rs → is_committed x (place + k) ≡ true) → all place rs ≡ []
  none_told place [] each = none place
  none_told place (r ∷ rs) each =
      let here : place ≡ place + 0 = omega arith in
      let next : (k : ℕ) → suc place + k ≡ place + suc k = λ k. omega arith in
      step place r rs ∙ ap (λ b. cond b (all (suc place) rs) (one place r ∷ all (suc place) rs)) (ap (is_committed x) here ∙ each 0 (omega arith))
      ∙ none_told (suc place) rs (λ k lt. ap (is_committed x) (next k) ∙ each (suc k) (omega (arith, lt)))

module _ (x : Execution) where
  -- the request of a committed place doesn't go to the tail, each other one does
  pub skipped : (tail : List PlacedRequest) (rs : List Request) (place : ℕ) → place < length rs → is_committed x place ≡ true → requests_of tail ≡ uncommitted x 0 (take place rs) → requests_of tail ≡ uncommitted x 0 (take (place + 1) rs)
  skipped tail rs place lt is was = was ∙ not_told x (λ _ r. r) (uncommitted x) (λ _. refl) (λ _ _ _. refl) rs place lt is

  pub added : (tail : List PlacedRequest) (rs : List Request) (place : ℕ) (p : PlacedRequest) → place < length rs → is_committed x place ≡ false → p.request ≡ slice_index_or rs place p.request → requests_of tail ≡ uncommitted x 0 (take place rs)
      → requests_of (tail ++ p ∷ []) ≡ uncommitted x 0 (take (place + 1) rs)
  added tail rs place p lt none there was =
      map-append (λ (q : PlacedRequest). q.request) tail (p ∷ [])
      ∙ ap (λ (ls : List Request). ls ++ p.request ∷ []) was
      ∙ ap (λ (r : Request). uncommitted x 0 (take place rs) ++ r ∷ []) there
      ∙ told x (λ _ r. r) (uncommitted x) (λ _. refl) (λ _ _ _. refl) rs place p.request lt none

  -- what holds of all requests holds of those, and they are no more
  pub all_left_over : (P : Request → Type 0) (place : ℕ) (rs : List Request) → AllByRecursion P rs → AllByRecursion P (uncommitted x place rs)
  all_left_over P place [] all = tt
  all_left_over P place (r ∷ rs) all =
      elim (is_committed x place) as (λ b. AllByRecursion P (cond b (uncommitted x (suc place) rs) (r ∷ uncommitted x (suc place) rs))) [
        | true ↦ all_left_over P (suc place) rs all.1
        | false ↦ (all.0, all_left_over P (suc place) rs all.1)
      ]

  pub few_left_over : (place : ℕ) (rs : List Request) → length (uncommitted x place rs) ≤ length rs
  few_left_over place [] = omega arith
  few_left_over place (r ∷ rs) =
      let rest : length (uncommitted x (suc place) rs) ≤ length rs = few_left_over (suc place) rs in
      elim (is_committed x place) as (λ b. length (cond b (uncommitted x (suc place) rs) (r ∷ uncommitted x (suc place) rs)) ≤ suc (length rs)) [
        | true ↦ omega (arith, rest)
        | false ↦ omega (arith, rest)
      ]

-- ---- their places

abbrev pub ids_of : List Request → List ℕ
ids_of = map (λ (r : Request). r.id)

other_id : (a b : ℕ) → nat_eq a b ≡ false → nat_eq b a ≡ false
other_id a b f = by_bool (λ t. nat_eq b a ≡ t → t ≡ false) (nat_eq b a) (λ t _. absurd (two_sides (sym (eq-eqb a b (sym (eqb-true b a t))) ∙ f))) (λ _ _. refl) refl
  where
    two_sides : true ≡ false → ⊥
    two_sides h = cc

apart_at : (id : ℕ) (rs : List Request) → AllByRecursion (λ other. nat_eq id other ≡ false) (ids_of rs) → (place : ℕ) (d : Request) → place < length rs → nat_eq (slice_index_or rs place d).id id ≡ false
apart_at id [] all place d lt = absurd (omega (arith, lt))
apart_at id (r ∷ rs) all zero d lt = other_id id r.id all.0
apart_at id (r ∷ rs) all (suc place) d lt = apart_at id rs all.1 place d (omega (arith, lt))

-- the place of a request is the one where it stands
pub stands_at : (rs : List Request) → IsDistinct nat_eq (ids_of rs) → (place : ℕ) (d : Request) → place < length rs → place ≡ place_of rs (slice_index_or rs place d).id
unfolding IsDistinct
stands_at [] distinct place d lt = absurd (omega (arith, lt))
stands_at (r ∷ rs) distinct zero d lt = ap (λ b. cond b 0 (suc (place_of rs r.id))) (sym (eq-eqb r.id r.id refl))
stands_at (r ∷ rs) distinct (suc place) d lt =
    ap suc (stands_at rs distinct.1 place d (omega (arith, lt)))
    ∙ ap (λ b. cond b 0 (suc (place_of rs (slice_index_or rs place d).id))) (sym (apart_at r.id rs distinct.0 place d (omega (arith, lt))))

pub placed_more : (requests : List Request) (tail : List PlacedRequest) (p : PlacedRequest) (place : ℕ) → IsDistinct nat_eq (ids_of requests) → place < length requests → p.place ≡ place → p.request ≡ slice_index_or requests place p.request → AreAtTheirPlaces requests tail
    → AreAtTheirPlaces requests (tail ++ p ∷ [])
placed_more requests tail p place distinct lt at there all = all_append (λ (q : PlacedRequest). q.place ≡ place_of requests q.request.id) tail (p ∷ []) all
    (at ∙ stands_at requests distinct place p.request lt ∙ ap (λ (r : Request). place_of requests r.id) (sym there), tt)
