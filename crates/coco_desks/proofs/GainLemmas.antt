-- What passes gain by a step, and from one stretch of steps to the next.
use Rattle.std.proofs.Common.{◌≡◌, ℕ, zero, suc, ◌<◌, Bool, true, false, nat_eq, List, [], ◌∷◌, ◌++◌, map, length, Some, refl, sym, ap, ◌∙◌, subst, arith, append_assoc, slice_index_or, slice_set}
use Rattle.std.specs.List.{slice_get}
use Rattle.std.specs.Option.{option_map}
use Rattle.std.proofs.lemmas.List.{append-nil, map-append}
use Rattle.std.proofs.lemmas.Option.{slice_get-map, slice_get-get_or, same_Some}
use Rattle.std.proofs.lemmas.Bool.{eqb-true, eq-eqb}
use Rattle.coco_seen.specs.Notes.{Lock, TableId}
use Rattle.coco_journaled.specs.declared.entry.Placed.{Placed}
use Rattle.coco_journaled.specs.Passes.{Passing, Looks, Steps, placed}
use Rattle.coco_desks.specs.Gains.{undone, AreOf, AreSame, done_by, done_at, Gain}

-- ---- an item of a list that is set

map_set : {X Y : Type 0} (f : X → Y) (xs : List X) (i : ℕ) (y d : X) → f y ≡ f (slice_index_or xs i d) → map f (slice_set xs i y) ≡ map f xs
map_set f [] i y d is = refl
map_set f (x ∷ xs) zero y d is = ap (λ z. z ∷ map f xs) is
map_set f (x ∷ xs) (suc i) y d is = ap (λ zs. f x ∷ zs) (map_set f xs i y d is)

pub get_set_same : {X : Type 0} (xs : List X) (i : ℕ) (y : X) → i < length xs → slice_get (slice_set xs i y) i ≡ Some y
get_set_same [] i y lt = absurd (omega arith)
get_set_same (z ∷ xs) zero y lt = refl
get_set_same (z ∷ xs) (suc i) y lt = get_set_same xs i y (omega arith)

pub get_set_other : {X : Type 0} (xs : List X) (i k : ℕ) (y : X) → (i ≡ k → ⊥) → slice_get (slice_set xs i y) k ≡ slice_get xs k
get_set_other [] i k y apart = refl
get_set_other (z ∷ xs) zero zero y apart = absurd (apart refl)
get_set_other (z ∷ xs) zero (suc k) y apart = refl
get_set_other (z ∷ xs) (suc i) zero y apart = refl
get_set_other (z ∷ xs) (suc i) (suc k) y apart = get_set_other xs i k y (λ e. apart (ap suc e))

same_length : {X Y : Type 0} (f : X → Y) (xs : List X) → length (map f xs) ≡ length xs
same_length f [] = refl
same_length f (x ∷ xs) = ap suc (same_length f xs)

at_map : {X Y : Type 0} (f : X → Y) (xs : List X) (i : ℕ) (d : X) → i < length xs → slice_get (map f xs) i ≡ Some (f (slice_index_or xs i d))
at_map f xs i d lt = slice_get-map f xs i ∙ ap (option_map f) (slice_get-get_or xs i d lt)

abbrev id_of : Lock → TableId
id_of l = l.id

module _ {M Q A : Type 0} where
  abbrev lock_of : Passing M Q A → TableId
  lock_of p = p.lock

  -- ---- the same passes

  locks_undone : (ps : List (Passing M Q A)) → map lock_of (map undone ps) ≡ map lock_of ps
  locks_undone [] = refl
  locks_undone (p ∷ ps) = ap (λ ls. p.lock ∷ ls) (locks_undone ps)

  -- the same passes are of the same locks
  pub still_of : (locks : List Lock) (before after : List (Passing M Q A)) → AreOf locks before → AreSame before after → AreOf locks after
  still_of locks before after of same = sym (locks_undone after) ∙ ap (map lock_of) same ∙ locks_undone before ∙ of

  -- there is one for each lock
  pub as_many : (locks : List Lock) (passes : List (Passing M Q A)) → AreOf locks passes → length passes ≡ length locks
  as_many locks passes of = sym (same_length lock_of passes) ∙ ap length of ∙ same_length id_of locks

  pub same_count : (before after : List (Passing M Q A)) → AreSame before after → length after ≡ length before
  same_count before after same = sym (same_length undone after) ∙ ap length same ∙ same_length undone before

  -- the pass at a place is of the lock there
  pub lock_at : (locks : List Lock) (passes : List (Passing M Q A)) (i : ℕ) (d : Passing M Q A) (e : Lock) → AreOf locks passes → i < length locks → (slice_index_or passes i d).lock ≡ (slice_index_or locks i e).id
  lock_at locks passes i d e of lt =
      let many = as_many locks passes of in
      same_Some _ _ (sym (at_map lock_of passes i d (omega arith)) ∙ ap (λ ls. slice_get ls i) of ∙ at_map id_of locks i e lt)

  pub lock_here : (locks : List Lock) (passes : List (Passing M Q A)) (i : ℕ) (d : Passing M Q A) (l : Lock) → AreOf locks passes → i < length locks → l ≡ slice_index_or locks i l → (slice_index_or passes i d).lock ≡ l.id
  lock_here locks passes i d l of lt is = lock_at locks passes i d l of lt ∙ ap id_of (sym is)

  pub same_set : (passes : List (Passing M Q A)) (i : ℕ) (q d : Passing M Q A) → undone q ≡ undone (slice_index_or passes i d) → AreSame passes (slice_set passes i q)
  same_set passes i q d is = map_set undone passes i q d is

  pub same_looked : (p q : Passing M Q A) → Looks p q → undone q ≡ undone p
  same_looked p q looks = ap undone looks.1

  -- ---- what they gain

  module _ {X : Type 0} (seen : Placed Q A → X) where
    pub gain_none : (passes : List (Passing M Q A)) → Gain seen passes passes (λ _. [])
    gain_none passes place lt = sym (append-nil (done_at seen passes place))

    pub gain_as : (before after : List (Passing M Q A)) (f g : ℕ → List X) → Gain seen before after f → ((place : ℕ) → place < length before → f place ≡ g place) → Gain seen before after g
    gain_as before after f g gain same place lt = gain place lt ∙ ap (λ xs. done_at seen before place ++ xs) (same place lt)

    pub gain_then : (a b c : List (Passing M Q A)) (f g : ℕ → List X) → AreSame a b → Gain seen a b f → Gain seen b c g → Gain seen a c (λ place. f place ++ g place)
    gain_then a b c f g same first next place lt =
        let many = same_count a b same in
        next place (omega arith) ∙ ap (λ xs. xs ++ g place) (first place lt) ∙ append_assoc (done_at seen a place) (f place) (g place)

    -- the pass at one place gains this, and no other gains anything
    pub gain_set : (passes : List (Passing M Q A)) (i : ℕ) (q d : Passing M Q A) (x : X) (more : ℕ → List X) → i < length passes → map seen q.calls ≡ map seen (slice_index_or passes i d).calls ++ x ∷ []
        → more i ≡ x ∷ [] → ((k : ℕ) → (i ≡ k → ⊥) → more k ≡ []) → Gain seen passes (slice_set passes i q) more
    gain_set passes i q d x more lt is here apart place below = by_place (nat_eq i place) refl
      where
        by_place : (b : Bool) → nat_eq i place ≡ b → done_at seen (slice_set passes i q) place ≡ done_at seen passes place ++ more place
        by_place true same =
            let e : i ≡ place = eqb-true i place same in
            subst (λ (k : ℕ). done_at seen (slice_set passes i q) k ≡ done_at seen passes k ++ more k) e
            (ap (done_by seen) (get_set_same passes i q lt) ∙ is
            ∙ ap (λ xs. xs ++ x ∷ []) (sym (ap (done_by seen) (slice_get-get_or passes i d lt)))
            ∙ ap (λ xs. done_at seen passes i ++ xs) (sym here))
        by_place false other =
            let away : i ≡ place → ⊥ = λ e. (let h : true ≡ false = sym (eq-eqb i place e) ∙ other in cc) in
            ap (done_by seen) (get_set_other passes i place q away)
            ∙ sym (append-nil (done_at seen passes place)) ∙ ap (λ xs. done_at seen passes place ++ xs) (sym (apart place away))

-- ---- a step

module _ {M Q A : Type 0} (answer_to : M → Q → A) (state_after : M → Q → M) where
  pub same_stepped : (p q : Passing M Q A) (ask : Q) (answer : A) → Steps answer_to state_after p ask answer q → undone q ≡ undone p
  same_stepped p q ask answer steps = ap undone steps.4

  -- the pass has the call behind those that it had
  pub stepped_calls : {X : Type 0} (seen : Placed Q A → X) (p q : Passing M Q A) (ask : Q) (answer : A) (x : X) → Steps answer_to state_after p ask answer q → ((place : ℕ) → seen (placed place ask answer) ≡ x)
      → map seen q.calls ≡ map seen p.calls ++ x ∷ []
  stepped_calls {X = X} seen p q ask answer x steps is =
      let place : ℕ = length (p.list ++ steps.1) in
      ap (λ (r : Passing M Q A). map seen r.calls) steps.4 ∙ map-append seen p.calls (placed place ask answer ∷ []) ∙ ap (λ (y : X). map seen p.calls ++ y ∷ []) (is place)
