-- In a closed journal the entries of a pass are its calls.
use Rattle.std.proofs.Common.{◌≡◌, ◌⊎◌, ℕ, zero, suc, ◌+◌, ◌<◌, ◌≤◌, ◌==◌, ◌-◌, Bool, true, false, cond, nat_eq, nat_lt, List, [], ◌∷◌, map, length, get_or, Option, None, Some, inl, inr, refl, sym, ap, ◌∙◌, subst, arith, All, eq-eqb}
use Rattle.std.specs.Prelude.{slice_get, sum_by}
use Rattle.std.proofs.lemmas.Bool.{cases_lt, eqb-true}
use Rattle.std.proofs.lemmas.Bool.Decides.{nat_tests}
use Rattle.std.proofs.lemmas.List.{get_or-map}
use Rattle.std.proofs.lemmas.List.Elements.{All-head, All-tail}
use Rattle.std.proofs.lemmas.List.Sums.{sum_by-cons}
use Rattle.std.proofs.lemmas.Option.{slice_get-get_or, slice_get_within}
use Rattle.coco_seen.specs.Rules.{how_often, numbers, once_below}
use Rattle.coco_journaled.specs.declared.entry.Entry.{Entry}
use Rattle.coco_journaled.specs.declared.entry.Placed.{Placed}
use Rattle.coco_journaled.specs.Passes.{Passing, HasPasses, Rises, entries_of, entry_of, places}

none_some : {X : Type 0} {x : X} → None ≡ Some x → ⊥
none_some h = cc

some_same : {X : Type 0} {x y : X} → Some x ≡ Some y → x ≡ y
some_same h = cc

two_sides : true ≡ false → ⊥
two_sides h = cc

abbrev one_if : Bool → ℕ
one_if b = cond b 1 0

-- an item that counts, where the sum isn't 0
record Counts {X : Type 0} (f : X → ℕ) (xs : List X) : Type 0 where
  at : ℕ
  within : at < length xs
  counts : (d : X) → 1 ≤ f (get_or xs at d)

some_counts : {X : Type 0} (f : X → ℕ) (xs : List X) → 1 ≤ sum_by f xs → Counts f xs
some_counts f [] few = absurd (omega arith)
some_counts f (x ∷ xs) few =
    elim (cases_lt 0 (f x)) [
      | inl here ↦ record { at = 0; within = omega arith; counts = λ d. here }
      | inr none ↦
          let rest : 1 ≤ sum_by f xs = omega (arith, sum_by-cons f x xs) in
          let found : Counts f xs = some_counts f xs rest in
          let lt : found.at < length xs = found.within in
          record { at = suc found.at; within = omega arith; counts = λ d. found.counts d }
    ]

an_item : {X : Type 0} (f : X → ℕ) (xs : List X) → 1 ≤ sum_by f xs → X
an_item f [] few = absurd (omega arith)
an_item f (x ∷ xs) few = x

length-numbers : (k n : ℕ) → length (numbers k n) ≡ n
length-numbers k zero = refl
length-numbers k (suc n) = ap suc (length-numbers (suc k) n)

number_at : (k n i d : ℕ) → i < n → get_or (numbers k n) i d ≡ k + i
number_at k zero i d lt = absurd (omega arith)
number_at k (suc n) zero d lt = omega arith
number_at k (suc n) (suc i) d lt = let rest : get_or (numbers (suc k) n) i d ≡ suc k + i = number_at (suc k) n i d (omega arith) in omega arith

module _ {Q A : Type 0} where
  -- a call stands at this place
  abbrev HasPlace : ℕ → List (Placed Q A) → Type 0
  HasPlace p [] = ⊥
  HasPlace p (c ∷ cs) = (c.place ≡ p) ⊎ HasPlace p cs

  abbrev RisesFrom : ℕ → List (Placed Q A) → Type 0
  RisesFrom n [] = Unit {0}
  RisesFrom n (c ∷ cs) = (n ≤ c.place) × RisesFrom (suc c.place) cs

  rises_from : (n : ℕ) (cs : List (Placed Q A)) → ((d : Placed Q A) → 0 < length cs → n ≤ (get_or cs 0 d).place) → Rises cs → RisesFrom n cs
  rises_from n [] first rises = tt
  rises_from n (c ∷ cs) first rises = (
    first c (omega arith),
    rises_from (suc c.place) cs
        (λ d some. let less : c.place < (get_or cs 0 d).place = rises 0 1 d (omega arith) (omega arith) in omega arith)
        (λ i j d less lt. rises (suc i) (suc j) d (omega arith) (omega arith)),
  )

  no_earlier : (n p : ℕ) (cs : List (Placed Q A)) → RisesFrom n cs → HasPlace p cs → n ≤ p
  no_earlier n p [] rises has = absurd has
  no_earlier n p (c ∷ cs) rises has = elim has [
    | inl here ↦ let le : n ≤ c.place = rises.0 in omega arith
    | inr later ↦
        let le : n ≤ c.place = rises.0 in
        let further : suc c.place ≤ p = no_earlier (suc c.place) p cs rises.1 later in
        omega arith
  ]

  has_place : (p : ℕ) (cs : List (Placed Q A)) → 1 ≤ how_often p (places cs) → HasPlace p cs
  has_place p [] often = absurd (omega arith)
  has_place p (c ∷ cs) often =
      elim (c.place == p) as (λ b. (c.place == p) ≡ b → HasPlace p (c ∷ cs)) [
        | true ↦ λ t. inl (eqb-true c.place p t)
        | false ↦ λ f.
            let counted : how_often p (c.place ∷ places cs) ≡ one_if (c.place == p) + how_often p (places cs) = sum_by-cons (λ y. one_if (y == p)) c.place (places cs) in
            let none : one_if (c.place == p) ≡ 0 = ap one_if f in
            inr (has_place p cs (omega (arith, often, counted, none)))
      ] refl

  module _ (number : ℕ) (at : ℕ → Option (Entry Q A)) where
    -- the calls are entered, each at its place
    abbrev AreEntered : List (Placed Q A) → Type 0
    AreEntered [] = Unit {0}
    AreEntered (c ∷ cs) = (at c.place ≡ Some (entry_of number c)) × AreEntered cs

    its_own : (c : Placed Q A) → nat_eq (entry_of number c).pass number ≡ true
    its_own c = eq-eqb number number refl

    -- the entries from place n on
    picks : (es : List (Entry Q A)) (n : ℕ) (cs : List (Placed Q A)) → ((p : ℕ) → at (n + p) ≡ slice_get es p) → RisesFrom n cs → AreEntered cs
        → ((p : ℕ) (e : Entry Q A) → n ≤ p → at p ≡ Some e → nat_eq e.pass number ≡ true → HasPlace p cs)
        → entries_of number es ≡ map (entry_of number) cs
    picks [] n [] here rises entered all = refl
    picks [] n (c ∷ cs) here rises entered all =
        let le : n ≤ c.place = rises.0 in
        let there : n + (c.place - n) ≡ c.place = omega arith in
        absurd (none_some (sym (here (c.place - n)) ∙ ap at there ∙ entered.0))
    picks (e ∷ es) n cs here rises entered all =
        let first : at n ≡ Some e = ap at (omega arith) ∙ here 0 in
        let later : (p : ℕ) → at (suc n + p) ≡ slice_get es p = λ p. ap at (omega arith) ∙ here (suc p) in
        elim (nat_eq e.pass number) as (λ b. nat_eq e.pass number ≡ b → cond b (e ∷ entries_of number es) (entries_of number es) ≡ map (entry_of number) cs) [
          | true ↦ λ t. mine cs rises entered all (all n e (omega arith) first t) first (λ ds r en al. picks es (suc n) ds later r en al)
          | false ↦ λ f. picks es (suc n) cs later (passed e n cs first rises entered f) entered (λ p x le. all p x (omega arith))
        ] refl
      where
        -- no call stands at the place of an entry of another pass
        passed : (e : Entry Q A) (n : ℕ) (cs : List (Placed Q A)) → at n ≡ Some e → RisesFrom n cs → AreEntered cs → nat_eq e.pass number ≡ false → RisesFrom (suc n) cs
        passed e n [] first rises entered f = tt
        passed e n (c ∷ cs) first rises entered f =
            elim (cases_lt n c.place) [
              | inl lt ↦ (omega arith, rises.1)
              | inr ge ↦
                  let le : n ≤ c.place = rises.0 in
                  let same : n ≡ c.place = omega arith in
                  absurd (two_sides (sym (its_own c) ∙ ap (λ x. nat_eq x.pass number) (some_same (sym entered.0 ∙ ap at (sym same) ∙ first)) ∙ f))
            ]

        mine : (cs : List (Placed Q A)) → RisesFrom n cs → AreEntered cs → ((p : ℕ) (e : Entry Q A) → n ≤ p → at p ≡ Some e → nat_eq e.pass number ≡ true → HasPlace p cs) → HasPlace n cs → at n ≡ Some e
            → ((ds : List (Placed Q A)) → RisesFrom (suc n) ds → AreEntered ds → ((p : ℕ) (e : Entry Q A) → suc n ≤ p → at p ≡ Some e → nat_eq e.pass number ≡ true → HasPlace p ds) → entries_of number es ≡ map (entry_of number) ds)
            → e ∷ entries_of number es ≡ map (entry_of number) cs
        mine [] rises entered all has first rest = absurd has
        mine (c ∷ cs) rises entered all has first rest =
            let same : c.place ≡ n = elim has [
              | inl here ↦ here
              | inr behind ↦ absurd (let le : n ≤ c.place = rises.0 in let further : suc c.place ≤ n = no_earlier (suc c.place) n cs rises.1 behind in omega arith)
            ] in
            let this : e ≡ entry_of number c = some_same (sym first ∙ ap at (sym same) ∙ entered.0) in
            let others : entries_of number es ≡ map (entry_of number) cs =
            rest cs (subst (λ m. RisesFrom (suc m) cs) same rises.1) entered.1
            (λ p x le is t. elim (all p x (omega arith) is t) [
              | inl here ↦ absurd (omega arith)
              | inr behind ↦ behind
            ]) in
            ap (λ x. x ∷ entries_of number es) this ∙ ap (λ l. entry_of number c ∷ l) others

  all_entered : (number : ℕ) (journal : List (Entry Q A)) (cs : List (Placed Q A)) → All (λ (c : Placed Q A). slice_get journal c.place ≡ Some (entry_of number c)) cs → AreEntered number (slice_get journal) cs
  all_entered number journal [] h = tt
  all_entered number journal (c ∷ cs) h =
      let P : Placed Q A → Type 0 = λ c. slice_get journal c.place ≡ Some (entry_of number c) in
      (All-head P c cs h, all_entered number journal cs (All-tail P c cs h))

  entered_at : (number p : ℕ) (journal : List (Entry Q A)) (cs : List (Placed Q A)) → AreEntered number (slice_get journal) cs → HasPlace p cs → (e : Entry Q A) → slice_get journal p ≡ Some e → e.pass ≡ number
  entered_at number p journal [] entered has e is = absurd has
  entered_at number p journal (c ∷ cs) entered has e is = elim has [
    | inl here ↦ ap (λ x. x.pass) (some_same (sym is ∙ ap (slice_get journal) (sym here) ∙ entered.0))
    | inr later ↦ entered_at number p journal cs entered.1 later e is
  ]

module _ {M Q A : Type 0} (passes : List (Passing M Q A)) (journal : List (Entry Q A))
    (placed : All (λ (p : Passing M Q A). All (λ (c : Placed Q A). slice_get journal c.place ≡ Some (entry_of p.number c)) p.calls) passes)
    (rises : All (λ (p : Passing M Q A). Rises p.calls) passes)
    (once : (place : ℕ) → sum_by (λ (p : Passing M Q A). how_often place (places p.calls)) passes ≡ once_below place (length journal))
    (named : map (λ (p : Passing M Q A). p.number) passes ≡ numbers 0 (length passes)) where
  number_of : (i : ℕ) (d : Passing M Q A) → i < length passes → (get_or passes i d).number ≡ i
  number_of i d lt =
      sym (get_or-map (λ (p : Passing M Q A). p.number) passes i d 0 lt) ∙ ap (λ ns. get_or ns i 0) named ∙ number_at 0 (length passes) i 0 lt ∙ omega arith

  entered : (i : ℕ) (d : Passing M Q A) → i < length passes → AreEntered i (slice_get journal) (get_or passes i d).calls
  entered i d lt =
      subst (λ n. AreEntered n (slice_get journal) (get_or passes i d).calls) (number_of i d lt) (all_entered (get_or passes i d).number journal (get_or passes i d).calls (placed i d lt))

  counted : (p : ℕ) → p < length journal → 1 ≤ sum_by (λ (p' : Passing M Q A). how_often p (places p'.calls)) passes
  counted p lt =
      let one : once_below p (length journal) ≡ 1 = ap one_if (below p (length journal) lt) in
      omega (arith, once p, one)
    where
      below : (a b : ℕ) → a < b → nat_lt a b ≡ true
      below a b lt = grind (arith, nat_tests)

  -- the pass in which a place stands
  record Stands (p : ℕ) (e : Entry Q A) : Type 0 where
    at : ℕ
    within : at < length passes
    has : (d : Passing M Q A) → HasPlace p (get_or passes at d).calls
    pass : e.pass ≡ at

  stands : (d : Passing M Q A) (p : ℕ) (e : Entry Q A) → p < length journal → slice_get journal p ≡ Some e → Stands p e
  stands d p e lt is =
      let found : Counts (λ (p' : Passing M Q A). how_often p (places p'.calls)) passes = some_counts (λ (p' : Passing M Q A). how_often p (places p'.calls)) passes (counted p lt) in
      record {
        at = found.at;
        within = found.within;
        has = λ d. has_place p (get_or passes found.at d).calls (found.counts d);
        pass = entered_at found.at p journal (get_or passes found.at d).calls (entered found.at d found.within) (has_place p (get_or passes found.at d).calls (found.counts d)) e is;
      }

  pub has_passes : HasPasses passes journal
  has_passes = record { own = own; no_other = no_other }
    where
      own : All (λ (p : Passing M Q A). entries_of p.number journal ≡ map (entry_of p.number) p.calls) passes
      own i d lt =
          subst (λ n. entries_of n journal ≡ map (entry_of n) (get_or passes i d).calls) (sym (number_of i d lt))
          (picks i (slice_get journal) journal 0 (get_or passes i d).calls (λ p. ap (slice_get journal) (omega arith))
          (rises_from 0 (get_or passes i d).calls (λ _ _. omega arith) (rises i d lt))
          (entered i d lt)
          (λ p e _ is t.
          let s : Stands p e = stands d p e (slice_get_within journal p e is) is in
          let same : s.at ≡ i = sym s.pass ∙ eqb-true e.pass i t in
          subst (λ j. HasPlace p (get_or passes j d).calls) same (s.has d)))

      no_other : All (λ (e : Entry Q A). e.pass < length passes) journal
      no_other p e lt =
          let is : slice_get journal p ≡ Some (get_or journal p e) = slice_get-get_or journal p e lt in
          let s : Stands p (get_or journal p e) = stands (an_item (λ (p' : Passing M Q A). how_often p (places p'.calls)) passes (counted p lt)) p (get_or journal p e) lt is in
          let at : (get_or journal p e).pass ≡ s.at = s.pass in
          let lt : s.at < length passes = s.within in
          omega arith
