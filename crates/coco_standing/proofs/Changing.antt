-- Some of the tables in a list are changed, one after another.
use Rattle.std.proofs.Common.{◌≡◌, ℕ, ◌+◌, ◌<◌, ◌≤◌, Bool, true, false, nat_eq, nat_lt, List, length, get_or, slice_set, refl, sym, ap, ◌∙◌, subst, arith}
use Rattle.std.proofs.lemmas.Bool.{eqb-true, eq-eqb, ltb-true, ltb-false}
use Rattle.std.proofs.lemmas.List.{get_or_default, get_or-set_same, get_or-set_other}
use Rattle.std.proofs.Math.ListN.{length-set}
use Rattle.coco_standing.specs.Changes.{ChangesAt}

two_sides : true ≡ false → ⊥
two_sides h = cc

module _ {X : Type 0} (none : X) (chosen : ℕ → Bool) (Makes : ℕ → X → X → Type 0) where
  -- those before a place are changed where they are chosen, and the others are as they were
  pub record ChangedBelow (first now : List X) (n : ℕ) : Type 0 where
    pub count : length now ≡ length first
    pub there : (i : ℕ) → i < n → chosen i ≡ true → Makes i (get_or first i none) (get_or now i none)
    pub elsewhere : (i : ℕ) → chosen i ≡ false → get_or now i none ≡ get_or first i none
    pub rest : (i : ℕ) → n ≤ i → get_or now i none ≡ get_or first i none

  pub none_changed : (first : List X) → ChangedBelow first first 0
  none_changed first = record { count = refl; there = λ i lt is. absurd (omega arith); elsewhere = λ i is. refl; rest = λ i le. refl }

  module _ (first now : List X) (n : ℕ) (so : ChangedBelow first now n) where
    before : (i : ℕ) → i < n + 1 → (n ≡ i → ⊥) → i < n
    before i lt other = elim (nat_lt i n) as (λ b. nat_lt i n ≡ b → i < n) [
      | true ↦ λ t. ltb-true i n t
      | false ↦ λ f. absurd (other (let le : n ≤ i = ltb-false i n f in omega arith))
    ] refl

    -- one that isn't chosen is left as it is
    pub one_left : chosen n ≡ false → ChangedBelow first now (n + 1)
    one_left not = record {
      count = so.count;
      there = λ i lt is. so.there i (before i lt (λ e. two_sides (sym is ∙ ap chosen (sym e) ∙ not))) is;
      elsewhere = so.elsewhere;
      rest = λ i le. so.rest i (omega arith);
    }

    -- one that is chosen is changed
    pub one_changed : (x d : X) → n < length now → chosen n ≡ true → Makes n (get_or now n d) x → ChangedBelow first (slice_set now n x) (n + 1)
    one_changed x d within is makes = record {
      count = length-set now n x ∙ so.count;
      there = λ i lt on. elim (nat_eq n i) as (λ b. nat_eq n i ≡ b → Makes i (get_or first i none) (get_or (slice_set now n x) i none)) [
        | true ↦ λ t. subst (λ (j : ℕ). Makes j (get_or first j none) (get_or (slice_set now n x) j none)) (eqb-true n i t)
            (subst (Makes n (get_or first n none)) (sym (get_or-set_same now n x none within)) (subst (λ (old : X). Makes n old x) (get_or_default now n d none within ∙ so.rest n (omega arith)) makes))
        | false ↦ λ f. let other : n ≡ i → ⊥ = λ e. two_sides (sym (eq-eqb n i e) ∙ f) in
            subst (Makes i (get_or first i none)) (sym (get_or-set_other now n i x none (λ e. other (sym e)))) (so.there i (before i lt other) on)
      ] refl;
      elsewhere = λ i off. get_or-set_other now n i x none (λ e. two_sides (sym is ∙ ap chosen (sym e) ∙ off)) ∙ so.elsewhere i off;
      rest = λ i le. get_or-set_other now n i x none (λ e. absurd (omega arith)) ∙ so.rest i (omega arith);
    }

  -- at the end of the list all that are chosen are changed
  pub all_changed : (first now : List X) (n : ℕ) → length now ≤ n → ChangedBelow first now n → ChangesAt none chosen Makes first now
  all_changed first now n le so = record {
    count = so.count;
    there = λ i lt is. so.there i (let c : length now ≡ length first = so.count in omega arith) is;
    elsewhere = so.elsewhere;
  }

-- a list that is as it was from a place on is so from the next place on, whatever is set at that place
pub rest_set : {X : Type 0} (none : X) (first now : List X) (n : ℕ) (x : X) → ((i : ℕ) → n ≤ i → get_or now i none ≡ get_or first i none) → (i : ℕ) → n + 1 ≤ i → get_or (slice_set now n x) i none ≡ get_or first i none
rest_set none first now n x rest i le = get_or-set_other now n i x none (λ e. absurd (omega arith)) ∙ rest i (omega arith)

pub rest_on : {X : Type 0} (none : X) (first now : List X) (n : ℕ) → ((i : ℕ) → n ≤ i → get_or now i none ≡ get_or first i none) → (i : ℕ) → n + 1 ≤ i → get_or now i none ≡ get_or first i none
rest_on none first now n rest i le = rest i (omega arith)
