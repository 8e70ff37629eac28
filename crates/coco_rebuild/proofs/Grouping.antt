-- Entries of rising epochs, taken epoch by epoch.
use Rattle.std.proofs.Common.{◌≡◌, ℕ, ◌<◌, ◌≤◌, ◌||◌, Bool, true, false, cond, nat_eq, List, [], ◌∷◌, ◌++◌, map, filter, refl, sym, ap, ◌∙◌, arith, append_assoc}
use Rattle.std.specs.List.{AllByRecursion, flat_map}
use Rattle.std.specs.Set.{is_member}
use Rattle.std.proofs.lemmas.Bool.{eq-eqb, eqb-true, ne_eqb, or_from, or_left, or_parts, or_right}
use Rattle.coco_ast.specs.History.{RisesAbove}

pub or_either : (a b : Bool) (P : Type 0) → (a ≡ true → P) → (b ≡ true → P) → a || b ≡ true → P
or_either true b P here there is = here refl
or_either false b P here there is = there is

-- ---- members of rising numbers

not_behind : (k m : ℕ) (ks : List ℕ) → k ≤ m → RisesAbove m ks → is_member nat_eq ks k ≡ false
not_behind k m [] le rises = refl
not_behind k m (j ∷ js) le rises =
    let above : m < j = rises.0 in
    or_from (nat_eq k j) (is_member nat_eq js k) (ne_eqb k j (λ same. omega (arith, le, above, same))) (not_behind k j js (omega (arith, le, above)) rises.1)

member_above : (k m : ℕ) (ks : List ℕ) → RisesAbove m ks → is_member nat_eq ks k ≡ true → m < k
member_above k m [] rises is = let no : false ≡ true = is in cc
member_above k m (j ∷ js) rises is =
    let above : m < j = rises.0 in
    or_either (nat_eq k j) (is_member nat_eq js k) (m < k) (λ t. let same : k ≡ j = eqb-true k j t in omega (arith, above, same)) (λ t. let less : j < k = member_above k j js rises.1 t in omega (arith, above, less)) is

module _ {A B : Type 0} (at : A → ℕ) (f : A → List B) where
  -- what the items of a number have
  abbrev here : ℕ → List A → List B
  here k xs = flat_map f (filter (λ x. nat_eq (at x) k) xs)

  above_all : (k m : ℕ) (xs : List A) → k ≤ m → RisesAbove m (map at xs) → AllByRecursion (λ x. k < at x) xs
  above_all k m [] le rises = tt
  above_all k m (x ∷ xs) le rises = let above : m < at x = rises.0 in (omega (arith, le, above), above_all k (at x) xs (omega (arith, le, above)) rises.1)

  none_here : (k : ℕ) (xs : List A) → AllByRecursion (λ x. k < at x) xs → here k xs ≡ []
  none_here k [] all = refl
  none_here k (x ∷ xs) all =
      let above : k < at x = all.0 in
      let off : nat_eq (at x) k ≡ false = ne_eqb (at x) k (λ same. omega (arith, above, same)) in
      ap (λ (b : Bool). flat_map f (cond b (x ∷ filter (λ y. nat_eq (at y) k) xs) (filter (λ y. nat_eq (at y) k) xs))) off ∙ none_here k xs all.1

  -- an item of another number
  passed : (x : A) (xs : List A) (ks : List ℕ) → is_member nat_eq ks (at x) ≡ false → flat_map (λ k. here k (x ∷ xs)) ks ≡ flat_map (λ k. here k xs) ks
  passed x xs [] none = refl
  passed x xs (k ∷ ks) none =
      let parts = or_parts (nat_eq (at x) k) (is_member nat_eq ks (at x)) none in
      let one : here k (x ∷ xs) ≡ here k xs = ap (λ (b : Bool). flat_map f (cond b (x ∷ filter (λ y. nat_eq (at y) k) xs) (filter (λ y. nat_eq (at y) k) xs))) parts.0 in
      ap (λ (l : List B). l ++ flat_map (λ j. here j (x ∷ xs)) ks) one ∙ ap (λ (l : List B). here k xs ++ l) (passed x xs ks parts.1)

  -- an item below all behind it
  first_taken : (x : A) (xs : List A) (m : ℕ) (ks : List ℕ) → AllByRecursion (λ y. at x < at y) xs → RisesAbove m ks
      → flat_map (λ k. here k (x ∷ xs)) ks ≡ cond (is_member nat_eq ks (at x)) (f x) [] ++ flat_map (λ k. here k xs) ks
  first_taken x xs m [] low rises = refl
  first_taken x xs m (k ∷ ks) low rises =
      let those : List A = filter (λ y. nat_eq (at y) k) xs in
      let rest : List B = flat_map (λ j. here j (x ∷ xs)) ks in
      let after : List B = flat_map (λ j. here j xs) ks in
      let is_in : Bool = is_member nat_eq ks (at x) in
      elim (nat_eq (at x) k) as (λ b. nat_eq (at x) k ≡ b → flat_map f (cond b (x ∷ those) those) ++ rest ≡ cond (b || is_in) (f x) [] ++ (here k xs ++ after)) [
        | true ↦ λ t. (let same : at x ≡ k = eqb-true (at x) k t in
            append_assoc (f x) (here k xs) rest
            ∙ ap (λ (l : List B). f x ++ (here k xs ++ l)) (passed x xs ks (not_behind (at x) k ks (omega (arith, same)) rises.1)))
        | false ↦ λ t.
            ap (λ (l : List B). here k xs ++ l) (first_taken x xs k ks low rises.1)
            ∙ elim is_in as (λ b. is_in ≡ b → here k xs ++ (cond b (f x) [] ++ after) ≡ cond b (f x) [] ++ (here k xs ++ after)) [
              | true ↦ λ is. (let less : k < at x = member_above (at x) k ks rises.1 is in
                  let none : here k xs ≡ [] = none_here k xs (lower k (at x) xs less low) in
                  ap (λ (l : List B). l ++ (f x ++ after)) none ∙ sym (ap (λ (l : List B). f x ++ (l ++ after)) none))
              | false ↦ λ is. refl
            ] refl
      ] refl
    where
      lower : (j k : ℕ) (ys : List A) → j < k → AllByRecursion (λ y. k < at y) ys → AllByRecursion (λ y. j < at y) ys
      lower j k [] less all = tt
      lower j k (y ∷ ys) less all = let above : k < at y = all.0 in (omega (arith, less, above), lower j k ys less all.1)

  nothing : (ks : List ℕ) → [] ≡ flat_map (λ k. here k []) ks
  nothing [] = refl
  nothing (k ∷ ks) = nothing ks

  -- the items whose numbers are among those, taken number by number
  pub grouped : (n m : ℕ) (xs : List A) (ks : List ℕ) → RisesAbove n (map at xs) → RisesAbove m ks → flat_map f (filter (λ x. is_member nat_eq ks (at x)) xs) ≡ flat_map (λ k. here k xs) ks
  grouped n m [] ks rising rises = nothing ks
  grouped n m (x ∷ xs) ks rising rises =
      let those : List A = filter (λ y. is_member nat_eq ks (at y)) xs in
      let front : flat_map f (cond (is_member nat_eq ks (at x)) (x ∷ those) those) ≡ cond (is_member nat_eq ks (at x)) (f x) [] ++ flat_map f those =
      elim (is_member nat_eq ks (at x)) as (λ b. flat_map f (cond b (x ∷ those) those) ≡ cond b (f x) [] ++ flat_map f those) [ true ↦ refl | false ↦ refl ] in
      front
      ∙ ap (λ (l : List B). cond (is_member nat_eq ks (at x)) (f x) [] ++ l) (grouped (at x) m xs ks rising.1 rises)
      ∙ sym (first_taken x xs m ks (above_all (at x) (at x) xs (omega arith) rising.1) rises)

  -- where each item has what others have for its number
  pub each_same : (xs others : List A) → AllByRecursion (λ x. here (at x) others ≡ f x) xs → flat_map (λ k. here k others) (map at xs) ≡ flat_map f xs
  each_same [] others same = refl
  each_same (x ∷ xs) others same = ap (λ (l : List B). l ++ flat_map (λ k. here k others) (map at xs)) same.0 ∙ ap (λ (l : List B). f x ++ l) (each_same xs others same.1)

  their_own : (ks : List ℕ) (xs : List A) → ((k : ℕ) → is_member nat_eq (map at xs) k ≡ true → is_member nat_eq ks k ≡ true) → filter (λ x. is_member nat_eq ks (at x)) xs ≡ xs
  their_own ks [] sub = refl
  their_own ks (x ∷ xs) sub =
      let is : is_member nat_eq ks (at x) ≡ true = sub (at x) (or_left (nat_eq (at x) (at x)) (is_member nat_eq (map at xs) (at x)) (eq-eqb (at x) (at x) refl)) in
      ap (λ (b : Bool). cond b (x ∷ filter (λ y. is_member nat_eq ks (at y)) xs) (filter (λ y. is_member nat_eq ks (at y)) xs)) is
      ∙ ap (λ (l : List A). x ∷ l) (their_own ks xs (λ k in_rest. sub k (or_right (nat_eq k (at x)) (is_member nat_eq (map at xs) k) in_rest)))

  -- items that have the numbers, and what others have for each
  pub same_as : (n m : ℕ) (xs others : List A) (ks : List ℕ) → map at xs ≡ ks → RisesAbove n (map at others) → RisesAbove m ks → AllByRecursion (λ x. here (at x) others ≡ f x) xs
      → flat_map f (filter (λ x. is_member nat_eq ks (at x)) xs) ≡ flat_map f (filter (λ x. is_member nat_eq ks (at x)) others)
  same_as n m xs others ks are rising rises same =
      ap (flat_map f) (their_own ks xs (λ k is. ap (λ (l : List ℕ). is_member nat_eq l k) (sym are) ∙ is))
      ∙ sym (each_same xs others same)
      ∙ ap (λ (l : List ℕ). flat_map (λ k. here k others) l) are
      ∙ sym (grouped n m others ks rising rises)
