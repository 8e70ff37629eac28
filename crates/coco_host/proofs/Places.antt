-- What a change of one file in a list of files does to what they hold.
use Rattle.std.proofs.Common.{◌≡◌, ◌≢◌, inl, inr, ℕ, suc, zero, ◌+◌, ◌<◌, ◌≤◌, Bool, true, false, not, nat_eq, List, [], ◌∷◌, ◌++◌, length, get_or, set, take, if◌then◌else◌, ◌==◌, Result, Ok, Err, OnErr, refl, sym, ◌∙◌, ap, subst, arith, length-set}
use Rattle.std.proofs.lemmas.Bool.{cases_eq}
use Rattle.std.proofs.lemmas.Bool.Decides.{nat_tests}
use Rattle.std.proofs.lemmas.List.{take_all}
use Rattle.std.proofs.lemmas.List.Sums.{fails_before_first, passes_at_first, prefix_len-le-length, position_or_len_is}
use Rattle.std.specs.List.{position_or_len}
use Rattle.coco_host.specs.Recorded.{held_in, one_if, unsynced_count, Same, Takes, Settles, Shortens}
use Rattle.coco_host.specs.declared.held.MemoryFile.{MemoryFile}

-- whether a file has this number
abbrev pub is_of : ℕ → MemoryFile → Bool
is_of number f = nat_eq f.number number

-- the first file of this number is here
abbrev pub IsAt : ℕ → List MemoryFile → ℕ → Type 0
IsAt number [] i = ⊥
IsAt number (f ∷ fs) zero = f.number ≡ number
IsAt number (f ∷ fs) (suc i) = (f.number ≢ number) × IsAt number fs i

is_at_from : (number : ℕ) (fs : List MemoryFile) (i : ℕ) (d : MemoryFile) → i < length fs → is_of number (get_or fs i d) ≡ true → ((k : ℕ) → k < i → is_of number (get_or fs k d) ≡ false) → IsAt number fs i
is_at_from number [] i d within here before = absurd (omega (arith, within))
is_at_from number (f ∷ fs) zero d within here before = grind (arith, nat_tests)
is_at_from number (f ∷ fs) (suc i) d within here before =
    let other : is_of number f ≡ false = before 0 (omega arith) in
    (λ is. grind (arith, nat_tests), is_at_from number fs i d (omega (arith, within)) here (λ k less. before (suc k) (omega (arith, less))))

pub is_at : (number : ℕ) (fs : List MemoryFile) → position_or_len (is_of number) fs < length fs → IsAt number fs (position_or_len (is_of number) fs)
is_at number [] within = absurd (omega (arith, within))
is_at number (f ∷ fs) within =
    is_at_from number (f ∷ fs) (position_or_len (is_of number) (f ∷ fs)) f within (passes_at_first (is_of number) (f ∷ fs) f within) (λ k less. fails_before_first (is_of number) (f ∷ fs) k f less)

module _ {A : Type 0} (has : MemoryFile → A) (none : A) where
  -- a file more that is as one that isn't there changes nothing
  pub held_in-push : (n : ℕ) (fs : List MemoryFile) (f : MemoryFile) → has f ≡ none → held_in has none n (fs ++ f ∷ []) ≡ held_in has none n fs
  held_in-push n [] f plain = elim (n == f.number) as (λ b. (if b then has f else none) ≡ none) [ true ↦ plain | false ↦ refl ]
  held_in-push n (x ∷ fs) f plain = ap (λ v. if n == x.number then has x else v) (held_in-push n fs f plain)

  -- what the file at its place has
  pub held_at : (number : ℕ) (fs : List MemoryFile) (i : ℕ) (d : MemoryFile) → IsAt number fs i → held_in has none number fs ≡ has (get_or fs i d)
  held_at number [] i d at = absurd at
  held_at number (x ∷ fs) zero d at = let same : (number == x.number) ≡ true = grind (arith, nat_tests) in ap (λ b. if b then has x else held_in has none number fs) same
  held_at number (x ∷ fs) (suc i) d at =
      let other : (number == x.number) ≡ false = elim (cases_eq number x.number) [ inl is ↦ absurd (at.0 (sym is)) | inr not ↦ grind (arith, nat_tests) ] in
      ap (λ b. if b then has x else held_in has none number fs) other ∙ held_at number fs i d at.1

  again : (b : Bool) (v w u : A) → (if b then v else u) ≡ (if b then v else (if b then w else u))
  again true v w u = refl
  again false v w u = refl

  -- another file in its place
  pub held_in-set : (number : ℕ) (fs : List MemoryFile) (i : ℕ) (f : MemoryFile) → f.number ≡ number → IsAt number fs i → (n : ℕ) → held_in has none n (set fs i f) ≡ (if n == number then has f else held_in has none n fs)
  held_in-set number [] i f is at n = absurd at
  held_in-set number (x ∷ fs) zero f is at n =
      ap (λ m. if n == m then has f else held_in has none n fs) is ∙ again (n == number) (has f) (has x) (held_in has none n fs)
      ∙ ap (λ m. if n == number then has f else (if n == m then has x else held_in has none n fs)) (sym at)
  held_in-set number (x ∷ fs) (suc i) f is at n =
      ap (λ v. if n == x.number then has x else v) (held_in-set number fs i f is at.1 n) ∙ swapped
    where
      apart : (a b : Bool) (v w u : A) → (a ≡ true → b ≡ true → ⊥) → (if a then v else (if b then w else u)) ≡ (if b then w else (if a then v else u))
      apart true true v w u not = absurd (not refl refl)
      apart true false v w u not = refl
      apart false true v w u not = refl
      apart false false v w u not = refl

      swapped : (if n == x.number then has x else (if n == number then has f else held_in has none n fs)) ≡ (if n == number then has f else (if n == x.number then has x else held_in has none n fs))
      swapped = apart (n == x.number) (n == number) (has x) (has f) (held_in has none n fs) (λ p q. at.0 (grind (arith, nat_tests)))

-- a file that isn't there has what stands for it
pub held_nowhere : {A : Type 0} (has : MemoryFile → A) (none : A) (number : ℕ) (fs : List MemoryFile) → position_or_len (is_of number) fs ≡ length fs → held_in has none number fs ≡ none
held_nowhere has none number [] at_end = refl
held_nowhere has none number (x ∷ fs) at_end = elim (cases_eq x.number number) [
  | inl is ↦ let first : is_of number x ≡ true = grind (arith, nat_tests) in let zero_is : position_or_len (is_of number) (x ∷ fs) ≡ 0 = grind (arith, nat_tests) in absurd (omega (arith, at_end, zero_is))
  | inr not ↦
      let first : is_of number x ≡ false = grind (arith, nat_tests) in
      let other : (number == x.number) ≡ false = elim (cases_eq number x.number) [ inl is ↦ absurd (not (sym is)) | inr far ↦ grind (arith, nat_tests) ] in
      let next : position_or_len (is_of number) (x ∷ fs) ≡ 1 + position_or_len (is_of number) fs = grind (arith, nat_tests) in
      ap (λ b. if b then has x else held_in has none number fs) other ∙ held_nowhere has none number fs (omega (arith, at_end, next))
]

-- how many have writes to be synced, once one of them has none
pub count_settled : (number : ℕ) (fs : List MemoryFile) (i : ℕ) (f d : MemoryFile) → f.unsynced ≡ false → IsAt number fs i → unsynced_count (set fs i f) + one_if (get_or fs i d).unsynced ≡ unsynced_count fs
count_settled number [] i f d clean at = absurd at
count_settled number (x ∷ fs) zero f d clean at = let none : one_if f.unsynced ≡ 0 = ap one_if clean in omega (arith, none)
count_settled number (x ∷ fs) (suc i) f d clean at = omega (arith, count_settled number fs i f d clean at.1)

pub count_same : (number : ℕ) (fs : List MemoryFile) (i : ℕ) (f d : MemoryFile) → f.unsynced ≡ (get_or fs i d).unsynced → IsAt number fs i → unsynced_count (set fs i f) ≡ unsynced_count fs
count_same number [] i f d same at = absurd at
count_same number (x ∷ fs) zero f d same at = ap (λ b. one_if b + unsynced_count fs) same
count_same number (x ∷ fs) (suc i) f d same at = ap (λ n. one_if x.unsynced + n) (count_same number fs i f d same at.1)

-- what stands at a place has the number
pub number_at : (number : ℕ) (fs : List MemoryFile) (i : ℕ) (d : MemoryFile) → IsAt number fs i → (get_or fs i d).number ≡ number
number_at number [] i d at = absurd at
number_at number (x ∷ fs) zero d at = at
number_at number (x ∷ fs) (suc i) d at = number_at number fs i d at.1

-- a choice of what is there anyway
same_choice : {A : Type 0} (b : Bool) (v : A) → (if b then v else v) ≡ v
same_choice true v = refl
same_choice false v = refl

-- the value that a file had already, put in its place
pub held_in-again : {A : Type 0} (has : MemoryFile → A) (none : A) (number : ℕ) (fs : List MemoryFile) (i : ℕ) (f d : MemoryFile) → f.number ≡ number → has f ≡ has (get_or fs i d) → IsAt number fs i → (n : ℕ) → held_in has none n (set fs i f) ≡ held_in has none n fs
held_in-again has none number fs i f d is same at n =
    held_in-set has none number fs i f is at n
    ∙ elim (cases_eq n number) [
      | inl here ↦ subst (λ m. (if m == number then has f else held_in has none m fs) ≡ held_in has none m fs) (sym here)
          (ap (λ v. if number == number then v else held_in has none number fs) (same ∙ sym (held_at has none number fs i d at)) ∙ same_choice (number == number) (held_in has none number fs))
      | inr far ↦ let other : (n == number) ≡ false = grind (arith, nat_tests) in ap (λ b. if b then has f else held_in has none n fs) other
    ]

-- the files with another one in its place, which has the bytes and mark of that one
pub same_set : (number : ℕ) (fs : List MemoryFile) (i : ℕ) (f d : MemoryFile) → f.number ≡ (get_or fs i d).number → f.bytes.items ≡ (get_or fs i d).bytes.items → f.unsynced ≡ (get_or fs i d).unsynced → IsAt number fs i → Same fs (set fs i f)
same_set number fs i f d is bytes mark at = record {
  bytes_of = held_in-again (λ x. x.bytes.items) [] number fs i f d (is ∙ number_at number fs i d at) bytes at;
  unsynced_of = held_in-again (λ x. x.unsynced) false number fs i f d (is ∙ number_at number fs i d at) mark at;
  count = count_same number fs i f d mark at;
}

pub takes_set : (number : ℕ) (bytes : List ℕ) (fs : List MemoryFile) (i : ℕ) (f d : MemoryFile) → f.number ≡ (get_or fs i d).number → f.bytes.items ≡ bytes → f.unsynced ≡ true → IsAt number fs i → Takes number bytes fs (set fs i f)
takes_set number bytes fs i f d is holds mark at = record {
  bytes_of = λ n. held_in-set (λ x. x.bytes.items) [] number fs i f (is ∙ number_at number fs i d at) at n ∙ ap (λ v. if n == number then v else held_in (λ x. x.bytes.items) [] n fs) holds;
  unsynced_of = λ n. held_in-set (λ x. x.unsynced) false number fs i f (is ∙ number_at number fs i d at) at n ∙ ap (λ v. if n == number then v else held_in (λ x. x.unsynced) false n fs) mark;
  same_number = length-set fs i f;
}

pub settles_set : (number : ℕ) (fs : List MemoryFile) (i : ℕ) (f d : MemoryFile) → f.number ≡ (get_or fs i d).number → f.bytes.items ≡ (get_or fs i d).bytes.items → f.unsynced ≡ false → IsAt number fs i → Settles number (get_or fs i d).unsynced fs (set fs i f)
settles_set number fs i f d is bytes mark at = record {
  was = sym (held_at (λ x. x.unsynced) false number fs i d at);
  bytes_of = held_in-again (λ x. x.bytes.items) [] number fs i f d (is ∙ number_at number fs i d at) bytes at;
  unsynced_of = λ n. held_in-set (λ x. x.unsynced) false number fs i f (is ∙ number_at number fs i d at) at n ∙ ap (λ v. if n == number then v else held_in (λ x. x.unsynced) false n fs) mark;
  fewer = count_settled number fs i f d mark at;
}

pub same_self : (fs : List MemoryFile) → Same fs fs
same_self fs = record { bytes_of = λ n. refl; unsynced_of = λ n. refl; count = refl }

pub same_push : (fs : List MemoryFile) (f : MemoryFile) → f.bytes.items ≡ [] → f.unsynced ≡ false → Same fs (fs ++ f ∷ [])
same_push fs f empty clean = record {
  bytes_of = λ n. held_in-push (λ x. x.bytes.items) [] n fs f empty;
  unsynced_of = λ n. held_in-push (λ x. x.unsynced) false n fs f clean;
  count = count_push fs;
}
  where
    count_push : (xs : List MemoryFile) → unsynced_count (xs ++ f ∷ []) ≡ unsynced_count xs
    count_push [] = ap (λ b. one_if b + 0) clean
    count_push (x ∷ xs) = ap (λ n. one_if x.unsynced + n) (count_push xs)

-- a file that isn't there has nothing to settle
pub settles_nowhere : (number : ℕ) (fs : List MemoryFile) → position_or_len (is_of number) fs ≡ length fs → Settles number false fs fs
settles_nowhere number fs at_end = record {
  was = sym (held_nowhere (λ x. x.unsynced) false number fs at_end);
  bytes_of = λ n. refl;
  unsynced_of = λ n. elim (cases_eq n number) [
    | inl here ↦ subst (λ m. held_in (λ x. x.unsynced) false m fs ≡ (if m == number then false else held_in (λ x. x.unsynced) false m fs)) (sym here) (left (number == number))
    | inr far ↦ let other : (n == number) ≡ false = grind (arith, nat_tests) in sym (ap (λ b. if b then false else held_in (λ x. x.unsynced) false n fs) other)
  ];
  fewer = omega arith;
}
  where
    left : (b : Bool) → held_in (λ x. x.unsynced) false number fs ≡ (if b then false else held_in (λ x. x.unsynced) false number fs)
    left true = held_nowhere (λ x. x.unsynced) false number fs at_end
    left false = refl

pub shortens_set : (number len : ℕ) (fs : List MemoryFile) (i : ℕ) (f d : MemoryFile) → f.number ≡ (get_or fs i d).number → f.bytes.items ≡ take len (get_or fs i d).bytes.items → f.unsynced ≡ (get_or fs i d).unsynced → IsAt number fs i → Shortens number len fs (set fs i f)
shortens_set number len fs i f d is bytes mark at = record {
  bytes_of = λ n. held_in-set (λ x. x.bytes.items) [] number fs i f (is ∙ number_at number fs i d at) at n
      ∙ ap (λ v. if n == number then v else held_in (λ x. x.bytes.items) [] n fs) (bytes ∙ ap (λ (l : List ℕ). take len l) (sym (held_at (λ x. x.bytes.items) [] number fs i d at)));
  unsynced_of = held_in-again (λ x. x.unsynced) false number fs i f d (is ∙ number_at number fs i d at) mark at;
  count = count_same number fs i f d mark at;
}

-- a file that isn't there has nothing to be cut
pub shortens_nowhere : (number len : ℕ) (fs : List MemoryFile) → position_or_len (is_of number) fs ≡ length fs → Shortens number len fs fs
shortens_nowhere number len fs at_end = record {
  bytes_of = λ n. elim (cases_eq n number) [
    | inl here ↦ subst (λ m. held_in (λ x. x.bytes.items) [] m fs ≡ (if m == number then take len (held_in (λ x. x.bytes.items) [] number fs) else held_in (λ x. x.bytes.items) [] m fs)) (sym here) (left (number == number))
    | inr far ↦ let other : (n == number) ≡ false = grind (arith, nat_tests) in sym (ap (λ b. if b then take len (held_in (λ x. x.bytes.items) [] number fs) else held_in (λ x. x.bytes.items) [] n fs) other)
  ];
  unsynced_of = λ n. refl;
  count = refl;
}
  where
    none : held_in (λ x. x.bytes.items) [] number fs ≡ []
    none = held_nowhere (λ x. x.bytes.items) [] number fs at_end

    left : (b : Bool) → held_in (λ x. x.bytes.items) [] number fs ≡ (if b then take len (held_in (λ x. x.bytes.items) [] number fs) else held_in (λ x. x.bytes.items) [] number fs)
    left true = none ∙ sym (take_all len [] (omega arith)) ∙ ap (λ (l : List ℕ). take len l) (sym none)
    left false = refl

-- the place that was found
pub is_place : (number : ℕ) (fs : List MemoryFile) (i : ℕ) → i ≡ position_or_len (is_of number) fs → i < length fs → IsAt number fs i
is_place number fs i is within = subst (IsAt number fs) (sym is) (is_at number fs (subst (λ n. n < length fs) is within))

pub at_err : {T E P : Type 0} (r : Result T E) → P → OnErr r P
at_err (Ok x) p = tt
at_err (Err e) p = p

-- no place is behind all others
pub nowhere : (number : ℕ) (fs : List MemoryFile) (i : ℕ) → i ≡ position_or_len (is_of number) fs → length fs ≤ i → position_or_len (is_of number) fs ≡ length fs
nowhere number fs i is far = omega (arith, is, far, prefix_len-le-length (λ x. not (is_of number x)) fs)

pub count-le-length : (fs : List MemoryFile) → unsynced_count fs ≤ length fs
count-le-length [] = omega arith
count-le-length (f ∷ fs) = omega (arith, count-le-length fs, at_most (f.unsynced))
  where
    at_most : (b : Bool) → one_if b ≤ 1
    at_most true = omega arith
    at_most false = omega arith

pub none_found : (number : ℕ) (fs : List MemoryFile) → ((k : ℕ) (d : MemoryFile) → k < length fs → is_of number (get_or fs k d) ≡ false) → length fs ≡ position_or_len (is_of number) fs
none_found number [] others = refl
none_found number (x ∷ fs) others = sym (position_or_len_is (is_of number) (x ∷ fs) (length (x ∷ fs)) x (omega arith) (λ k less. others k x less) (λ less. absurd (omega (arith, less))))

pub found_here : (number : ℕ) (fs : List MemoryFile) (i : ℕ) (d : MemoryFile) → i < length fs → ((k : ℕ) (e : MemoryFile) → k < i → is_of number (get_or fs k e) ≡ false) → (get_or fs i d).number ≡ number → i ≡ position_or_len (is_of number) fs
found_here number fs i d within others here =
    let yes : is_of number (get_or fs i d) ≡ true = grind (arith, nat_tests) in
    sym (position_or_len_is (is_of number) fs i d (omega (arith, within)) (λ k less. others k d less) (λ less. yes))
