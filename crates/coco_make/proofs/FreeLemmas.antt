-- There are as many free numbers as are asked for, and each is new.
use Rattle.std.proofs.Common.{◌≡◌, ℕ, zero, suc, ◌+◌, ◌^◌, ◌<◌, ◌≤◌, ◌==◌, ◌||◌, not, cond, Bool, true, false, List, [], ◌∷◌, ◌++◌, length, take, filter, refl, sym, ap, subst, ◌∙◌, arith}
use Rattle.std.specs.List.{range_with_len}
use Rattle.std.proofs.lemmas.Bool.Decides.{nat_tests}
use Rattle.std.proofs.lemmas.List.{append-nil, append_assoc, length-take-le}
use Rattle.std.proofs.lemmas.List.Elements.{filter-append}
use Rattle.std.proofs.lemmas.List.Filters.{length-filter_both}
use Rattle.std.proofs.lemmas.List.Folds.{list_any-append}
use Rattle.std.proofs.lemmas.List.FromFn.{length-range_with_len}
use Rattle.coco_entry.specs.Layouts.{AreNew, is_named}
use Rattle.coco_make.specs.Free.{free_files}

-- ---- numbers in a range

range_more : (a n : ℕ) → range_with_len a (suc n) ≡ range_with_len a n ++ (a + n) ∷ []
range_more a zero = let same : a ≡ a + 0 = omega arith in ap (λ (k : ℕ). k ∷ []) same
range_more a (suc n) =
    let same : (a + 1) + n ≡ a + suc n = omega arith in
    ap (λ (l : List ℕ). a ∷ l) (range_more (a + 1) n ∙ ap (λ (k : ℕ). range_with_len (a + 1) n ++ k ∷ []) same)

-- one number more is tried
pub tried_more : (p : ℕ → Bool) (a n : ℕ) → filter p (range_with_len a (suc n)) ≡ filter p (range_with_len a n) ++ cond (p (a + n)) ((a + n) ∷ []) []
tried_more p a n = ap (λ (l : List ℕ). filter p l) (range_more a n) ∙ filter-append p (range_with_len a n) ((a + n) ∷ [])

-- one that isn't named is free
pub one_free : (named : List ℕ) (place : ℕ) (old new : List ℕ) → old ≡ filter (λ f. not (is_named named f)) (range_with_len 1 place) → is_named named (1 + place) ≡ false
    → new ≡ old ++ (1 + place) ∷ [] → new ≡ filter (λ f. not (is_named named f)) (range_with_len 1 (place + 1))
one_free named place old new was free is =
    let more : suc place ≡ place + 1 = omega arith in
    is ∙ ap (λ (l : List ℕ). l ++ (1 + place) ∷ []) was
    ∙ ap (λ (b : Bool). filter (λ f. not (is_named named f)) (range_with_len 1 place) ++ cond (not b) ((1 + place) ∷ []) []) (sym free)
    ∙ sym (tried_more (λ f. not (is_named named f)) 1 place) ∙ ap (λ (n : ℕ). filter (λ f. not (is_named named f)) (range_with_len 1 n)) more

-- and one that is isn't
pub one_named : (named : List ℕ) (place : ℕ) (old new : List ℕ) → old ≡ filter (λ f. not (is_named named f)) (range_with_len 1 place) → is_named named (1 + place) ≡ true → new ≡ old
    → new ≡ filter (λ f. not (is_named named f)) (range_with_len 1 (place + 1))
one_named named place old new was has is =
    let more : suc place ≡ place + 1 = omega arith in
    is ∙ was ∙ sym (append-nil (filter (λ f. not (is_named named f)) (range_with_len 1 place)))
    ∙ ap (λ (b : Bool). filter (λ f. not (is_named named f)) (range_with_len 1 place) ++ cond (not b) ((1 + place) ∷ []) []) (sym has)
    ∙ sym (tried_more (λ f. not (is_named named f)) 1 place) ∙ ap (λ (n : ℕ). filter (λ f. not (is_named named f)) (range_with_len 1 n)) more

-- ---- how many are named

keeps_both : (a b : Bool) (x : ℕ) (xs ys zs : List ℕ) → length xs ≤ length ys + length zs → length (cond (a || b) (x ∷ xs) xs) ≤ length (cond a (x ∷ ys) ys) + length (cond b (x ∷ zs) zs)
keeps_both true true x xs ys zs le = omega (arith, le)
keeps_both true false x xs ys zs le = omega (arith, le)
keeps_both false true x xs ys zs le = omega (arith, le)
keeps_both false false x xs ys zs le = omega (arith, le)

few_of_both : (p q : ℕ → Bool) (xs : List ℕ) → length (filter (λ x. p x || q x) xs) ≤ length (filter p xs) + length (filter q xs)
few_of_both p q [] = omega arith
few_of_both p q (x ∷ xs) = keeps_both (p x) (q x) x (filter (λ y. p y || q y) xs) (filter p xs) (filter q xs) (few_of_both p q xs)

none_below : (m a n : ℕ) → m < a → filter (λ f. m == f) (range_with_len a n) ≡ []
none_below m a zero less = refl
none_below m a (suc n) less =
    let off : (m == a) ≡ false = grind (arith, nat_tests) in
    ap (λ (b : Bool). cond b (a ∷ filter (λ f. m == f) (range_with_len (a + 1) n)) (filter (λ f. m == f) (range_with_len (a + 1) n))) off ∙ none_below m (a + 1) n (omega (arith, less))

one_at_most : (m a n : ℕ) → length (filter (λ f. m == f) (range_with_len a n)) ≤ 1
one_at_most m a zero = omega arith
one_at_most m a (suc n) = elim (m == a) as (λ b. (m == a) ≡ b → length (cond b (a ∷ filter (λ f. m == f) (range_with_len (a + 1) n)) (filter (λ f. m == f) (range_with_len (a + 1) n))) ≤ 1) [
  | true ↦ λ e. (let less : m < a + 1 = grind (arith, nat_tests) in omega (arith, ap length (none_below m (a + 1) n less)))
  | false ↦ λ e. one_at_most m (a + 1) n
] refl

none_of_none : (xs : List ℕ) → length (filter (is_named []) xs) ≡ 0
none_of_none [] = refl
none_of_none (x ∷ xs) = none_of_none xs

few_named : (named : List ℕ) (a n : ℕ) → length (filter (is_named named) (range_with_len a n)) ≤ length named
few_named [] a n = omega (arith, none_of_none (range_with_len a n))
few_named (m ∷ named) a n =
    let both : length (filter (is_named (m ∷ named)) (range_with_len a n)) ≤ length (filter (λ f. m == f) (range_with_len a n)) + length (filter (is_named named) (range_with_len a n)) =
    few_of_both (λ f. m == f) (is_named named) (range_with_len a n) in
    omega (arith, both, one_at_most m a n, few_named named a n)

-- so there are as many as asked for
pub length-free_files : (named : List ℕ) (count : ℕ) → length (free_files named count) ≡ count
length-free_files named count =
    let tried : ℕ = count + length named in
    let both : length (filter (is_named named) (range_with_len 1 tried)) + length (filter (λ f. not (is_named named f)) (range_with_len 1 tried)) ≡ length (range_with_len 1 tried) =
    length-filter_both (is_named named) (λ f. not (is_named named f)) (λ f. refl) (range_with_len 1 tried) in
    length-take-le count (filter (λ f. not (is_named named f)) (range_with_len 1 tried)) (omega (arith, both, few_named named 1 tried, length-range_with_len 1 tried))

-- ---- each is new

still_new : (named more : List ℕ) (at n count : ℕ) → at + n ≤ 2 ^ 32 → ((f : ℕ) → at ≤ f → is_named (named ++ more) f ≡ is_named named f)
    → AreNew (named ++ more) (take count (filter (λ f. not (is_named named f)) (range_with_len at n)))
still_new named more at n zero fits same = tt
still_new named more at zero (suc count) fits same = tt
still_new named more at (suc n) (suc count) fits same =
    elim (is_named named at) as (λ b. is_named named at ≡ b
    → AreNew (named ++ more) (take (suc count) (cond (not b) (at ∷ filter (λ f. not (is_named named f)) (range_with_len (at + 1) n)) (filter (λ f. not (is_named named f)) (range_with_len (at + 1) n))))) [
      | true ↦ λ e. still_new named more (at + 1) n (suc count) (omega (arith, fits)) (λ f le. same f (omega (arith, le)))
      | false ↦ λ e. (
        (omega (arith, fits), same at (omega arith) ∙ e),
        subst (λ (l : List ℕ). AreNew l (take count (filter (λ f. not (is_named named f)) (range_with_len (at + 1) n)))) (sym (append_assoc named more (at ∷ [])))
            (still_new named (more ++ at ∷ []) (at + 1) n count (omega (arith, fits)) one_more),
      )
    ] refl
  where
    or_false : (b : Bool) → b || false ≡ b
    or_false true = refl
    or_false false = refl

    one_more : (f : ℕ) → at + 1 ≤ f → is_named (named ++ (more ++ at ∷ [])) f ≡ is_named named f
    one_more f le =
        let off : (at == f) ≡ false = grind (arith, nat_tests) in
        ap (λ (l : List ℕ). is_named l f) (sym (append_assoc named more (at ∷ []))) ∙ list_any-append (λ m. m == f) (named ++ more) (at ∷ [])
        ∙ ap (λ (b : Bool). is_named (named ++ more) f || (b || false)) off ∙ or_false (is_named (named ++ more) f) ∙ same f (omega (arith, le))

pub free_are_new : (named : List ℕ) (count : ℕ) → 1 + (count + length named) ≤ 2 ^ 32 → AreNew named (free_files named count)
free_are_new named count fits =
    subst (λ (l : List ℕ). AreNew l (free_files named count)) (append-nil named)
    (still_new named [] 1 (count + length named) count fits (λ f le. ap (λ (l : List ℕ). is_named l f) (append-nil named)))
