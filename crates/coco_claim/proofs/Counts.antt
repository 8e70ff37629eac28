-- How often numbers stand in lists.
use Rattle.std.proofs.Common.{◌≡◌, ℕ, zero, suc, ◌+◌, ◌<◌, Bool, true, false, ◌||◌, cond, eqb, leb, List, [], ◌∷◌, ◌++◌, length, get_or, count_by, refl, ap, arith}
use Rattle.std.specs.List.{list_any, range_with_len}
use Rattle.std.proofs.lemmas.List.Sums.{sum_by-cons, sum_by_push, sum_by-append}
use Rattle.std.proofs.lemmas.Bool.Decides.{nat_tests}
use Rattle.coco_claim.specs.Numbers.{times, once_below, late}

pub times-push : (x : ℕ) (xs : List ℕ) (y : ℕ) → times x (xs ++ y ∷ []) ≡ times x xs + cond (eqb y x) 1 0
times-push x xs y = sum_by_push (λ z. cond (eqb z x) 1 0) xs y

pub times-append : (x : ℕ) (xs ys : List ℕ) → times x (xs ++ ys) ≡ times x xs + times x ys
times-append x xs ys = sum_by-append (λ z. cond (eqb z x) 1 0) xs ys

pub times-cons : (x y : ℕ) (ys : List ℕ) → times x (y ∷ ys) ≡ cond (eqb y x) 1 0 + times x ys
times-cons x y ys = sum_by-cons (λ z. cond (eqb z x) 1 0) y ys

pub late-push : (n : ℕ) (xs : List ℕ) (y : ℕ) → late n (xs ++ y ∷ []) ≡ late n xs + cond (leb n y) 1 0
late-push n xs y = sum_by_push (λ z. cond (leb n z) 1 0) xs y

pub late-append : (n : ℕ) (xs ys : List ℕ) → late n (xs ++ ys) ≡ late n xs + late n ys
late-append n xs ys = sum_by-append (λ z. cond (leb n z) 1 0) xs ys

pub once_below-more : (n x : ℕ) → once_below (n + 1) x ≡ once_below n x + cond (eqb n x) 1 0
once_below-more n x = grind (arith, nat_tests)

pub once_below-none : (x : ℕ) → once_below 0 x ≡ 0
once_below-none x = grind (arith, nat_tests)

pub once_below-here : (n x : ℕ) → 0 < once_below n x → x < n
once_below-here n x some = grind (arith, nat_tests)

pub once_below-is : (n x : ℕ) → x < n → once_below n x ≡ 1
once_below-is n x below = grind (arith, nat_tests)

or_false_left : (a b : Bool) → (a || b) ≡ false → a ≡ false
or_false_left true b e = e
or_false_left false b e = refl

or_false_right : (a b : Bool) → (a || b) ≡ false → b ≡ false
or_false_right true b e = absurd (cc)
or_false_right false b e = e

-- a number that stands in the list is counted
pub times-at : (xs : List ℕ) (k d : ℕ) → k < length xs → 0 < times (get_or xs k d) xs
times-at [] k d h = absurd (omega arith)
times-at (x ∷ xs) zero d h = let a = times-cons x x xs in grind (arith, nat_tests)
times-at (x ∷ xs) (suc k) d h = let a = times-cons (get_or xs k d) x xs in let b = times-at xs k d (omega arith) in omega arith

-- where no number passes the test, none is counted
pub count-none : (p : ℕ → Bool) (xs : List ℕ) → list_any p xs ≡ false → count_by p xs ≡ 0
count-none p [] out = refl
count-none p (x ∷ xs) out =
    let a = sum_by-cons (λ z. cond (p z) 1 0) x xs in
    let b = count-none p xs (or_false_right (p x) (list_any p xs) out) in
    let c : cond {A = ℕ} (p x) 1 0 ≡ 0 = ap (λ (t : Bool). cond {A = ℕ} t 1 0) (or_false_left (p x) (list_any p xs) out) in
    omega (arith, c)

-- the numbers from a on stand once in their row
pub times-range : (a n x : ℕ) → times x (range_with_len a n) ≡ cond (leb a x) (once_below (a + n) x) 0
times-range a zero x = grind (arith, nat_tests)
times-range a (suc n) x = let c = times-cons x a (range_with_len (a + 1) n) in let r = times-range (a + 1) n x in grind (arith, nat_tests)
