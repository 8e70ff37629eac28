-- Lists of epochs: the last of them, and the same ones in another order.
use Rattle.std.proofs.Common.{◌≡◌, ℕ, zero, suc, ◌+◌, ◌<◌, ◌≤◌, max, Bool, true, false, ltb, eqb, List, [], ◌∷◌, ◌++◌, length, take, get_or, refl, sym, ap, ◌∙◌, arith}
use Rattle.std.specs.Prelude.{◌||◌, IsPermutation, IfOk, Result, Ok, Err}
use Rattle.std.specs.Global.{Vec}
use Rattle.std.specs.List.{All, AllByRecursion, list_any}
use Rattle.std.specs.List.Sorted.{IsSorted}
use Rattle.std.specs.Ordering.{nat_cmp, is_lt}
use Rattle.std.proofs.lemmas.Bool.Decides.{nat_tests}
use Rattle.std.proofs.lemmas.List.{take_more, take_at}
use Rattle.std.proofs.lemmas.List.Elements.{recursion_from_All, All-from_recursion}
use Rattle.std.proofs.lemmas.List.Folds.{list_any_more}
use Rattle.std.proofs.lemmas.List.Sorted.{length_permutation, All-permutation, IsPermutation-sym, list_any-IsPermutation}
use Rattle.coco_types.specs.declared.error.NoMemory.{NoMemory}
use Rattle.coco_chief.specs.declared.ranges.Range.{Range}
use Rattle.coco_chief.specs.Chief.{has, last_of}
use Rattle.coco_chief.specs.Ranges.{covers, end_of}

pub last_of-push : (xs : List ℕ) (x : ℕ) → last_of (xs ++ x ∷ []) ≡ max (last_of xs) x
last_of-push [] x = omega arith
last_of-push (y ∷ ys) x = rw (last_of-push ys x) (omega arith)

not_below : (a b : ℕ) → is_lt (nat_cmp a b) ≡ false → b ≤ a
not_below a b e = grind (arith, nat_tests)

or_comm : (a b : Bool) → (a || b) ≡ (b || a)
or_comm true true = refl
or_comm true false = refl
or_comm false true = refl
or_comm false false = refl

pub has_more : (xs : List ℕ) (i x : ℕ) → i < length xs → has (take (i + 1) xs) x ≡ (eqb (get_or xs i 0) x || has (take i xs) x)
has_more xs i x lt = list_any_more (λ y. eqb y x) xs i 0 lt ∙ or_comm (has (take i xs) x) (eqb (get_or xs i 0) x)

pub last_of_more : (xs : List ℕ) (i : ℕ) → i < length xs → last_of (take i xs) ≤ get_or xs i 0 → last_of (take (i + 1) xs) ≡ get_or xs i 0
last_of_more xs i lt le = rw (take_more xs i 0 lt, last_of-push) (omega (arith, le))

pub sorted_next : (xs : List ℕ) (i : ℕ) → IsSorted nat_cmp xs → i + 1 < length xs → get_or xs i 0 ≤ get_or xs (i + 1) 0
sorted_next xs i sorted lt = not_below (get_or xs (i + 1) 0) (get_or xs i 0) (sorted i 0 (omega arith) lt)

last_le : (xs : List ℕ) (m : ℕ) → AllByRecursion (λ x. x ≤ m) xs → last_of xs ≤ m
last_le [] m h = omega arith
last_le (x ∷ xs) m h = omega (arith, h.0, last_le xs m h.1)

le_last : (xs : List ℕ) (m : ℕ) → last_of xs ≤ m → AllByRecursion (λ x. x ≤ m) xs
le_last [] m h = tt
le_last (x ∷ xs) m h = (omega arith, le_last xs m (omega arith))

last_of-le : (xs ys : List ℕ) → IsPermutation xs ys → last_of ys ≤ last_of xs
last_of-le xs ys p = last_le ys (last_of xs) (recursion_from_All (λ x. x ≤ last_of xs) ys (All-permutation (λ x. x ≤ last_of xs) xs ys p (All-from_recursion (λ x. x ≤ last_of xs) xs (le_last xs (last_of xs) (omega arith)))))

pub last_of-permutation : (xs ys : List ℕ) → IsPermutation xs ys → last_of ys ≡ last_of xs
last_of-permutation xs ys p = omega (arith, last_of-le xs ys p, last_of-le ys xs (IsPermutation-sym xs ys p))

pub has-permutation : (xs ys : List ℕ) (x : ℕ) → IsPermutation xs ys → has ys x ≡ has xs x
has-permutation xs ys x p = sym (list_any-IsPermutation (λ y. eqb y x) xs ys p)

-- ranges of the same epochs in another order
pub covers_reordered : (r : Result (Vec Range) NoMemory) (xs ys : List ℕ) → IsPermutation xs ys → IfOk r (λ ranges. (x : ℕ) → covers ranges.items x ≡ has ys x) → IfOk r (λ ranges. (x : ℕ) → covers ranges.items x ≡ has xs x)
covers_reordered (Ok ranges) xs ys p h = λ x. h x ∙ has-permutation xs ys x p
covers_reordered (Err e) xs ys p h = tt

pub end_reordered : (r : Result (Vec Range) NoMemory) (xs ys : List ℕ) → IsPermutation xs ys → IfOk r (λ ranges. end_of ranges.items ≡ last_of ys) → IfOk r (λ ranges. end_of ranges.items ≡ last_of xs)
end_reordered (Ok ranges) xs ys p h = h ∙ last_of-permutation xs ys p
end_reordered (Err e) xs ys p h = tt
