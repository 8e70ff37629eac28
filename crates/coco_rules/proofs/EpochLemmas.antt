-- The greatest epoch so far decides which may come next.
use Rattle.std.proofs.Common.{◌≡◌, ℕ, ◌<◌, max, sym, true, false, ◌&&◌, ltb, List, [], ◌∷◌, ◌++◌, ◌∙◌, arith}
use Rattle.std.specs.List.{AllByRecursion}
use Rattle.std.proofs.lemmas.Bool.{ltb-true, lt-ltb, and_from}
use Rattle.coco_types.specs.Limits.{epochs_end}
use Rattle.coco_entry.proofs.GrammarLemmas.{both_true}
use Rattle.coco_store.specs.Rules.{IsNextEpoch}
use Rattle.coco_rules.specs.Behind.{greatest}

pub all_below : (n : ℕ) (xs : List ℕ) (e : ℕ) → greatest n xs < e → (n < e) × AllByRecursion (λ x. x < e) xs
all_below n [] e less = (less, tt)
all_below n (x ∷ xs) e less = let rest = all_below (max n x) xs e less in (omega (arith, rest.0), (omega (arith, rest.0), rest.1))

pub below_all : (n : ℕ) (xs : List ℕ) (e : ℕ) → n < e → AllByRecursion (λ x. x < e) xs → greatest n xs < e
below_all n [] e less all = less
below_all n (x ∷ xs) e less all = below_all (max n x) xs e (let also : x < e = all.0 in omega (arith, less, also)) all.1

pub greatest_more : (n : ℕ) (xs : List ℕ) (x : ℕ) → greatest n xs < x → greatest n (xs ++ x ∷ []) ≡ x
greatest_more n [] x less = omega (arith, less)
greatest_more n (y ∷ xs) x less = greatest_more (max n y) xs x less

pub epoch_is : (base : ℕ) (before : List ℕ) (epoch : ℕ) → ltb (greatest base before) epoch && ltb epoch epochs_end ≡ true → IsNextEpoch base before epoch
epoch_is base before epoch e =
    let two = both_true (ltb (greatest base before) epoch) (ltb epoch epochs_end) e in
    let all = all_below base before epoch (ltb-true (greatest base before) epoch two.0) in
    record { above_base = all.0; rises = all.1; below_end = ltb-true epoch epochs_end two.1 }

pub is_epoch : (base : ℕ) (before : List ℕ) (epoch : ℕ) → IsNextEpoch base before epoch → ltb (greatest base before) epoch && ltb epoch epochs_end ≡ true
is_epoch base before epoch next =
    and_from (ltb (greatest base before) epoch) (ltb epoch epochs_end) (lt-ltb (greatest base before) epoch (below_all base before epoch next.above_base next.rises)) (lt-ltb epoch epochs_end next.below_end)

pub no_epoch : (base : ℕ) (before : List ℕ) (epoch : ℕ) → ltb (greatest base before) epoch && ltb epoch epochs_end ≡ false → ¬ (IsNextEpoch base before epoch)
no_epoch base before epoch e next = let no : true ≡ false = sym (is_epoch base before epoch next) ∙ e in cc

-- an epoch that goes on is the greatest then
pub newest : (base : ℕ) (before : List ℕ) (epoch : ℕ) → IsNextEpoch base before epoch → greatest base (before ++ epoch ∷ []) ≡ epoch
newest base before epoch next = greatest_more base before epoch (below_all base before epoch next.above_base next.rises)

pub above_last : (base : ℕ) (before : List ℕ) (last epoch : ℕ) → last ≡ greatest base before → IsNextEpoch base before epoch → last < epoch
above_last base before last epoch is next = omega (arith, is, below_all base before epoch next.above_base next.rises)
