-- Rules of items behind others, for lists that are joined, cut, and filtered.
use Rattle.std.proofs.Common.{◌≡◌, ℕ, ◌+◌, ◌<◌, ◌≤◌, Bool, true, false, cond, ◌||◌, nat_eq, List, [], ◌∷◌, ◌++◌, filter, length, map, Option, None, Some, refl, sym, ap, subst, ◌∙◌, append-nil, append_assoc, arith}
use Rattle.std.specs.List.{AllByRecursion, IsDistinct}
use Rattle.std.specs.Set.{is_member}
use Rattle.std.proofs.lemmas.List.Elements.{filter-append}
use Rattle.std.proofs.lemmas.Bool.{or_from, or_parts}
use Rattle.coco_types.specs.declared.call.Done.{Done}
use Rattle.coco_ast.specs.History.{ids_of}
use Rattle.coco_store.specs.Rules.{EachBehind}

-- ---- joined and cut

module _ {A : Type 0} (Rule : List A → A → Type 0) where
  pub each_append : (before xs ys : List A) → EachBehind Rule before xs → EachBehind Rule (before ++ xs) ys → EachBehind Rule before (xs ++ ys)
  each_append before [] ys one two = subst (λ (l : List A). EachBehind Rule l ys) (append-nil before) two
  each_append before (x ∷ xs) ys one two = (one.0, each_append (before ++ x ∷ []) xs ys one.1 (subst (λ (l : List A). EachBehind Rule l ys) (sym (append_assoc before (x ∷ []) xs)) two))

  pub each_split : (before xs ys : List A) → EachBehind Rule before (xs ++ ys) → EachBehind Rule before xs × EachBehind Rule (before ++ xs) ys
  each_split before [] ys each = (tt, subst (λ (l : List A). EachBehind Rule l ys) (sym (append-nil before)) each)
  each_split before (x ∷ xs) ys each =
      let rest = each_split (before ++ x ∷ []) xs ys each.1 in
      ((each.0, rest.0), subst (λ (l : List A). EachBehind Rule l ys) (append_assoc before (x ∷ []) xs) rest.1)

  module _ (Other : List A → A → Type 0) where
    pub each_weaker : ((before : List A) (x : A) → Rule before x → Other before x) → (before xs : List A) → EachBehind Rule before xs → EachBehind Other before xs
    each_weaker weaker before [] each = tt
    each_weaker weaker before (x ∷ xs) each = (weaker before x each.0, each_weaker weaker (before ++ x ∷ []) xs each.1)

    -- with a fact of each item
    pub each_with : (P : A → Type 0) → ((before : List A) (x : A) → Rule before x → P x → Other before x) → (before xs : List A) → EachBehind Rule before xs → AllByRecursion P xs → EachBehind Other before xs
    each_with P with_it before [] each all = tt
    each_with P with_it before (x ∷ xs) each all = (with_it before x each.0 all.0, each_with P with_it (before ++ x ∷ []) xs each.1 all.1)

    -- ---- filtered

    module _ (p : A → Bool) (still : (before : List A) (x : A) → Rule before x → Other (filter p before) x) where
      one_further : (before xs : List A) (x : A) (b : Bool) → Rule before x → EachBehind Other (filter p before ++ cond b (x ∷ []) []) (filter p xs) → EachBehind Other (filter p before) (cond b (x ∷ filter p xs) (filter p xs))
      one_further before xs x true here rest = (still before x here, rest)
      one_further before xs x false here rest = subst (λ (l : List A). EachBehind Other l (filter p xs)) (append-nil (filter p before)) rest

      pub each_filtered : (before xs : List A) → EachBehind Rule before xs → EachBehind Other (filter p before) (filter p xs)
      each_filtered before [] each = tt
      each_filtered before (x ∷ xs) each =
          one_further before xs x (p x) each.0 (subst (λ (l : List A). EachBehind Other l (filter p xs)) (filter-append p before (x ∷ [])) (each_filtered (before ++ x ∷ []) xs each.1))

-- ---- what filtered Dones keep

module _ (p : Done → Bool) where
  pub new_still : (ds : List Done) (id : ℕ) → is_member nat_eq (ids_of ds) id ≡ false → is_member nat_eq (ids_of (filter p ds)) id ≡ false
  new_still [] id new = new
  new_still (d ∷ ds) id new =
      let parts = or_parts (nat_eq id d.id) (is_member nat_eq (ids_of ds) id) new in
      elim (p d) as (λ b. is_member nat_eq (ids_of (cond b (d ∷ filter p ds) (filter p ds))) id ≡ false) [
        | true ↦ or_from (nat_eq id d.id) (is_member nat_eq (ids_of (filter p ds)) id) parts.0 (new_still ds id parts.1)
        | false ↦ new_still ds id parts.1
      ]

  counted : (q : Done → Bool) (d : Done) (ds : List Done) → length (filter q (d ∷ ds)) ≡ cond (q d) 1 0 + length (filter q ds)
  counted q d ds = elim (q d) as (λ b. length (cond b (d ∷ filter q ds) (filter q ds)) ≡ cond b 1 0 + length (filter q ds)) [ true ↦ omega arith | false ↦ omega arith ]

  pub few_still : (q : Done → Bool) (ds : List Done) → length (filter q (filter p ds)) ≤ length (filter q ds)
  few_still q [] = omega arith
  few_still q (d ∷ ds) =
      let rest = few_still q ds in
      elim (p d) as (λ b. length (filter q (cond b (d ∷ filter p ds) (filter p ds))) ≤ length (filter q (d ∷ ds))) [
        | true ↦ omega (arith, rest, counted q d ds, counted q d (filter p ds))
        | false ↦ omega (arith, rest, counted q d ds)
      ]

  pub no_longer : (ds : List Done) → length (filter p ds) ≤ length ds
  no_longer [] = omega arith
  no_longer (d ∷ ds) =
      let rest = no_longer ds in
      elim (p d) as (λ b. length (cond b (d ∷ filter p ds) (filter p ds)) ≤ length (d ∷ ds)) [ true ↦ omega (arith, rest) | false ↦ omega (arith, rest) ]

  apart_still : (id : ℕ) (ds : List Done) → AllByRecursion (λ x. nat_eq id x ≡ false) (ids_of ds) → AllByRecursion (λ x. nat_eq id x ≡ false) (ids_of (filter p ds))
  apart_still id [] apart = tt
  apart_still id (d ∷ ds) apart =
      elim (p d) as (λ b. AllByRecursion (λ x. nat_eq id x ≡ false) (ids_of (cond b (d ∷ filter p ds) (filter p ds)))) [
        | true ↦ (apart.0, apart_still id ds apart.1)
        | false ↦ apart_still id ds apart.1
      ]

  cut_once : (d : Done) (ds : List Done) → IsDistinct nat_eq (ids_of (d ∷ ds)) → AllByRecursion (λ x. nat_eq d.id x ≡ false) (ids_of ds) × IsDistinct nat_eq (ids_of ds)
  unfolding IsDistinct
  cut_once d ds once = once

  joined_once : (d : Done) (ds : List Done) → AllByRecursion (λ x. nat_eq d.id x ≡ false) (ids_of ds) → IsDistinct nat_eq (ids_of ds) → IsDistinct nat_eq (ids_of (d ∷ ds))
  unfolding IsDistinct
  joined_once d ds others once = (others, once)

  pub once_still : (ds : List Done) → IsDistinct nat_eq (ids_of ds) → IsDistinct nat_eq (ids_of (filter p ds))
  once_still [] once = once
  once_still (d ∷ ds) once = (
      let parts = cut_once d ds once in
      elim (p d) as (λ b. IsDistinct nat_eq (ids_of (cond b (d ∷ filter p ds) (filter p ds)))) [
        | true ↦ joined_once d (filter p ds) (apart_still d.id ds parts.0) (once_still ds parts.1)
        | false ↦ once_still ds parts.1
      ])
