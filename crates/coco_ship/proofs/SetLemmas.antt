-- Sets and lists of places: one place more at a time, sorted, and looked up.
use Rattle.std.proofs.Common.{◌≡◌, ℕ, ◌+◌, ◌<◌, Bool, true, false, ◌||◌, ◌++◌, ◌≤◌, nat_eq, List, [], ◌∷◌, length, Result, Ok, Err, take, get_or, None, Some, refl, sym, ap, ◌∙◌, arith, inl, inr, ◌⊎◌, subst}
use Rattle.std.specs.List.Sorted.{IsStrictlySortedBy}
use Rattle.std.specs.Ordering.{nat_cmp, is_eq}
use Rattle.std.specs.BTreeMap.{is_at}
use Rattle.std.specs.declared.cmp.Ordering.{Ordering}
use Rattle.std.specs.declared.cmp.Ordering.TheVariants.{Less, Equal, Greater}
use Rattle.std.specs.Cmp.{unsigned_ties}
use Rattle.std.specs.List.{Contains, dedup}
use Rattle.std.specs.List.Retain.{DiffersFromLast, IsFiltered}
use Rattle.std.specs.List.Sorted.{IsBinarySearchResult, IsPermutation, IsSorted}
use Rattle.std.specs.Ordering.{eq_by_cmp}
use Rattle.std.specs.Result.{MatchResult, OnOk, is_ok}
use Rattle.std.proofs.lemmas.Bool.{cases_lt, or_left, or_right}
use Rattle.std.proofs.lemmas.Cmp.{eq_by_cmp_equiv, nat_cmp_total, tied_itself}
use Rattle.std.proofs.lemmas.List.{get_or_default}
use Rattle.std.proofs.lemmas.List.Elements.{Contains-get_or}
use Rattle.std.proofs.lemmas.List.Filters.{dedup_is}
use Rattle.std.proofs.lemmas.List.Kept.{Contains-dedup_nat, Contains-from_dedup, IsStrictlySortedBy-dedup}
use Rattle.std.proofs.lemmas.List.Sorted.{list_any-IsPermutation, searched}
use Rattle.std.proofs.lemmas.Map.Keys.{below_from_sorted, sorted_tail}
use Rattle.std.proofs.lemmas.Map.Views.{Contains-from_any, list_any-from_Contains}
use Rattle.std.proofs.lemmas.Map.Lookups.{exact_unsigned}
use Rattle.std.proofs.lemmas.List.{take_more}
use Rattle.std.proofs.lemmas.List.Folds.{list_any-append}
use Rattle.coco_bytes.specs.Lists.{FitInTurn}
use Rattle.coco_msg.specs.Bytes.{RisesFrom}
use Rattle.coco_ship.specs.Sets.{is_in, Adds, HasSame, Keeps, Misses}

is_equal : (o : Ordering) → is_eq o ≡ true → o ≡ Equal
is_equal Less h = cc
is_equal Equal h = refl
is_equal Greater h = cc

pub one_place : (k q : ℕ) → is_at (nat_cmp k) q ≡ true → k ≡ q
one_place k q h = exact_unsigned k q (is_equal (nat_cmp k q) h)

pub itself : (k : ℕ) → is_at (nat_cmp k) k ≡ true
itself k = ap is_eq (tied_itself nat_cmp_total k)

-- ---- one place more of a list

either_is : (a b : Bool) → (a || b) ≡ true → (a ≡ true) ⊎ (b ≡ true)
either_is true b h = inl refl
either_is false b h = inr h

or_none : (a : Bool) → (a || false) ≡ true → a ≡ true
or_none true h = refl
or_none false h = h

-- a place at the end
pub adds : (old : List ℕ) (k : ℕ) → Adds old (old ++ k ∷ []) k
adds old k = record {
  there = at_end k ∙ or_right (is_in old k) (is_in (k ∷ []) k) (or_left (is_at (nat_cmp k) k) false (itself k));
  stay = λ q h. at_end q ∙ or_left (is_in old q) (is_in (k ∷ []) q) h;
  only = λ q h. elim (either_is (is_in old q) (is_in (k ∷ []) q) (sym (at_end q) ∙ h)) [
    | inl before ↦ inr before
    | inr last ↦ inl (one_place q k (or_none (is_at (nat_cmp q) k) last))
  ];
}
  where
    at_end : (q : ℕ) → is_in (old ++ k ∷ []) q ≡ (is_in old q || is_in (k ∷ []) q)
    at_end q = list_any-append (is_at (nat_cmp q)) old (k ∷ [])

pub on_ok_adds : {A E : Type 0} (old new : List ℕ) (k : ℕ) (r : Result A E) → OnOk r (new ≡ old ++ k ∷ []) → OnOk r (Adds old new k)
on_ok_adds old new k (Ok x) is = subst (λ ks. Adds old ks k) (sym is) (adds old k)
on_ok_adds old new k (Err e) is = tt

-- the places up to one more
pub in_split : (places : List ℕ) (i q : ℕ) → i < length places → is_in (take (i + 1) places) q ≡ (is_in (take i places) q || is_in (get_or places i 0 ∷ []) q)
in_split places i q h = ap (λ ps. is_in ps q) (take_more places i 0 h) ∙ list_any-append (is_at (nat_cmp q)) (take i places) (get_or places i 0 ∷ [])

pub in_more : (places : List ℕ) (i q : ℕ) → i < length places → is_in (take (i + 1) places) q ≡ true → (is_in (take i places) q ≡ true) ⊎ (q ≡ get_or places i 0)
in_more places i q h there = elim (either_is (is_in (take i places) q) (is_in (get_or places i 0 ∷ []) q) (sym (in_split places i q h) ∙ there)) [
  | inl before ↦ inl before
  | inr last ↦ inr (one_place q (get_or places i 0) (or_none (is_at (nat_cmp q) (get_or places i 0)) last))
]

pub in_before : (places : List ℕ) (i q : ℕ) → i < length places → is_in (take i places) q ≡ true → is_in (take (i + 1) places) q ≡ true
in_before places i q h there = in_split places i q h ∙ or_left (is_in (take i places) q) (is_in (get_or places i 0 ∷ []) q) there

pub in_last : (places : List ℕ) (i : ℕ) → i < length places → is_in (take (i + 1) places) (get_or places i 0) ≡ true
in_last places i h = in_split places i (get_or places i 0) h ∙ or_right (is_in (take i places) (get_or places i 0)) (is_in (get_or places i 0 ∷ []) (get_or places i 0)) (or_left (is_at (nat_cmp (get_or places i 0)) (get_or places i 0)) false (itself (get_or places i 0)))

apart : true ≡ false → ⊥
apart h = cc

-- ---- the places that are kept, and those that are missed

pub keeps_none : (old new : List ℕ) → new ≡ [] → Keeps old [] new
keeps_none old new none = record {
  both = λ q h there. absurd (apart (sym there));
  only = λ q h. absurd (apart (sym h ∙ ap (λ ks. is_in ks q) none));
}

pub keeps_more : (old mid new : List ℕ) (places : List ℕ) (i : ℕ) → i < length places → Keeps old (take i places) mid → is_in old (get_or places i 0) ≡ true → Adds mid new (get_or places i 0) → Keeps old (take (i + 1) places) new
keeps_more old mid new places i h before here adds = record {
  both = λ q had there. elim (in_more places i q h there) [
    | inl earlier ↦ adds.stay q (before.both q had earlier)
    | inr last ↦ ap (is_in new) last ∙ adds.there
  ];
  only = λ q kept. elim (adds.only q kept) [
    | inl last ↦ (ap (is_in old) last ∙ here, ap (is_in (take (i + 1) places)) last ∙ in_last places i h)
    | inr earlier ↦ ((before.only q earlier).0, in_before places i q h (before.only q earlier).1)
  ];
}

pub keeps_same : (old mid : List ℕ) (places : List ℕ) (i : ℕ) → i < length places → Keeps old (take i places) mid → is_in old (get_or places i 0) ≡ false → Keeps old (take (i + 1) places) mid
keeps_same old mid places i h before here = record {
  both = λ q had there. elim (in_more places i q h there) [
    | inl earlier ↦ before.both q had earlier
    | inr last ↦ absurd (apart (sym had ∙ ap (is_in old) last ∙ here))
  ];
  only = λ q kept. ((before.only q kept).0, in_before places i q h (before.only q kept).1);
}

pub misses_none : (there new : List ℕ) → new ≡ [] → Misses there [] new
misses_none there new none = record {
  each = λ q h. absurd (apart (sym h));
  only = λ q h. absurd (apart (sym h ∙ ap (λ ks. is_in ks q) none));
}

pub misses_more : (there mid new : List ℕ) (places : List ℕ) (i : ℕ) → i < length places → Misses there (take i places) mid → is_in there (get_or places i 0) ≡ false → Adds mid new (get_or places i 0) → Misses there (take (i + 1) places) new
misses_more there mid new places i h before here adds = record {
  each = λ q named. elim (in_more places i q h named) [
    | inl earlier ↦ elim (before.each q earlier) [ inl had ↦ inl had | inr missed ↦ inr (adds.stay q missed) ]
    | inr last ↦ inr (ap (is_in new) last ∙ adds.there)
  ];
  only = λ q missed. elim (adds.only q missed) [
    | inl last ↦ (ap (is_in there) last ∙ here, ap (is_in (take (i + 1) places)) last ∙ in_last places i h)
    | inr earlier ↦ ((before.only q earlier).0, in_before places i q h (before.only q earlier).1)
  ];
}

pub misses_same : (there mid : List ℕ) (places : List ℕ) (i : ℕ) → i < length places → Misses there (take i places) mid → is_in there (get_or places i 0) ≡ true → Misses there (take (i + 1) places) mid
misses_same there mid places i h before here = record {
  each = λ q named. elim (in_more places i q h named) [
    | inl earlier ↦ before.each q earlier
    | inr last ↦ inl (ap (is_in there) last ∙ here)
  ];
  only = λ q missed. ((before.only q missed).0, in_before places i q h (before.only q missed).1);
}

-- the same set, whatever its order
pub keeps_as : (old places still new : List ℕ) → Keeps old places still → HasSame still new → Keeps old places new
keeps_as old places still new keeps same = record {
  both = λ q h there. same q ∙ keeps.both q h there;
  only = λ q h. keeps.only q (sym (same q) ∙ h);
}

pub misses_as : (there had places missing new : List ℕ) → Misses had places missing → HasSame there had → HasSame missing new → Misses there places new
misses_as there had places missing new misses before same = record {
  each = λ q named. elim (misses.each q named) [ inl h ↦ inl (sym (before q) ∙ h) | inr h ↦ inr (same q ∙ h) ];
  only = λ q h. let of = misses.only q (sym (same q) ∙ h) in (sym (before q) ∙ of.0, of.1);
}

-- where the places that are there are these, nothing is missed
pub misses_nothing : (there had places : List ℕ) → HasSame there had → had ≡ places → Misses there places []
misses_nothing there had places same is = record {
  each = λ q named. inl (sym (same q) ∙ ap (λ ks. is_in ks q) is ∙ named);
  only = λ q h. absurd (apart (sym h));
}

-- ---- a list that is sorted, and in which each place is left once

contained : (ks : List ℕ) (q : ℕ) → is_in ks q ≡ true → Contains ks q
contained ks q h = Contains-from_any {eq = eq_by_cmp nat_cmp} one_place q ks h

held : (ks : List ℕ) (q : ℕ) → Contains ks q → is_in ks q ≡ true
held ks q h = list_any-from_Contains (eq_by_cmp_equiv nat_cmp_total) q ks h

same_truth : (a b : Bool) → (a ≡ true → b ≡ true) → (b ≡ true → a ≡ true) → a ≡ b
same_truth true b there back = sym (there refl)
same_truth false true there back = back refl
same_truth false false there back = refl

once_each : (ks : List ℕ) (q : ℕ) → is_in (dedup nat_eq ks) q ≡ is_in ks q
once_each ks q = same_truth (is_in (dedup nat_eq ks) q) (is_in ks q)
    (λ h. held ks q (Contains-from_dedup nat_eq ks q (contained (dedup nat_eq ks) q h)))
    (λ h. held (dedup nat_eq ks) q (Contains-dedup_nat ks q (contained ks q h)))

pub set_same_places : (places sorted set : List ℕ) → IsPermutation places sorted → IsFiltered (DiffersFromLast nat_eq) [] sorted set → HasSame places set
set_same_places places sorted set moved filtered q =
    ap (λ ks. is_in ks q) (dedup_is nat_eq sorted set filtered) ∙ once_each sorted q ∙ sym (list_any-IsPermutation (is_at (nat_cmp q)) places sorted moved)

pub set_rises : (sorted set : List ℕ) → IsSorted nat_cmp sorted → IsFiltered (DiffersFromLast nat_eq) [] sorted set → IsStrictlySortedBy nat_cmp set
set_rises sorted set rises filtered =
    subst (IsStrictlySortedBy nat_cmp) (sym (dedup_is nat_eq sorted set filtered)) (IsStrictlySortedBy-dedup nat_cmp_total unsigned_ties sorted rises)

-- ---- a place is looked for in such a list

never_falls : (ks : List ℕ) → IsStrictlySortedBy nat_cmp ks → (i j : ℕ) → i ≤ j → j < length ks → get_or ks i 0 ≤ get_or ks j 0
never_falls ks rises i j le within = elim (cases_lt i j) [
  | inl less ↦ omega (arith, below_from_sorted ks i j 0 rises less within)
  | inr same ↦ let e : i ≡ j = omega (arith, le, same) in omega (arith, ap (λ k. get_or ks k 0) e)
]

pub looked_up : (ks : List ℕ) (q : ℕ) (r : Result ℕ ℕ) → IsStrictlySortedBy nat_cmp ks → IsBinarySearchResult (λ y. nat_cmp y q) ks r → is_ok r ≡ is_in ks q
looked_up ks q r rises found = by r (searched ks q r found (never_falls ks rises))
  where
    not_here : (i : ℕ) → ((k : ℕ) → k < i → get_or ks k 0 < q) → ((k : ℕ) → i ≤ k → k < length ks → q < get_or ks k 0) → is_in ks q ≡ true → ⊥
    not_here i below above h =
        let at = contained ks q h in
        let here : get_or ks at.0 0 ≡ q = get_or_default ks at.0 0 q at.1 ∙ at.2 in
        elim (cases_lt at.0 i) [
          | inl less ↦ let low : get_or ks at.0 0 < q = below at.0 less in omega (arith, low, here)
          | inr past ↦ let high : q < get_or ks at.0 0 = above at.0 past at.1 in omega (arith, high, here)
        ]

    by : (r : Result ℕ ℕ) → MatchResult r (λ i. (i < length ks) × (get_or ks i 0 ≡ q)) (λ i. (i ≤ length ks) × ((k : ℕ) → k < i → get_or ks k 0 < q) × ((k : ℕ) → i ≤ k → k < length ks → q < get_or ks k 0)) → is_ok r ≡ is_in ks q
    by (Ok i) h = sym (held ks q (subst (Contains ks) h.1 (Contains-get_or ks i 0 h.0)))
    by (Err i) h = same_truth false (is_in ks q) (λ e. cc) (λ e. absurd (not_here i h.1 h.2 e))

-- ---- places that rise

rises : (x : ℕ) (ks : List ℕ) → IsStrictlySortedBy nat_cmp (x ∷ ks) → FitInTurn RisesFrom (Some x) ks
rises x [] h = tt
rises x (y ∷ ks) h = (below_from_sorted (x ∷ y ∷ ks) 0 1 0 h (omega arith) (omega arith), rises y ks (sorted_tail nat_cmp x (y ∷ ks) h))

pub rising : (ks : List ℕ) → IsStrictlySortedBy nat_cmp ks → FitInTurn RisesFrom None ks
rising [] h = tt
rising (x ∷ ks) h = (tt, rises x ks h)
