-- How slots are given out.
use Rattle.std.proofs.Common.{◌≡◌, ℕ, suc, ◌+◌, ◌<◌, ◌≤◌, min, Bool, true, false, cond, nat_eq, List, [], ◌∷◌, ◌++◌, length, get_or, take, None, Some, refl, sym, ap, ◌∙◌, subst, arith, ⊎_elim, length-append, append_assoc}
use Rattle.std.proofs.Math.ListN.{get_or-append}
use Rattle.std.proofs.Math.Seq.{get_or-append_seam}
use Rattle.std.specs.BTreeMap.{BTreeMap, get, is_at, Updates}
use Rattle.std.specs.Cmp.Lexicographic.{slice_cmp, pointwise, bytes_decides, texts_ties}
use Rattle.std.specs.Ordering.{nat_cmp}
use Rattle.std.proofs.lemmas.Bool.{cases_lt, lt-ltb}
use Rattle.std.proofs.lemmas.List.{get_or_past, append-nil, take_more}
use Rattle.std.proofs.lemmas.Option.{slice_get_read}
use borrow.Author.Tests.{ltb-true, ltb-false}
use Rattle.coco_ast.specs.Checks.{is_among}
use Rattle.coco_ast.specs.Meaning.{place_of}
use Rattle.coco_ast.specs.Planning.{slot_for, AreIndexed, HasOwnNames, IsLonger}
use Rattle.coco_ast.specs.Plans.{AreSlots, has_slot, name_at, with_name, with_names}
use Rattle.coco_ast.specs.Words.{is_word}
use Rattle.coco_ast.proofs.Accepted.{same_bytes, among_first, among_later}

-- ---- the place of a name

pub place_le : (ns : List (List ℕ)) (x : List ℕ) → place_of ns x ≤ length ns
place_le [] x = omega arith
place_le (n ∷ ns) x = step (pointwise nat_eq n x) (place_le ns x)
  where
    step : (b : Bool) → place_of ns x ≤ length ns → cond b 0 (suc (place_of ns x)) ≤ suc (length ns)
    step true le = omega arith
    step false le = omega arith

place_more : (ns more : List (List ℕ)) (x : List ℕ) → place_of ns x < length ns → place_of (ns ++ more) x ≡ place_of ns x
place_more [] more x lt = absurd (omega arith)
place_more (n ∷ ns) more x lt = step (pointwise nat_eq n x) lt (place_more ns more x)
  where
    step : (b : Bool) → cond b 0 (suc (place_of ns x)) < suc (length ns) → (place_of ns x < length ns → place_of (ns ++ more) x ≡ place_of ns x) → cond b 0 (suc (place_of (ns ++ more) x)) ≡ cond b 0 (suc (place_of ns x))
    step true h others = refl
    step false h others = ap suc (others (omega arith))

pub name_there : (ns : List (List ℕ)) (x : List ℕ) → place_of ns x < length ns → name_at ns (place_of ns x) ≡ x
name_there [] x lt = absurd (omega arith)
name_there (n ∷ ns) x lt = step (pointwise nat_eq n x) refl lt (name_there ns x)
  where
    step : (b : Bool) → pointwise nat_eq n x ≡ b → cond b 0 (suc (place_of ns x)) < suc (length ns) → (place_of ns x < length ns → name_at ns (place_of ns x) ≡ x) → name_at (n ∷ ns) (cond b 0 (suc (place_of ns x))) ≡ x
    step true e h others = (bytes_decides n x).0 e
    step false e h others = others (omega arith)

place_new : (ns : List (List ℕ)) (x : List ℕ) → place_of ns x ≡ length ns → place_of (ns ++ x ∷ []) x ≡ length ns
place_new [] x e = ap (λ (b : Bool). cond b 0 1) ((bytes_decides x x).1 refl)
place_new (n ∷ ns) x e = step (pointwise nat_eq n x) e (place_new ns x)
  where
    step : (b : Bool) → cond b 0 (suc (place_of ns x)) ≡ suc (length ns) → (place_of ns x ≡ length ns → place_of (ns ++ x ∷ []) x ≡ length ns) → cond b 0 (suc (place_of (ns ++ x ∷ []) x)) ≡ suc (length ns)
    step true h others = absurd (omega arith)
    step false h others = ap suc (others (omega arith))

place_other : (ns : List (List ℕ)) (x y : List ℕ) → pointwise nat_eq x y ≡ false → place_of ns y ≡ length ns → place_of (ns ++ x ∷ []) y ≡ suc (length ns)
place_other [] x y other e = ap (λ (b : Bool). cond b 0 1) other
place_other (n ∷ ns) x y other e = step (pointwise nat_eq n y) e (place_other ns x y other)
  where
    step : (b : Bool) → cond b 0 (suc (place_of ns y)) ≡ suc (length ns) → (place_of ns y ≡ length ns → place_of (ns ++ x ∷ []) y ≡ suc (length ns)) → cond b 0 (suc (place_of (ns ++ x ∷ []) y)) ≡ suc (suc (length ns))
    step true h others = absurd (omega arith)
    step false h others = ap suc (others (omega arith))

pub has_place : (ns : List (List ℕ)) (x : List ℕ) → has_slot ns x ≡ true → place_of ns x < length ns
has_place ns x h = ltb-true (place_of ns x) (length ns) h

no_place : (ns : List (List ℕ)) (x : List ℕ) → has_slot ns x ≡ false → place_of ns x ≡ length ns
no_place ns x h = omega (arith, ltb-false (place_of ns x) (length ns) h, place_le ns x)

slot_is : (ns : List (List ℕ)) (x : List ℕ) → place_of ns x < length ns → has_slot ns x ≡ true
slot_is ns x lt = lt-ltb (place_of ns x) (length ns) lt

slot_none : (ns : List (List ℕ)) (x : List ℕ) → length ns ≤ place_of ns x → has_slot ns x ≡ false
slot_none ns x le = known (has_slot ns x) refl
  where
    known : (b : Bool) → has_slot ns x ≡ b → has_slot ns x ≡ false
    known false e = e
    known true e = absurd (omega (arith, has_place ns x e, le))

-- ---- a name more

module _ (ns : List (List ℕ)) (x : List ℕ) (new : has_slot ns x ≡ false) where
  slot_more : (y : List ℕ) → slot_for (ns ++ x ∷ []) y ≡ cond (is_at (slice_cmp nat_cmp x) y) (Some (length ns)) (slot_for ns y)
  slot_more y = rw (← texts_ties x y) (by_case (has_slot ns y) (pointwise nat_eq x y) refl refl)
    where
      long : length (ns ++ x ∷ []) ≡ length ns + 1
      long = length-append ns (x ∷ [])

      by_case : (h b : Bool) → has_slot ns y ≡ h → pointwise nat_eq x y ≡ b → slot_for (ns ++ x ∷ []) y ≡ cond b (Some (length ns)) (cond h (Some (place_of ns y)) None)
      by_case true true has same = let e : true ≡ false = sym has ∙ ap (has_slot ns) (sym ((bytes_decides x y).0 same)) ∙ new in cc
      by_case true false has same =
          let at = place_more ns (x ∷ []) y (has_place ns y has) in
          ap (λ (b : Bool). cond b (Some (place_of (ns ++ x ∷ []) y)) None) (slot_is (ns ++ x ∷ []) y (omega (arith, at, has_place ns y has, long))) ∙ ap Some at
      by_case false true has same =
          let at : place_of (ns ++ x ∷ []) y ≡ length ns = ap (place_of (ns ++ x ∷ [])) (sym ((bytes_decides x y).0 same)) ∙ place_new ns x (no_place ns x new) in
          ap (λ (b : Bool). cond b (Some (place_of (ns ++ x ∷ []) y)) None) (slot_is (ns ++ x ∷ []) y (omega (arith, at, long))) ∙ ap Some at
      by_case false false has same =
          let at = place_other ns x y same (no_place ns y has) in
          ap (λ (b : Bool). cond b (Some (place_of (ns ++ x ∷ []) y)) None) (slot_none (ns ++ x ∷ []) y (omega (arith, at, long)))

  slots_more : is_word x ≡ true → AreSlots ns → AreSlots (ns ++ x ∷ [])
  slots_more word slots slot = ⊎_elim before (λ le. ⊎_elim past (λ ge. here (omega (arith, le, ge))) (cases_lt (length ns) slot)) (cases_lt slot (length ns))
    where
      long : length (ns ++ x ∷ []) ≡ length ns + 1
      long = length-append ns (x ∷ [])

      before : slot < length ns → place_of (ns ++ x ∷ []) (name_at (ns ++ x ∷ []) slot) ≡ min slot (length (ns ++ x ∷ []))
      before lt =
          let old = slots slot in
          ap (place_of (ns ++ x ∷ [])) (get_or-append ns (x ∷ []) [] slot lt) ∙ place_more ns (x ∷ []) (name_at ns slot) (omega arith) ∙ omega (arith, old, long)

      here : slot ≡ length ns → place_of (ns ++ x ∷ []) (name_at (ns ++ x ∷ []) slot) ≡ min slot (length (ns ++ x ∷ []))
      here is =
          ap (λ (n : ℕ). place_of (ns ++ x ∷ []) (name_at (ns ++ x ∷ []) n)) is ∙ ap (place_of (ns ++ x ∷ [])) (get_or-append_seam ns x [] []) ∙ place_new ns x (no_place ns x new) ∙ omega (arith, is, long)

      not_empty : (bs : List ℕ) → is_word bs ≡ true → pointwise nat_eq bs [] ≡ false
      not_empty [] h = let e : false ≡ true = h in cc
      not_empty (b ∷ bs) h = refl

      past : length ns < slot → place_of (ns ++ x ∷ []) (name_at (ns ++ x ∷ []) slot) ≡ min slot (length (ns ++ x ∷ []))
      past lt =
          let none : place_of ns [] ≡ length ns = ap (place_of ns) (sym (get_or_past ns slot [] (omega arith))) ∙ slots slot ∙ omega arith in
          ap (place_of (ns ++ x ∷ [])) (get_or_past (ns ++ x ∷ []) slot [] (omega (arith, long))) ∙ place_other ns x [] (not_empty x word) none ∙ omega (arith, long)

pub indexed_more : (ns : List (List ℕ)) (x : List ℕ) (n : ℕ) (old new : BTreeMap (List ℕ) ℕ) → AreIndexed ns old → has_slot ns x ≡ false → is_word x ≡ true → n ≡ length ns
    → Updates (slice_cmp nat_cmp) old new x (Some n) → AreIndexed (ns ++ x ∷ []) new
indexed_more ns x n old new index none word is updates = record {
  slots = slots_more ns x none word index.slots;
  numbered = λ y. updates.0 y ∙ ap (λ (k : ℕ). cond (is_at (slice_cmp nat_cmp x) y) (Some k) (get (slice_cmp nat_cmp) old y)) is ∙ ap (cond (is_at (slice_cmp nat_cmp x) y) (Some (length ns))) (index.numbered y) ∙ sym (slot_more ns x none y);
}

-- ---- what a slot is of, whatever comes behind

pub longer_on : (a b c : List (List ℕ)) → IsLonger a b → IsLonger b c → IsLonger a c
longer_on a b c one other = record {
  more = one.more ++ other.more;
  is = other.is ∙ ap (λ (ns : List (List ℕ)). ns ++ other.more) one.is ∙ append_assoc a one.more other.more;
}

with_place : (ns : List (List ℕ)) (x : List ℕ) → (place_of (with_name ns x) x ≡ place_of ns x) × (place_of ns x < length (with_name ns x))
with_place ns x = by_case (has_slot ns x) refl
  where
    by_case : (b : Bool) → has_slot ns x ≡ b → (place_of (cond b ns (ns ++ x ∷ [])) x ≡ place_of ns x) × (place_of ns x < length (cond b ns (ns ++ x ∷ [])))
    by_case true h = (refl, has_place ns x h)
    by_case false h =
        let none = no_place ns x h in
        (place_new ns x none ∙ sym none, omega (arith, none, length-append ns (x ∷ [])))

place_later : (ns later : List (List ℕ)) (x : List ℕ) → IsLonger (with_name ns x) later → (place_of later x ≡ place_of ns x) × (place_of ns x < length later)
place_later ns later x longer =
    let w = with_place ns x in
    let there : place_of (with_name ns x) x < length (with_name ns x) = subst (λ (n : ℕ). n < length (with_name ns x)) (sym w.0) w.1 in (
      ap (λ (l : List (List ℕ)). place_of l x) longer.is ∙ place_more (with_name ns x) longer.more x there ∙ w.0,
      subst (λ (l : List (List ℕ)). place_of ns x < length l) (sym longer.is) (let k = length-append (with_name ns x) longer.more in omega (arith, k, w.1)),
    )

pub slot_stands : (ns later : List (List ℕ)) (x : List ℕ) → IsLonger (with_name ns x) later → name_at later (place_of ns x) ≡ x
slot_stands ns later x longer =
    let p = place_later ns later x longer in
    ap (name_at later) (sym p.0) ∙ name_there later x (subst (λ (n : ℕ). n < length later) (sym p.0) p.1)

pub slot_has : (ns later : List (List ℕ)) (x : List ℕ) → IsLonger (with_name ns x) later → has_slot later x ≡ true
slot_has ns later x longer =
    let p = place_later ns later x longer in
    slot_is later x (subst (λ (n : ℕ). n < length later) (sym p.0) p.1)

with_longer : (ns : List (List ℕ)) (x : List ℕ) → IsLonger ns (with_name ns x)
with_longer ns x = by_case (has_slot ns x)
  where
    by_case : (b : Bool) → IsLonger ns (cond b ns (ns ++ x ∷ []))
    by_case true = record { more = []; is = sym (append-nil ns) }
    by_case false = record { more = x ∷ []; is = refl }

pub place_absent : (ns : List (List ℕ)) (x : List ℕ) → slot_for ns x ≡ None → place_of ns x ≡ length ns
place_absent ns x none = by_case (has_slot ns x) refl none
  where
    by_case : (b : Bool) → has_slot ns x ≡ b → cond b (Some (place_of ns x)) None ≡ None → place_of ns x ≡ length ns
    by_case true h e = cc
    by_case false h e = no_place ns x h

pub with_names-append : (ns xs ys : List (List ℕ)) → with_names ns (xs ++ ys) ≡ with_names (with_names ns xs) ys
with_names-append ns [] ys = refl
with_names-append ns (x ∷ xs) ys = with_names-append (with_name ns x) xs ys

pub with_names-longer : (ns xs : List (List ℕ)) → IsLonger ns (with_names ns xs)
with_names-longer ns [] = record { more = []; is = sym (append-nil ns) }
with_names-longer ns (x ∷ xs) = longer_on ns (with_name ns x) (with_names (with_name ns x) xs) (with_longer ns x) (with_names-longer (with_name ns x) xs)

-- names that came one after another
pub with_names-on : (a b c xs ys : List (List ℕ)) → b ≡ with_names a xs → c ≡ with_names b ys → c ≡ with_names a (xs ++ ys)
with_names-on a b c xs ys one other = other ∙ ap (λ (ns : List (List ℕ)). with_names ns ys) one ∙ sym (with_names-append a xs ys)

-- ---- parameters

among_names : (ns : List (List ℕ)) (x : List ℕ) → place_of ns x < length ns → is_among ns x ≡ true
among_names [] x lt = absurd (omega arith)
among_names (n ∷ ns) x lt = step (pointwise nat_eq n x) refl lt (among_names ns x)
  where
    step : (b : Bool) → pointwise nat_eq n x ≡ b → cond b 0 (suc (place_of ns x)) < suc (length ns) → (place_of ns x < length ns → is_among ns x ≡ true) → is_among (n ∷ ns) x ≡ true
    step true e h others = among_first _ _ (same_bytes x n (sym ((bytes_decides n x).0 e)))
    step false e h others = among_later _ _ (others (omega arith))

-- a parameter is new, so it comes behind those before it
pub param_more : (ps : List (List ℕ)) (i : ℕ) (x : List ℕ) (old new : List (List ℕ)) → HasOwnNames ps → i < length ps → x ≡ get_or ps i x → old ≡ take i ps → new ≡ with_name old x → new ≡ take (i + 1) ps
param_more ps i x old new own lt is front more = by_case (has_slot (take i ps) x) refl
  where
    by_case : (b : Bool) → has_slot (take i ps) x ≡ b → new ≡ take (i + 1) ps
    by_case true h = absurd (own i (x, slice_get_read ps (length ps) i x refl lt is, among_names (take i ps) x (has_place (take i ps) x h)))
    by_case false h =
        more ∙ ap (λ (ns : List (List ℕ)). with_name ns x) front ∙ ap (λ (b : Bool). cond b (take i ps) (take i ps ++ x ∷ [])) h
        ∙ sym (take_more ps i x lt ∙ ap (λ (y : List ℕ). take i ps ++ y ∷ []) (sym is))
