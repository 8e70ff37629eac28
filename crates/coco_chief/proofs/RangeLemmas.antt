-- Ranges that rise: where an epoch is sought, and what adding one leaves.
use Rattle.std.proofs.Common.{◌≡◌, ℕ, zero, suc, ◌+◌, ◌-◌, subst, ◌<◌, ◌≤◌, Bool, true, false, ltb, leb, eqb, List, [], ◌∷◌, ◌++◌, length, get_or, refl, sym, ap, ◌∙◌, arith}
use Rattle.std.specs.Prelude.{◌&&◌, ◌||◌}
use Rattle.std.specs.List.{list_any, AllWithin}
use Rattle.std.specs.List.Sorted.{IsPartitionPoint, IsNonDecreasingBy}
use Rattle.std.proofs.lemmas.Bool.{ltb-true, ltb-false, lt-ltb, le-ltb, leb-false, le-leb, lt-leb}
use Rattle.std.proofs.lemmas.List.Folds.{list_any-append}
use Rattle.std.proofs.lemmas.Bool.Decides.{nat_tests}
use Rattle.coco_chief.specs.declared.ranges.Range.{Range}
use Rattle.coco_chief.specs.Ranges.{is_in, covers, end_of, AreRanges}

-- no range has an epoch before the first one
none_before : (low : ℕ) (rs : List Range) (e : ℕ) → AreRanges low rs → e < low → covers rs e ≡ false
none_before low [] e h lt = refl
none_before low (r ∷ rs) e h lt =
    let below : leb r.first e ≡ false = lt-leb r.first e (omega (arith, h.0)) in
    rw (below, none_before (suc r.last) rs e h.1.1 (omega (arith, h.0, h.1.0))) refl

-- the first range that ends at the epoch or behind it is the only one that may have it
pub covers_at : (low : ℕ) (rs : List Range) (e i : ℕ) (d : Range) → AreRanges low rs → IsPartitionPoint (λ r. ltb r.last e ≡ true) (λ r. ltb r.last e ≡ false) rs i → i < length rs
    → covers rs e ≡ leb (get_or rs i d).first e
covers_at low [] e i d h p lt = absurd (omega arith)
covers_at low (r ∷ rs) e zero d h p lt =
    let here : e ≤ r.last = ltb-false r.last e (p.1 0 d (omega arith) lt) in
    rw (none_before (suc r.last) rs e h.1.1 (omega arith), le-leb e r.last here) (first (leb r.first e))
  where
    first : (b : Bool) → (b && true || false) ≡ b
    first true = refl
    first false = refl
covers_at low (r ∷ rs) e (suc i) d h p lt =
    let past : leb e r.last ≡ false = lt-leb e r.last (ltb-true r.last e (p.0 0 d (omega arith) (omega arith))) in
    let rest : IsPartitionPoint (λ r. ltb r.last e ≡ true) (λ r. ltb r.last e ≡ false) rs i = (λ k y low high. p.0 (suc k) y (omega arith) (omega arith), λ k y low high. p.1 (suc k) y (omega arith) (omega arith)) in
    rw (past, covers_at (suc r.last) rs e i d h.1.1 rest (omega arith)) (neither (leb r.first e) (leb (get_or rs i d).first e))
  where
    neither : (a b : Bool) → ((a && false) || b) ≡ b
    neither true b = refl
    neither false b = refl

pub covers_none : (low : ℕ) (rs : List Range) (e i : ℕ) → AreRanges low rs → IsPartitionPoint (λ r. ltb r.last e ≡ true) (λ r. ltb r.last e ≡ false) rs i → length rs ≤ i → covers rs e ≡ false
covers_none low [] e i h p le = refl
covers_none low (r ∷ rs) e zero h p le = absurd (omega arith)
covers_none low (r ∷ rs) e (suc i) h p le =
    let past : leb e r.last ≡ false = lt-leb e r.last (ltb-true r.last e (p.0 0 r (omega arith) (omega arith))) in
    let rest : IsPartitionPoint (λ r. ltb r.last e ≡ true) (λ r. ltb r.last e ≡ false) rs i = (λ k y low high. p.0 (suc k) y (omega arith) (omega arith), λ k y low high. p.1 (suc k) y (omega arith) (omega arith)) in
    rw (past, covers_none (suc r.last) rs e i h.1.1 rest (omega arith)) (neither (leb r.first e))
  where
    neither : (a : Bool) → ((a && false) || false) ≡ false
    neither true = refl
    neither false = refl

-- ends don't fall
above : (low : ℕ) (rs : List Range) (j : ℕ) (d : Range) → AreRanges low rs → j < length rs → low ≤ (get_or rs j d).last
above low [] j d h lt = absurd (omega arith)
above low (r ∷ rs) zero d h lt = omega (arith, h.0, h.1.0)
above low (r ∷ rs) (suc j) d h lt = omega (arith, h.0, h.1.0, above (suc r.last) rs j d h.1.1 (omega arith))

pub ends_rise : (low : ℕ) (rs : List Range) → AreRanges low rs → IsNonDecreasingBy (λ (r : Range). r.last) rs
ends_rise low [] h i j d le lt = absurd (omega arith)
ends_rise low (r ∷ rs) h zero zero d le lt = omega arith
ends_rise low (r ∷ rs) h zero (suc j) d le lt = omega (arith, above (suc r.last) rs j d h.1.1 (omega arith))
ends_rise low (r ∷ rs) h (suc i) zero d le lt = absurd (omega arith)
ends_rise low (r ∷ rs) h (suc i) (suc j) d le lt = ends_rise (suc r.last) rs h.1.1 i j d (omega arith) (omega arith)

-- ---- a range at the end

-- where the next range may begin
abbrev next : ℕ → List Range → ℕ
next low [] = low
next low (r ∷ rs) = next (suc r.last) rs

pub AreRanges-push : (low : ℕ) (rs : List Range) (r : Range) → AreRanges low rs → next low rs ≤ r.first → r.first ≤ r.last → AreRanges low (rs ++ r ∷ [])
AreRanges-push low [] r h from whole = (from, (whole, tt))
AreRanges-push low (s ∷ rs) r h from whole = (h.0, (h.1.0, AreRanges-push (suc s.last) rs r h.1.1 from whole))

pub AreRanges-front : (low : ℕ) (rs : List Range) (r : Range) → AreRanges low (rs ++ r ∷ []) → AreRanges low rs × (next low rs ≤ r.first) × (r.first ≤ r.last)
AreRanges-front low [] r h = (tt, h.0, h.1.0)
AreRanges-front low (s ∷ rs) r h = let rest = AreRanges-front (suc s.last) rs r h.1.1 in ((h.0, (h.1.0, rest.0)), rest.1, rest.2)

pub next-push : (low : ℕ) (rs : List Range) (r : Range) → next low (rs ++ r ∷ []) ≡ suc r.last
next-push low [] r = refl
next-push low (s ∷ rs) r = next-push (suc s.last) rs r

pub end_of-push : (rs : List Range) (r : Range) → end_of (rs ++ r ∷ []) ≡ r.last
end_of-push [] r = refl
end_of-push (s ∷ []) r = refl
end_of-push (s ∷ t ∷ rs) r = end_of-push (t ∷ rs) r

-- ---- adding an epoch

-- a range with the epoch at its end has what it had and the epoch
is_in-longer : (first last e x : ℕ) → first ≤ last → last ≤ e → e ≤ last + 1 → (leb first x && leb x e) ≡ (eqb e x || (leb first x && leb x last))
is_in-longer first last e x whole le next = grind (arith, nat_tests)

is_in-alone : (e x : ℕ) → (leb e x && leb x e) ≡ eqb e x
is_in-alone e x = grind (arith, nat_tests)

or_swap : (a b c : Bool) → (a || ((b || c) || false)) ≡ (b || (a || (c || false)))
or_swap true true c = refl
or_swap true false c = refl
or_swap false true c = refl
or_swap false false c = refl

or_last : (a b : Bool) → (a || (b || false)) ≡ (b || a)
or_last true true = refl
or_last true false = refl
or_last false true = refl
or_last false false = refl

pub covers-longer : (front : List Range) (r longer : Range) (e x : ℕ) → longer.first ≡ r.first → longer.last ≡ e → r.first ≤ r.last → r.last ≤ e → e ≤ r.last + 1
    → covers (front ++ longer ∷ []) x ≡ (eqb e x || covers (front ++ r ∷ []) x)
covers-longer front r longer e x first last whole le next =
    rw (list_any-append (is_in x) front (longer ∷ []), list_any-append (is_in x) front (r ∷ []), first, last, is_in-longer r.first r.last e x whole le next) (or_swap (covers front x) (eqb e x) (is_in x r))

pub covers-alone : (front : List Range) (alone : Range) (e x : ℕ) → alone.first ≡ e → alone.last ≡ e → covers (front ++ alone ∷ []) x ≡ (eqb e x || covers front x)
covers-alone front alone e x first last =
    rw (list_any-append (is_in x) front (alone ∷ []), first, last, is_in-alone e x) (or_last (covers front x) (eqb e x))

-- what adding an epoch behind ranges leaves
pub record Adds (old new : List Range) (e : ℕ) : Type 0 where
  pub covers-is : (x : ℕ) → covers new x ≡ (eqb e x || covers old x)
  pub end-is : end_of new ≡ e
  pub ranges-are : AreRanges 0 new

pub adds_longer : (old front new : List Range) (r longer : Range) (e : ℕ) → old ≡ front ++ r ∷ [] → new ≡ front ++ longer ∷ [] → longer.first ≡ r.first → longer.last ≡ e → AreRanges 0 old → end_of old ≤ e → e - r.last ≤ 1
    → Adds old new e
adds_longer old front new r longer e was is first last ranges behind next =
    let parts = AreRanges-front 0 front r (subst (AreRanges 0) was ranges) in
    let le : r.last ≤ e = omega (arith, behind, ap end_of was, end_of-push front r) in
    record {
      covers-is = λ x. rw (is, was) (covers-longer front r longer e x first last parts.2 le (omega arith));
      end-is = rw is (end_of-push front longer ∙ last);
      ranges-are = rw is (AreRanges-push 0 front longer parts.0 (omega (arith, parts.1, first)) (omega (arith, parts.2, first, last)));
    }

pub adds_alone : (old front mid new : List Range) (r alone : Range) (e : ℕ) → old ≡ front ++ r ∷ [] → mid ≡ front ++ r ∷ [] → new ≡ mid ++ alone ∷ [] → alone.first ≡ e → alone.last ≡ e → AreRanges 0 old → 1 < e - r.last
    → Adds old new e
adds_alone old front mid new r alone e was between is first last ranges next =
    record {
      covers-is = λ x. rw (is, between, was) (covers-alone (front ++ r ∷ []) alone e x first last);
      end-is = rw is (end_of-push mid alone ∙ last);
      ranges-are = rw (is, between) (AreRanges-push 0 (front ++ r ∷ []) alone (subst (AreRanges 0) was ranges) (omega (arith, next-push 0 front r, first, next)) (omega (arith, first, last)));
    }

pub behind_last : (old front : List Range) (r : Range) (e : ℕ) → old ≡ front ++ r ∷ [] → end_of old ≤ e → r.last ≤ e
behind_last old front r e was behind = omega (arith, behind, ap end_of was, end_of-push front r)

pub end_of-last : (rs : List Range) (i : ℕ) (d : Range) → i + 1 ≡ length rs → end_of rs ≡ (get_or rs i d).last
end_of-last [] i d e = absurd (omega arith)
end_of-last (r ∷ []) zero d e = refl
end_of-last (r ∷ []) (suc i) d e = absurd (omega arith)
end_of-last (r ∷ s ∷ rs) zero d e = absurd (omega arith)
end_of-last (r ∷ s ∷ rs) (suc i) d e = end_of-last (s ∷ rs) i d (omega arith)
