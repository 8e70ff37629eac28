-- What the last seat tells.
use Rattle.std.proofs.Common.{◌≡◌, ℕ, zero, suc, ◌≤◌, ◌<◌, Bool, true, false, ◌||◌, leb, List, [], ◌∷◌, length, get_or, sum_by, refl, ap, ◌∙◌, subst, arith}
use Rattle.std.specs.Prelude.{All, Any, IsTrue}
use Rattle.std.specs.List.{list_any}
use Rattle.std.proofs.lemmas.Bool.Decides.{nat_tests}
use Rattle.std.proofs.lemmas.List.Sums.{sum_by-cons}
use Rattle.atomic_table.specs.Table.{Final, Seen}
use Rattle.coco_claim.specs.declared.hand.Plan.{Plan}
use Rattle.coco_claim.specs.declared.hand.Hand.{Hand}
use Rattle.coco_claim.specs.Numbers.{times}
use Rattle.coco_claim.specs.Seats.{Round, Drawer, has_ended, times_drawn}
use Rattle.coco_claim.specs.Drawing.{Claimed}
use Rattle.coco_claim.proofs.Counts.{times-at, times-cons, once_below-here, once_below-is}
use Rattle.coco_claim.proofs.Keeping.{whole}

pub none_drawn : (x : ℕ) (seats : List Drawer) → length seats ≡ 0 → times_drawn x seats ≡ 0
none_drawn x [] e = refl
none_drawn x (s ∷ seats) e = absurd (omega arith)

sum_at : (f : Drawer → ℕ) (xs : List Drawer) (k : ℕ) (d : Drawer) → k < length xs → f (get_or xs k d) ≤ sum_by f xs
sum_at f [] k d inside = absurd (omega arith)
sum_at f (x ∷ xs) zero d inside = let a = sum_by-cons f x xs in omega arith
sum_at f (x ∷ xs) (suc k) d inside = let a = sum_by-cons f x xs in let b = sum_at f xs k d (omega arith) in omega arith

-- what `or` says of its right side
or_right : (a b : Bool) → a ≡ false → (a || b) ≡ true → b ≡ true
or_right true b is e = absurd (cc)
or_right false b is e = e

counted_here : (y : ℕ) (xs : List ℕ) → 0 < times y (y ∷ xs)
counted_here y xs = times-at (y ∷ xs) 0 y (omega arith)

counted_later : (y x : ℕ) (xs : List ℕ) → 0 < times y xs → 0 < times y (x ∷ xs)
counted_later y x xs some = let a = times-cons y x xs in omega arith

-- a seat that ended drew some number of n or more
late_there : (n : ℕ) (xs : List ℕ) → list_any (λ x. leb n x) xs ≡ true → (y : ℕ) × (n ≤ y) × (0 < times y xs)
late_there n [] e = absurd (cc)
late_there n (x ∷ xs) e = by_front (leb n x) refl (λ is. late_there n xs (or_right (leb n x) (list_any (λ z. leb n z) xs) is e))
  where
    by_front : (b : Bool) → leb n x ≡ b → (leb n x ≡ false → (y : ℕ) × (n ≤ y) × (0 < times y xs)) → (y : ℕ) × (n ≤ y) × (0 < times y (x ∷ xs))
    by_front true is later = let above : n ≤ x = grind (arith, nat_tests) in (x, above, counted_here x xs)
    by_front false is later = let t = later is in (t.0, t.1, counted_later t.0 x xs t.2)

pub late_among : (r : Round) (seats : List Drawer) → All (λ (s : Drawer). s.claims ≡ r) seats → Any (λ (s : Drawer). IsTrue (has_ended s)) seats → (y : ℕ) × (r.n ≤ y) × (0 < times_drawn y seats)
late_among r seats same some =
    let k = some.0 in
    let s : Drawer = some.1 in
    let claims : s.claims ≡ r = subst (λ (d : Drawer). d.claims ≡ r) some.3 (same k s some.2) in
    let ended : has_ended s ≡ true = some.4 in
    let t = late_there s.claims.n s.drawn ended in
    let n : s.claims.n ≡ r.n = ap (λ (x : Round). x.n) claims in
    let here : times t.0 (get_or seats k s).drawn ≡ times t.0 s.drawn = ap (λ (d : Drawer). times t.0 d.drawn) some.3 in
    let a = sum_at (λ (d : Drawer). times t.0 d.drawn) seats k s some.2 in
    let b = t.1 in
    let d = t.2 in
    (t.0, omega arith, omega arith)

-- Where one view has all marks and a number of n or more, it has each number below n once
pub closes : (p : Plan) (words : List ℕ) (slots : List (Unit {0})) (id : ℕ) (v : Hand) → Final (Seen (Claimed p) id v) words slots → length v.marks ≡ p.seats
    → (y : ℕ) → p.n ≤ y → 0 < times y v.drawn → (x : ℕ) → x < p.n → times x v.drawn ≡ 1
closes p words slots id v end all y late drawn x below =
    let s = end.0 in
    let word = get_or s.words 1 0 in
    let seen = end.1 in
    let a = whole p s seen.0 id v seen.1 all y in
    let b : y < word = once_below-here word y (omega arith) in
    whole p s seen.0 id v seen.1 all x ∙ once_below-is word x (omega arith)
