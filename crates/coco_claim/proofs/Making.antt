-- How the first seat gives its marks away.
use Rattle.std.proofs.Common.{◌≡◌, ℕ, suc, ◌+◌, ◌-◌, ◌<◌, arith, false, leb, List, [], ◌∷◌, ◌++◌, length, map, get_or, sym, ap, ◌∙◌}
use Rattle.std.specs.Prelude.{All}
use Rattle.std.specs.List.{list_any, range_with_len}
use Rattle.std.proofs.lemmas.List.FromFn.{map-range_with_len_more, length-map-range_with_len, get_or-map-range_with_len}
use Rattle.atomic_table.specs.Seated.{TableId}
use Rattle.atomic_table.specs.declared.shared.Seat.{Seat}
use Rattle.coco_claim.specs.declared.hand.Plan.{Plan}
use Rattle.coco_claim.specs.declared.hand.Hand.{Hand}
use Rattle.coco_claim.specs.Seats.{Round, Drawer, new_seats}
use Rattle.coco_claim.specs.Sitting.{drawer_of, Sits}
use Rattle.coco_claim.specs.Drawing.{Sat, less_a_mark, one_mark}

-- the marks from k on, n of them, and no number
abbrev pub marked : Plan → ℕ → ℕ → Hand
marked p k n = record { plan = p; marks = range_with_len k n; drawn = [] }

-- a seat as it is made
abbrev pub new_seat : TableId → Plan → ℕ → Drawer
new_seat t p k = record { claims = record { table = t; n = p.n; seats = p.seats }; mark = k; drawn = [] }

abbrev new_of : Round → ℕ → Drawer
new_of r = λ mark. record { claims = r; mark = mark; drawn = [] }

-- the first seat gives the mark k away, of all from k up to n
pub kept : (m : Sat) (p : Plan) (k n : ℕ) → k < n → m ≡ (marked p k (n - k), []) → ◌≡◌ {A = Sat} (less_a_mark m.0, m.1) (marked p (k + 1) (n - (k + 1)), [])
kept m p k n more is =
    let e : n - k ≡ suc (n - (k + 1)) = omega arith in
    let s : Sat → Sat = λ x. (less_a_mark x.0, x.1) in
    let h : ℕ → Sat = λ r. (marked p k r, []) in
    ap s (is ∙ ap h e)

pub given : (m : Sat) (p : Plan) (k n : ℕ) → k < n → m ≡ (marked p k (n - k), []) → one_mark m.0 ≡ marked p k 1
given m p k n more is =
    let e : n - k ≡ suc (n - (k + 1)) = omega arith in
    let h : ℕ → Sat = λ r. (marked p k r, []) in
    ap (λ (x : Sat). one_mark x.0) (is ∙ ap h e)

pub sits : (s : Seat (Unit {0}) Hand) (p : Plan) (k : ℕ) → s.me.0 ≡ marked p k 1 → s.me.1 ≡ [] → Sits s false
sits s p k is empty = record {
  free = empty;
  one = let e : s.me.0.marks ≡ k ∷ [] = ap (λ (v : Hand). v.marks) is in e ∙ ap (λ (xs : List ℕ). get_or xs 0 0 ∷ []) (sym e);
  flag = sym (ap (λ (xs : List ℕ). list_any (λ x. leb s.me.0.plan.n x) xs) (ap (λ (v : Hand). v.drawn) is));
}

pub drawer_made : (s : Seat (Unit {0}) Hand) (t : TableId) (p : Plan) (k : ℕ) → s.table_id ≡ t → s.me.0 ≡ marked p k 1 → drawer_of s ≡ new_seat t p k
drawer_made s t p k at is i = record {
  claims = record { table = at i; n = (is i).plan.n; seats = (is i).plan.seats };
  mark = get_or (is i).marks 0 0;
  drawn = (is i).drawn;
}

pub joined_row : (row : List Drawer) (t : TableId) (p : Plan) (k : ℕ) (d : Drawer) → row ≡ map (new_seat t p) (range_with_len 0 k) → d ≡ new_seat t p k → row ++ d ∷ [] ≡ map (new_seat t p) (range_with_len 0 (k + 1))
joined_row row t p k d is last = ap (λ (ds : List Drawer). ds ++ d ∷ []) is ∙ ap (λ (x : Drawer). map (new_seat t p) (range_with_len 0 k) ++ x ∷ []) last ∙ sym (map-range_with_len_more (new_seat t p) 0 k k (omega arith))

pub length-new_seats : (r : Round) → length (new_seats r) ≡ r.seats
length-new_seats r = length-map-range_with_len (new_of r) 0 r.seats

pub new_seats-own : (r : Round) → All (λ (s : Drawer). s.claims ≡ r) (new_seats r)
new_seats-own r k d inside =
    let fits : k < r.seats = omega (arith, length-new_seats r) in
    ap (λ (s : Drawer). s.claims) (get_or-map-range_with_len (new_of r) 0 r.seats k k d fits (omega arith))
