-- Seats as they are made, and a draw, by what its call says.
use Rattle.std.proofs.Common.{◌≡◌, ℕ, zero, suc, ◌+◌, ◌≤◌, All, map, length, Bool, true, false, ◌||◌, nat_le, MatchBool, List, [], ◌∷◌, ◌++◌, refl, sym, ap, ◌∙◌}
use Rattle.std.specs.List.{list_any, range_with_len}
use Rattle.std.proofs.lemmas.Bool.{leb-true}
use Rattle.std.proofs.lemmas.List.{length-map}
use Rattle.std.proofs.lemmas.List.Elements.{All-map}
use Rattle.coco_claim.specs.Seats.{Drawer, Draws, Round, has_ended, new_seats}

-- the number that ends a seat is n or greater
pub any_last : (n : ℕ) (xs : List ℕ) (x : ℕ) → list_any (λ y. nat_le n y) xs ≡ false → list_any (λ y. nat_le n y) (xs ++ x ∷ []) ≡ true → n ≤ x
any_last n [] x none any = or_last (nat_le n x) refl
  where
    or_last : (b : Bool) → nat_le n x ≡ b → n ≤ x
    or_last true is = leb-true n x is
    or_last false is = absurd (let h : false ≡ true = sym (ap (λ b. b || false) is) ∙ any in cc)
any_last n (y ∷ xs) x none any = by_first (any_last n xs x) (nat_le n y) refl
  where
    by_first : (list_any (λ y. nat_le n y) xs ≡ false → list_any (λ y. nat_le n y) (xs ++ x ∷ []) ≡ true → n ≤ x) → (b : Bool) → nat_le n y ≡ b → n ≤ x
    by_first rest true is = absurd (let h : true ≡ false = sym (ap (λ b. b || list_any (λ y. nat_le n y) xs) is) ∙ none in cc)
    by_first rest false is = rest (sym (ap (λ b. b || list_any (λ y. nat_le n y) xs) is) ∙ none) (sym (ap (λ b. b || list_any (λ y. nat_le n y) (xs ++ x ∷ [])) is) ∙ any)

-- the draw that gives this number
pub drew : (old new : Drawer) (x : ℕ) → MatchBool (has_ended old) (new ≡ old) (Draws old new) → new.drawn ≡ old.drawn ++ x ∷ [] → new ≡ record old { drawn = old.drawn ++ x ∷ [] }
drew old new x draws drawn = by_end (has_ended old) draws
  where
    by_end : (b : Bool) → MatchBool b (new ≡ old) (Draws old new) → new ≡ record old { drawn = old.drawn ++ x ∷ [] }
    by_end true same = ap (λ (d : Drawer). record d { drawn = new.drawn }) same ∙ ap (λ (xs : List ℕ). record old { drawn = xs }) drawn
    by_end false more = more.1 ∙ ap (λ (xs : List ℕ). record old { drawn = xs }) (sym (ap (λ (d : Drawer). d.drawn) more.1) ∙ drawn)

-- it leaves the claims
pub same_claims : (old seat new : Drawer) (x : ℕ) (claims : Round) → new ≡ seat → seat ≡ record old { drawn = old.drawn ++ x ∷ [] } → old.claims ≡ claims → new.claims ≡ claims
same_claims old seat new x claims kept draws is = ap (λ (d : Drawer). d.claims) (kept ∙ draws) ∙ is

-- ---- new seats

-- a seat that drew nothing
pub record IsFresh (claims : Round) (seat : Drawer) : Type 0 where
  pub of : seat.claims ≡ claims
  pub drawn : seat.drawn ≡ []

pub fresh_seats : (claims : Round) → All (IsFresh claims) (new_seats claims)
fresh_seats claims = All-map (IsFresh claims) (λ (mark : ℕ). let seat : Drawer = record { claims = claims; mark = mark; drawn = [] } in seat) (range_with_len 0 claims.seats) (λ k d lt. record { of = refl; drawn = refl })

pub seats_count : (claims : Round) → length (new_seats claims) ≡ claims.seats
seats_count claims = length-map (range_with_len 0 claims.seats) (λ (mark : ℕ). let seat : Drawer = record { claims = claims; mark = mark; drawn = [] } in seat) ∙ ranged 0 claims.seats
  where
    ranged : (first count : ℕ) → length (range_with_len first count) ≡ count
    ranged first zero = refl
    ranged first (suc count) = ap suc (ranged (first + 1) count)
