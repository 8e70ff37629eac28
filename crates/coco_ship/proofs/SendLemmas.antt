-- Letters in hand, one more at a time.
use Rattle.std.proofs.Common.{◌≡◌, ℕ, ◌+◌, ◌<◌, true, false, List, [], ◌∷◌, ◌++◌, Some, refl, sym, ap, ◌∙◌, subst, arith, inl, inr}
use Rattle.std.specs.List.{slice_get, Contains}
use Rattle.std.proofs.lemmas.Bool.{cases_lt}
use Rattle.std.proofs.lemmas.List.Elements.{Contains-append_left, Contains-push, Contains-push_cases}
use Rattle.coco_types.specs.declared.call.Piece.{Piece}
use Rattle.coco_msg.specs.Bytes.{IsMessage}
use Rattle.coco_net.specs.declared.letter.Posted.{Posted}
use Rattle.coco_ship.specs.declared.line.Line.{Line}
use Rattle.coco_ship.specs.declared.ring.Ring.{Ring}
use Rattle.coco_ship.specs.Placing.{table_of}
use Rattle.coco_ship.specs.Sets.{is_in}
use Rattle.coco_ship.specs.Letters.{ship_of}
use Rattle.coco_ship.specs.Sending.{Adds, ask_of, ShipsPiece}
use Rattle.coco_ship.proofs.Tables.{one_read}

pub adds_none : (xs : List Posted) (Kind : Posted → Type 0) → Adds xs xs Kind
adds_none xs Kind = record { stay = λ s h. h; only = λ s h. inl h }

pub adds_wider : (xs ys : List Posted) (K L : Posted → Type 0) → ((s : Posted) → K s → L s) → Adds xs ys K → Adds xs ys L
adds_wider xs ys K L wider adds = record { stay = adds.stay; only = λ s h. elim (adds.only s h) [ inl old ↦ inl old | inr new ↦ inr (wider s new) ] }

pub adds_push : (xs ys zs : List Posted) (s : Posted) (K : Posted → Type 0) → zs ≡ ys ++ s ∷ [] → K s → Adds xs ys K → Adds xs zs K
adds_push xs ys zs s K is kind adds = record {
  stay = λ r h. subst (λ l. Contains l r) (sym is) (Contains-append_left ys (s ∷ []) r (adds.stay r h));
  only = λ r h. elim (Contains-push_cases ys s r (subst (λ l. Contains l r) is h)) [ inl old ↦ adds.only r old | inr same ↦ inr (subst K same kind) ];
}

pub pushed_there : (ys zs : List Posted) (s : Posted) → zs ≡ ys ++ s ∷ [] → Contains zs s
pushed_there ys zs s is = subst (λ l. Contains l s) (sym is) (Contains-push ys s)

pub pushed_stays : (ys zs : List Posted) (s r : Posted) → zs ≡ ys ++ s ∷ [] → Contains ys r → Contains zs r
pushed_stays ys zs s r is h = subst (λ l. Contains l r) (sym is) (Contains-append_left ys (s ∷ []) r h)

pub ships_none : (ring : Ring) (epoch : ℕ) (x : Piece) (lines : List Line) (old : List Posted) → IsMessage (ship_of epoch x) → ShipsPiece ring epoch x lines 0 old old
ships_none ring epoch x lines old readable = record { readable = readable; added = adds_none old _; sent = λ j less. absurd (omega (arith, less)) }

-- the piece goes to one copy more
pub ships_more : (ring : Ring) (epoch : ℕ) (x : Piece) (lines : List Line) (n : ℕ) (old mid new : List Posted) → new ≡ mid ++ ask_of ring x.partition n (ship_of epoch x) ∷ []
    → ShipsPiece ring epoch x lines n old mid → ShipsPiece ring epoch x lines (n + 1) old new
ships_more ring epoch x lines n old mid new is ships = record {
  readable = ships.readable;
  added = adds_push old mid new (ask_of ring x.partition n (ship_of epoch x)) (λ s. (j : ℕ) × (j < n + 1) × (s ≡ ask_of ring x.partition j (ship_of epoch x))) is (n, omega arith, refl)
      (adds_wider old mid (λ s. (j : ℕ) × (j < n) × (s ≡ ask_of ring x.partition j (ship_of epoch x))) (λ s. (j : ℕ) × (j < n + 1) × (s ≡ ask_of ring x.partition j (ship_of epoch x))) (λ s h. (h.0, omega (arith, h.1), h.2)) ships.added);
  sent = λ j less line here waits lacks. elim (cases_lt j n) [
    | inl before ↦ pushed_stays mid new (ask_of ring x.partition n (ship_of epoch x)) (ask_of ring x.partition j (ship_of epoch x)) is (ships.sent j before line here waits lacks)
    | inr last ↦ let same : n ≡ j = omega (arith, less, last) in subst (λ j. Contains new (ask_of ring x.partition j (ship_of epoch x))) same (pushed_there mid new (ask_of ring x.partition n (ship_of epoch x)) is)
  ];
}

-- or it isn't needed there
pub ships_same : (ring : Ring) (epoch : ℕ) (x : Piece) (lines : List Line) (n : ℕ) (old mid : List Posted) (line : Line) → slice_get lines (table_of ring x.partition n) ≡ Some line
    → ((line.is_done ≡ false) → (is_in line.lacking x.place ≡ true) → ⊥) → ShipsPiece ring epoch x lines n old mid → ShipsPiece ring epoch x lines (n + 1) old mid
ships_same ring epoch x lines n old mid line here needless ships = record {
  readable = ships.readable;
  added = adds_wider old mid (λ s. (j : ℕ) × (j < n) × (s ≡ ask_of ring x.partition j (ship_of epoch x))) (λ s. (j : ℕ) × (j < n + 1) × (s ≡ ask_of ring x.partition j (ship_of epoch x))) (λ s h. (h.0, omega (arith, h.1), h.2)) ships.added;
  sent = λ j less other other_is waits lacks. elim (cases_lt j n) [
    | inl before ↦ ships.sent j before other other_is waits lacks
    | inr last ↦
        let same : j ≡ n = omega (arith, less, last) in
        let one : line ≡ other = one_read (slice_get lines (table_of ring x.partition n)) line other here (sym (ap (λ j. slice_get lines (table_of ring x.partition j)) same) ∙ other_is) in
        absurd (needless (ap (λ (z : Line). z.is_done) one ∙ waits) (ap (λ (z : Line). is_in z.lacking x.place) one ∙ lacks))
  ];
}
