-- What primaries ask, one copy, piece or partition more at a time.
use Rattle.std.proofs.Common.{◌≡◌, ℕ, ◌+◌, ◌<◌, true, false, List, [], ◌∷◌, ◌++◌, length, take, get_or, Some, refl, sym, ap, ◌∙◌, subst, arith, inl, inr, ◌⊎◌}
use Rattle.std.specs.List.{slice_get, All, Contains}
use Rattle.std.proofs.lemmas.Bool.{cases_lt}
use Rattle.std.proofs.lemmas.List.{take_more}
use Rattle.std.proofs.lemmas.List.Elements.{All-contains, Contains-get_or, Contains-push_cases}
use Rattle.coco_types.specs.declared.call.Piece.{Piece}
use Rattle.coco_msg.specs.declared.message.Message.TheVariants.{Total}
use Rattle.coco_msg.specs.Bytes.{IsMessage}
use Rattle.coco_net.specs.declared.letter.Posted.{Posted}
use Rattle.coco_ship.specs.declared.line.Line.{Line}
use Rattle.coco_ship.specs.declared.ring.Ring.{Ring}
use Rattle.coco_ship.specs.Placing.{table_of, IsCopy}
use Rattle.coco_ship.specs.Sets.{is_in}
use Rattle.coco_ship.specs.Letters.{ship_of}
use Rattle.coco_ship.specs.Pieces.{IsOf}
use Rattle.coco_ship.specs.Sending.{ask_of, AreAsks, ShipsPiece, TellsTotals}
use Rattle.coco_ship.proofs.SendLemmas.{adds_none, adds_push, adds_wider, pushed_stays, pushed_there}
use Rattle.coco_ship.proofs.Tables.{one_read}

-- ---- the copies of one partition are told the places

abbrev IsTold : Ring → ℕ → ℕ → List Line → ℕ → Posted → Type 0
IsTold ring epoch p lines n s = (j : ℕ) × (j < n) × ((line : Line) × (slice_get lines (table_of ring p j) ≡ Some line) × (s ≡ ask_of ring p j (Total epoch p line.all)) × IsMessage (Total epoch p line.all))

pub tells_none : (ring : Ring) (epoch p : ℕ) (lines : List Line) (old : List Posted) → TellsTotals ring epoch p lines 0 old old
tells_none ring epoch p lines old = record { added = adds_none old (IsTold ring epoch p lines 0); sent = λ j less. absurd (omega (arith, less)) }

told_wider : (ring : Ring) (epoch p : ℕ) (lines : List Line) (n : ℕ) (s : Posted) → IsTold ring epoch p lines n s → IsTold ring epoch p lines (n + 1) s
told_wider ring epoch p lines n s h = let less : h.0 < n = h.1 in (h.0, omega (arith, less), h.2)

pub tells_more : (ring : Ring) (epoch p : ℕ) (lines : List Line) (n : ℕ) (old mid new : List Posted) (line : Line) → slice_get lines (table_of ring p n) ≡ Some line
    → new ≡ mid ++ ask_of ring p n (Total epoch p line.all) ∷ [] → IsMessage (Total epoch p line.all) → TellsTotals ring epoch p lines n old mid → TellsTotals ring epoch p lines (n + 1) old new
tells_more ring epoch p lines n old mid new line here is readable tells =
    let s : Posted = ask_of ring p n (Total epoch p line.all) in
    record {
      added = adds_push old mid new s (IsTold ring epoch p lines (n + 1)) is (n, omega arith, (line, here, refl, readable))
          (adds_wider old mid (IsTold ring epoch p lines n) (IsTold ring epoch p lines (n + 1)) (told_wider ring epoch p lines n) tells.added);
      sent = λ j less other other_is waits. elim (cases_lt j n) [
        | inl before ↦ let by = tells.sent j before other other_is waits in (pushed_stays mid new s (ask_of ring p j (Total epoch p other.all)) is by.0, by.1)
        | inr last ↦
            let same : n ≡ j = omega (arith, less, last) in
            let one : line ≡ other = one_read (slice_get lines (table_of ring p n)) line other here (ap (λ j. slice_get lines (table_of ring p j)) same ∙ other_is) in
            (subst (λ j. Contains new (ask_of ring p j (Total epoch p other.all))) same (subst (λ (z : Line). Contains new (ask_of ring p n (Total epoch p z.all))) one (pushed_there mid new s is)), subst (λ (z : Line). IsMessage (Total epoch p z.all)) one readable)
      ];
    }

-- or one is done
pub tells_same : (ring : Ring) (epoch p : ℕ) (lines : List Line) (n : ℕ) (old mid : List Posted) (line : Line) → slice_get lines (table_of ring p n) ≡ Some line
    → line.is_done ≡ true → TellsTotals ring epoch p lines n old mid → TellsTotals ring epoch p lines (n + 1) old mid
tells_same ring epoch p lines n old mid line here done tells = record {
  added = adds_wider old mid (IsTold ring epoch p lines n) (IsTold ring epoch p lines (n + 1)) (told_wider ring epoch p lines n) tells.added;
  sent = λ j less other other_is waits. elim (cases_lt j n) [
    | inl before ↦ tells.sent j before other other_is waits
    | inr last ↦
        let same : n ≡ j = omega (arith, less, last) in
        let one : line ≡ other = one_read (slice_get lines (table_of ring p n)) line other here (ap (λ j. slice_get lines (table_of ring p j)) same ∙ other_is) in
        absurd (two_sides (sym done ∙ ap (λ (z : Line). z.is_done) one ∙ waits))
  ];
}
  where
    two_sides : true ≡ false → ⊥
    two_sides h = cc

-- ---- all pieces, and then all partitions

-- The pieces so far were shipped.
pub record AreShips (ring : Ring) (epoch : ℕ) (pieces so_far : List Piece) (lines : List Line) (letters : List Posted) : Type 0 where
  pub only : (s : Posted) → Contains letters s → (x : Piece) × (j : ℕ) × Contains pieces x × (j < ring.copies) × (s ≡ ask_of ring x.partition j (ship_of epoch x))
  pub readable : (x : Piece) → Contains so_far x → IsMessage (ship_of epoch x)
  pub ships : (x : Piece) → Contains so_far x → (j : ℕ) → j < ring.copies → (line : Line) → slice_get lines (table_of ring x.partition j) ≡ Some line → line.is_done ≡ false → is_in line.lacking x.place ≡ true
      → Contains letters (ask_of ring x.partition j (ship_of epoch x))

pub ships_nothing : (ring : Ring) (epoch : ℕ) (pieces : List Piece) (lines : List Line) → AreShips ring epoch pieces [] lines []
ships_nothing ring epoch pieces lines = record { only = λ s h. absurd (omega (arith, h.1)); readable = λ x h. absurd (omega (arith, h.1)); ships = λ x h. absurd (omega (arith, h.1)) }

ships_then : (ring : Ring) (epoch : ℕ) (pieces so_far : List Piece) (x : Piece) (lines : List Line) (old new : List Posted) → Contains pieces x → ShipsPiece ring epoch x lines ring.copies old new
    → AreShips ring epoch pieces so_far lines old → AreShips ring epoch pieces (so_far ++ x ∷ []) lines new
ships_then ring epoch pieces so_far x lines old new among one before = record {
  only = λ s h. elim (one.added.only s h) [
    | inl had ↦ before.only s had
    | inr by ↦ (x, by.0, among, by.1, by.2)
  ];
  readable = λ y h. elim (Contains-push_cases so_far x y h) [
    | inl early ↦ before.readable y early
    | inr last ↦ subst (λ (z : Piece). IsMessage (ship_of epoch z)) last one.readable
  ];
  ships = λ y h j less line here waits lacks. elim (Contains-push_cases so_far x y h) [
    | inl early ↦ one.added.stay (ask_of ring y.partition j (ship_of epoch y)) (before.ships y early j less line here waits lacks)
    | inr last ↦ subst (λ (z : Piece). slice_get lines (table_of ring z.partition j) ≡ Some line → is_in line.lacking z.place ≡ true → Contains new (ask_of ring z.partition j (ship_of epoch z))) last
        (λ here lacks. one.sent j less line here waits lacks) here lacks
  ];
}

pub ships_next : (ring : Ring) (epoch : ℕ) (pieces : List Piece) (i : ℕ) (x : Piece) (lines : List Line) (old new : List Posted) → i < length pieces → x ≡ get_or pieces i x → ShipsPiece ring epoch x lines ring.copies old new
    → AreShips ring epoch pieces (take i pieces) lines old → AreShips ring epoch pieces (take (i + 1) pieces) lines new
ships_next ring epoch pieces i x lines old new h is one before =
    subst (λ ps. AreShips ring epoch pieces ps lines new) (sym (take_more pieces i x h ∙ ap (λ y. take i pieces ++ y ∷ []) (sym is)))
    (ships_then ring epoch pieces (take i pieces) x lines old new (subst (Contains pieces) (sym is) (Contains-get_or pieces i x h)) one before)

-- All pieces were shipped, and the copies of the first partitions were told their places.
pub record AreAskedTo (ring : Ring) (epoch : ℕ) (pieces : List Piece) (lines : List Line) (count : ℕ) (letters : List Posted) : Type 0 where
  pub only : (s : Posted) → Contains letters s → (p : ℕ) × (j : ℕ) × IsCopy ring p j
      × (((x : Piece) × IsOf pieces p x × (s ≡ ask_of ring p j (ship_of epoch x))) ⊎ ((line : Line) × (slice_get lines (table_of ring p j) ≡ Some line) × (s ≡ ask_of ring p j (Total epoch p line.all)) × IsMessage (Total epoch p line.all)))
  pub readable : (x : Piece) → Contains pieces x → IsMessage (ship_of epoch x)
  pub ships : (p j : ℕ) → IsCopy ring p j → (line : Line) → slice_get lines (table_of ring p j) ≡ Some line → line.is_done ≡ false
      → (x : Piece) → IsOf pieces p x → is_in line.lacking x.place ≡ true → Contains letters (ask_of ring p j (ship_of epoch x))
  pub totals : (p j : ℕ) → p < count → IsCopy ring p j → (line : Line) → slice_get lines (table_of ring p j) ≡ Some line → line.is_done ≡ false
      → Contains letters (ask_of ring p j (Total epoch p line.all)) × IsMessage (Total epoch p line.all)

pub asked_none : (ring : Ring) (epoch : ℕ) (pieces : List Piece) (lines : List Line) (letters : List Posted) → All (λ x. x.partition < ring.partitions) pieces
    → AreShips ring epoch pieces pieces lines letters → AreAskedTo ring epoch pieces lines 0 letters
asked_none ring epoch pieces lines letters within ships = record {
  only = λ s h.
      let by = ships.only s h in
      let x : Piece = by.0 in
      (x.partition, by.1, record { partition = All-contains (λ x. x.partition < ring.partitions) pieces x within by.2; copy = by.3 }, inl (x, record { among = by.2; partition = refl }, by.4));
  readable = ships.readable;
  ships = λ p j copy line here waits x of lacks.
      subst (λ q. Contains letters (ask_of ring q j (ship_of epoch x))) of.partition (ships.ships x of.among j copy.copy line (ap (λ q. slice_get lines (table_of ring q j)) of.partition ∙ here) waits lacks);
  totals = λ p j less. absurd (omega (arith, less));
}

pub asked_more : (ring : Ring) (epoch : ℕ) (pieces : List Piece) (lines : List Line) (q : ℕ) (old new : List Posted) → q < ring.partitions → TellsTotals ring epoch q lines ring.copies old new
    → AreAskedTo ring epoch pieces lines q old → AreAskedTo ring epoch pieces lines (q + 1) new
asked_more ring epoch pieces lines q old new within tells before = record {
  only = λ s h. elim (tells.added.only s h) [
    | inl had ↦ before.only s had
    | inr by ↦ (q, by.0, record { partition = within; copy = by.1 }, inr by.2)
  ];
  readable = before.readable;
  ships = λ p j copy line here waits x of lacks. tells.added.stay (ask_of ring p j (ship_of epoch x)) (before.ships p j copy line here waits x of lacks);
  totals = λ p j less copy line here waits. elim (cases_lt p q) [
    | inl early ↦ let by = before.totals p j early copy line here waits in (tells.added.stay (ask_of ring p j (Total epoch p line.all)) by.0, by.1)
    | inr last ↦
        let same : q ≡ p = omega (arith, less, last) in
        subst (λ p. slice_get lines (table_of ring p j) ≡ Some line → Contains new (ask_of ring p j (Total epoch p line.all)) × IsMessage (Total epoch p line.all)) same (λ here. tells.sent j copy.copy line here waits) here
  ];
}

pub asked_all : (ring : Ring) (epoch : ℕ) (pieces : List Piece) (lines : List Line) (letters : List Posted) → AreAskedTo ring epoch pieces lines ring.partitions letters → AreAsks ring epoch pieces lines letters
asked_all ring epoch pieces lines letters asked = record { only = asked.only; readable = asked.readable; ships = asked.ships; totals = λ p j copy. asked.totals p j copy.partition copy }
