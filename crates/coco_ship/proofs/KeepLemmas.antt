-- Honest letters keep lines and tables as they are to be.
use Rattle.std.proofs.Common.{◌≡◌, ℕ, true, List, Some, refl, sym, subst, inl, inr}
use Rattle.std.specs.List.{slice_get}
use Rattle.std.specs.Option.{MatchOption}
use Rattle.coco_types.specs.declared.call.Piece.{Piece}
use Rattle.coco_msg.specs.declared.message.Message.TheVariants.{Total, Missing, All}
use Rattle.coco_net.specs.declared.letter.Posted.{Posted}
use Rattle.coco_copy.specs.CopyState.{CopyState}
use Rattle.coco_ship.specs.declared.line.Line.{Line}
use Rattle.coco_ship.specs.declared.ring.Ring.{Ring}
use Rattle.coco_ship.specs.Placing.{holder_of, table_of, IsCopy}
use Rattle.coco_ship.specs.Pieces.{covers, AreShippable, IsOf}
use Rattle.coco_ship.specs.Letters.{posted_of, ship_of}
use Rattle.coco_ship.specs.Sending.{reply_of}
use Rattle.coco_ship.specs.Lines.{AreLines, ArePlacesOf, IsLine}
use Rattle.coco_ship.specs.Going.{AreHonest, AreThere}
use Rattle.coco_ship.specs.Taking.{Hears, OfBoth}
use Rattle.coco_ship.proofs.PutLemmas.{covers_grows}

pub line_kept : (ring : Ring) (epoch : ℕ) (pieces : List Piece) (lines : List Line) (posts : List Posted) (p j : ℕ) (l : Line) (t : CopyState) (m : Line) (u : CopyState)
    → AreShippable ring pieces → IsCopy ring p j → slice_get lines (table_of ring p j) ≡ Some l → AreHonest ring epoch pieces lines posts
    → IsLine pieces p l t → Hears ring epoch posts p j l t m u → IsLine pieces p m u
line_kept ring epoch pieces lines posts p j l t m u fit copy here honest line hears = record {
  there = λ x of h. elim (hears.there x.place h) [
    | inl old ↦ covers_grows t u hears.grows x.time x.writes (line.there x of old)
    | inr by ↦
        let y : Piece = by.1 in
        let among : IsOf pieces y.partition y = honest (posted_of by.0 (holder_of ring p j) (ship_of epoch y)) (ship_of epoch y) by.2 by.6 refl refl in
        let y_of : IsOf pieces p y = record { among = among.among; partition = by.3 } in
        subst (λ (z : Piece). covers u z.time z.writes ≡ true) (fit.one_piece p y x y_of of by.4) by.5
  ];
  total = elim hears.total [
    | inl same ↦ subst (λ o. MatchOption o (Unit {0}) (ArePlacesOf pieces p)) (sym same) line.total
    | inr by ↦ subst (λ o. MatchOption o (Unit {0}) (ArePlacesOf pieces p)) (sym by.3)
        (honest (posted_of by.0 (holder_of ring p j) (Total epoch p by.1)) (Total epoch p by.1) by.2 by.4 refl refl)
  ];
  all = subst (λ (s : List ℕ). ArePlacesOf pieces p s) (sym hears.all) line.all;
  lacking = λ x of h. hears.there_stays x.place (elim (hears.lacking x.place h) [
    | inl old ↦ line.lacking x of old
    | inr by ↦ honest (reply_of ring p j (Missing epoch p by.0)) (Missing epoch p by.0) by.1 by.3 refl refl j copy refl l here x of by.2
  ]);
  done = λ h x of. hears.there_stays x.place (elim (hears.done h) [
    | inl old ↦ line.done old x of
    | inr by ↦ honest (reply_of ring p j (All epoch p)) (All epoch p) by.0 by.1 refl refl j copy refl l here x of refl
  ]);
}

-- the lines after letters that are honest
pub lines_kept : (ring : Ring) (epoch : ℕ) (pieces : List Piece) (posts : List Posted) (ls : List Line) (ts : List CopyState) (ms : List Line) (us : List CopyState)
    → AreShippable ring pieces → AreHonest ring epoch pieces ls posts → AreLines ring pieces ls ts
    → ((p j : ℕ) → IsCopy ring p j → (l : Line) × (slice_get ls (table_of ring p j) ≡ Some l))
    → ((p j : ℕ) → IsCopy ring p j → (t : CopyState) × (slice_get ts (table_of ring p j) ≡ Some t))
    → OfBoth ring (Hears ring epoch posts) ls ts ms us → AreLines ring pieces ms us
lines_kept ring epoch pieces posts ls ts ms us fit honest lines line_at table_at hears p j copy m u m_is u_is =
    let l = line_at p j copy in
    let t = table_at p j copy in
    line_kept ring epoch pieces ls posts p j l.0 t.0 m u fit copy l.1 honest (lines p j copy l.0 t.0 l.1 t.1) (hears p j copy l.0 t.0 m u l.1 t.1 m_is u_is)

-- and letters that were honest are so still
pub honest_kept : (ring : Ring) (epoch : ℕ) (pieces : List Piece) (posts sent : List Posted) (ls : List Line) (ts : List CopyState) (ms : List Line) (us : List CopyState)
    → ((p j : ℕ) → IsCopy ring p j → (l : Line) × (slice_get ls (table_of ring p j) ≡ Some l))
    → ((p j : ℕ) → IsCopy ring p j → (t : CopyState) × (slice_get ts (table_of ring p j) ≡ Some t))
    → ((p j : ℕ) → IsCopy ring p j → (t : CopyState) × (slice_get us (table_of ring p j) ≡ Some t))
    → OfBoth ring (Hears ring epoch posts) ls ts ms us → (from p : ℕ) (places : List ℕ) → AreThere ring pieces ls from p places → AreThere ring pieces ms from p places
honest_kept ring epoch pieces posts sent ls ts ms us line_at table_at after hears from p places there j copy holds m m_is x of out =
    let l = line_at p j copy in
    let t = table_at p j copy in
    let u = after p j copy in
    (hears p j copy l.0 t.0 m u.0 l.1 t.1 m_is u.1).there_stays x.place (there j copy holds l.0 l.1 x of out)
