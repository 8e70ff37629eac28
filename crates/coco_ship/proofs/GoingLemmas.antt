-- What is asked and answered is honest, and an exchange without a fault ends the phase.
use Rattle.std.proofs.Common.{◌≡◌, ℕ, ◌*◌, ◌==◌, ◌||◌, Bool, true, false, cond, is_some, List, [], ◌∷◌, ◌++◌, length, Some, refl, sym, ap, ◌∙◌, subst, arith, inl, inr}
use Rattle.std.specs.List.{slice_get, All as Each, Contains}
use Rattle.std.specs.Option.{option_map, MatchOption}
use Rattle.std.proofs.lemmas.Bool.{eqb-true, eq-eqb}
use Rattle.std.proofs.lemmas.List.Elements.{All-contains, Contains-append_cases}
use Rattle.coco_types.specs.declared.call.Piece.{Piece}
use Rattle.coco_msg.specs.declared.message.Message.{Message}
use Rattle.coco_msg.specs.declared.message.Message.TheVariants.{Ship, Total, Missing, All}
use Rattle.coco_net.specs.declared.letter.Posted.{Posted}
use Rattle.coco_copy.specs.CopyState.{CopyState}
use Rattle.coco_ship.specs.declared.line.Line.{Line}
use Rattle.coco_ship.specs.declared.ring.Ring.{Ring}
use Rattle.coco_ship.specs.Placing.{holder_of, primary_of, table_of, IsCopy, IsRing}
use Rattle.coco_ship.specs.Sets.{is_in, Misses}
use Rattle.coco_ship.specs.Pieces.{IsOf}
use Rattle.coco_ship.specs.Letters.{ship_of}
use Rattle.coco_ship.specs.Lines.{answered, AreLines, ArePlacesOf, IsLine}
use Rattle.coco_ship.specs.Sending.{answer_of, ask_of, AreAnswers, AreAsks, IsAnswer}
use Rattle.coco_ship.specs.Going.{AreHonest, AreThere, IsHonest}
use Rattle.coco_ship.specs.Taking.{Hears}
use Rattle.coco_ship.proofs.HearLemmas.{one_message}
use Rattle.coco_ship.proofs.ManyLemmas.{item_at}
use Rattle.coco_ship.proofs.SetLemmas.{itself}
use Rattle.coco_ship.proofs.Tables.{holders_apart, one_read}

two_sides : true ≡ false → ⊥
two_sides h = cc

-- ---- what is asked

pub asks_honest : (ring : Ring) (epoch : ℕ) (pieces : List Piece) (lines : List Line) (tables : List CopyState) (letters : List Posted) → length tables ≡ ring.partitions * ring.copies → AreLines ring pieces lines tables
    → AreAsks ring epoch pieces lines letters → AreHonest ring epoch pieces lines letters
asks_honest ring epoch pieces lines tables letters count are_lines asks s m has is bytes =
    let by = asks.only s has in
    let p : ℕ = by.0 in
    let j : ℕ = by.1 in
    elim by.3 [
      | inl ships ↦
          let x : Piece = ships.0 in
          let one : m ≡ ship_of epoch x = one_message s.letter.bytes m (ship_of epoch x) is (asks.readable x ships.1.among) bytes (ap (λ (z : Posted). z.letter.bytes) ships.2) in
          subst (IsHonest ring epoch pieces lines s.letter.from) (sym one) (λ _. record { among = ships.1.among; partition = refl })
      | inr tells ↦
          let line : Line = tells.0 in
          let table = item_at ring tables count p j by.2 in
          let one : m ≡ Total epoch p line.all = one_message s.letter.bytes m (Total epoch p line.all) is tells.3 bytes (ap (λ (z : Posted). z.letter.bytes) tells.2) in
          subst (IsHonest ring epoch pieces lines s.letter.from) (sym one) (λ _. (are_lines p j by.2 line table.0 tells.1 table.1).all)
    ]

-- ---- what is answered

no_places : (set : List ℕ) (q : ℕ) → length set ≡ 0 → is_in set q ≡ false
no_places set q none = of set none
  where
    of : (ks : List ℕ) → length ks ≡ 0 → is_in ks q ≡ false
    of [] e = refl
    of (k ∷ ks) e = absurd (omega (arith, e))

-- the places that this answer leaves out are there
left_there : (pieces : List Piece) (p : ℕ) (line : Line) (table : CopyState) (total : List ℕ) (missing : List ℕ) → IsLine pieces p line table → line.total ≡ Some total → Misses line.there total missing
    → (x : Piece) → IsOf pieces p x → is_in missing x.place ≡ false → is_in line.there x.place ≡ true
left_there pieces p line table total missing is told misses x of out =
    let names : ArePlacesOf pieces p total = subst (λ o. MatchOption o (Unit {0}) (ArePlacesOf pieces p)) told is.total in
    elim (misses.each x.place (names.each x of)) [
      | inl there ↦ there
      | inr lacks ↦ absurd (two_sides (sym lacks ∙ out))
    ]

pub answers_honest : (ring : Ring) (epoch : ℕ) (pieces : List Piece) (lines : List Line) (tables : List CopyState) (letters : List Posted) → IsRing ring → length tables ≡ ring.partitions * ring.copies → AreLines ring pieces lines tables
    → AreAnswers ring epoch lines letters → AreHonest ring epoch pieces lines letters
answers_honest ring epoch pieces lines tables letters fit count are_lines answers s m has' is bytes =
    let by = answers.only s has' in
    let p : ℕ = by.0 in
    let j : ℕ = by.1 in
    let copy : IsCopy ring p j = by.2 in
    let line : Line = by.3.0 in
    let at : slice_get lines (table_of ring p j) ≡ Some line = by.3.1 in
    let answer : IsAnswer ring epoch p j line s = by.3.2 in
    let table = item_at ring tables count p j copy in
    let one : m ≡ answer_of epoch p answer.missing = one_message s.letter.bytes m (answer_of epoch p answer.missing) is answer.readable bytes (ap (λ (z : Posted). z.letter.bytes) answer.is) in
    let from : s.letter.from ≡ holder_of ring p j = ap (λ (z : Posted). z.letter.from) answer.is in
    subst (IsHonest ring epoch pieces lines s.letter.from) (sym one) (subst (λ f. IsHonest ring epoch pieces lines f (answer_of epoch p answer.missing)) (sym from)
    (told p j copy line at answer.missing (left_there pieces p line table.0 answer.total answer.missing (are_lines p j copy line table.0 at table.1) answer.has_total answer.misses)))
  where
    -- so for the one copy that this node holds
    there : (p j : ℕ) → IsCopy ring p j → (line : Line) → slice_get lines (table_of ring p j) ≡ Some line → (places : List ℕ) → ((x : Piece) → IsOf pieces p x → is_in places x.place ≡ false → is_in line.there x.place ≡ true) → AreThere ring pieces lines (holder_of ring p j) p places
    there p j copy line at places left i other holds l l_is x of out =
        let same : i ≡ j = holders_apart ring p i j fit other.copy copy.copy holds in
        let line_l : line ≡ l = one_read (slice_get lines (table_of ring p j)) line l at (ap (λ i. slice_get lines (table_of ring p i)) (sym same) ∙ l_is) in
        subst (λ (z : Line). is_in z.there x.place ≡ true) line_l (left x of out)

    told : (p j : ℕ) → IsCopy ring p j → (line : Line) → slice_get lines (table_of ring p j) ≡ Some line → (missing : List ℕ) → ((x : Piece) → IsOf pieces p x → is_in missing x.place ≡ false → is_in line.there x.place ≡ true)
        → IsHonest ring epoch pieces lines (holder_of ring p j) (answer_of epoch p missing)
    told p j copy line at missing left =
        elim (length missing == 0) as (λ b. (length missing == 0) ≡ b → IsHonest ring epoch pieces lines (holder_of ring p j) (cond b (All epoch p) (Missing epoch p missing))) [
          | true ↦ λ e. λ _. there p j copy line at [] (λ x of out. left x of (no_places missing x.place (eqb-true (length missing) 0 e)))
          | false ↦ λ e. λ _. there p j copy line at missing left
        ] refl

-- ---- honest letters stay so

pub honest_both : (ring : Ring) (epoch : ℕ) (pieces : List Piece) (lines : List Line) (xs ys : List Posted) → AreHonest ring epoch pieces lines xs → AreHonest ring epoch pieces lines ys → AreHonest ring epoch pieces lines (xs ++ ys)
honest_both ring epoch pieces lines xs ys first second s m has' is bytes = elim (Contains-append_cases xs ys s has') [
  | inl early ↦ first s m early is bytes
  | inr late ↦ second s m late is bytes
]

-- given letters that were sent are honest
pub honest_some : (ring : Ring) (epoch : ℕ) (pieces : List Piece) (lines : List Line) (sent given : List Posted) → AreHonest ring epoch pieces lines sent → Each (Contains sent) given → AreHonest ring epoch pieces lines given
honest_some ring epoch pieces lines sent given honest among s m has' is bytes = honest s m (All-contains (Contains sent) given s among has') is bytes

-- ---- an exchange without a fault

-- after the first round: a copy that isn't done is asked, has the Total and all pieces
pub all_there : (ring : Ring) (epoch : ℕ) (pieces : List Piece) (posts asked : List Posted) (lines : List Line) (p j : ℕ) (l : Line) (t : CopyState) (m : Line) (u : CopyState) → IsCopy ring p j → slice_get lines (table_of ring p j) ≡ Some l → l.is_done ≡ false
    → AreAsks ring epoch pieces lines asked → ((s : Posted) → Contains asked s → Contains posts s) → IsLine pieces p l t → Hears ring epoch posts p j l t m u
    → (x : Piece) → IsOf pieces p x → is_in m.there x.place ≡ true
all_there ring epoch pieces posts asked lines p j l t m u copy at waits asks came is hears x of = by (is_in l.lacking x.place) refl
  where
    by : (b : Bool) → is_in l.lacking x.place ≡ b → is_in m.there x.place ≡ true
    by true lacks = (hears.ships (primary_of ring p) x (asks.readable x of.among) of.partition (came (ask_of ring p j (ship_of epoch x)) (asks.ships p j copy l at waits x of lacks))).0
    by false known = hears.there_stays x.place (is.lacking x of known)

pub told_total : (ring : Ring) (epoch : ℕ) (pieces : List Piece) (posts asked : List Posted) (lines : List Line) (p j : ℕ) (l : Line) (t : CopyState) (m : Line) (u : CopyState) → IsCopy ring p j → slice_get lines (table_of ring p j) ≡ Some l → l.is_done ≡ false
    → AreAsks ring epoch pieces lines asked → ((s : Posted) → Contains asked s → Contains posts s) → Hears ring epoch posts p j l t m u → (is_some m.total ≡ true) × (m.is_asked ≡ true)
told_total ring epoch pieces posts asked lines p j l t m u copy at waits asks came hears =
    let sent = asks.totals p j copy l at waits in
    hears.totals (primary_of ring p) l.all sent.1 (came (ask_of ring p j (Total epoch p l.all)) sent.0)

empty_keys : (ks : List ℕ) → ((q : ℕ) → is_in ks q ≡ true → ⊥) → length ks ≡ 0
empty_keys [] none = refl
empty_keys (k ∷ ks) none = absurd (none k (ap (λ b. b || is_in ks k) (itself k)))

-- a copy that has all pieces answers All
pub answers_all_there : (epoch : ℕ) (pieces : List Piece) (p : ℕ) (line : Line) (table : CopyState) (total : List ℕ) (missing : List ℕ) → IsLine pieces p line table → line.total ≡ Some total → Misses line.there total missing
    → ((x : Piece) → IsOf pieces p x → is_in line.there x.place ≡ true) → answer_of epoch p missing ≡ All epoch p
answers_all_there epoch pieces p line table total missing is told misses there =
    let names : ArePlacesOf pieces p total = subst (λ o. MatchOption o (Unit {0}) (ArePlacesOf pieces p)) told is.total in
    let none : length missing ≡ 0 = empty_keys missing (λ q lacks.
    let by = misses.only q lacks in
    let of = names.only q by.1 in
    two_sides (sym (there of.0 of.1) ∙ ap (is_in line.there) of.2 ∙ by.0)) in
    ap (λ b. cond b (All epoch p) (Missing epoch p missing)) (eq-eqb (length missing) 0 none)

-- ---- from lines to lines

kept_honest : (ring : Ring) (epoch : ℕ) (pieces : List Piece) (ls ms : List Line) → ((from p : ℕ) (places : List ℕ) → AreThere ring pieces ls from p places → AreThere ring pieces ms from p places)
    → (from : ℕ) (m : Message) → IsHonest ring epoch pieces ls from m → IsHonest ring epoch pieces ms from m
kept_honest ring epoch pieces ls ms there from (Ship of p place time writes) h = h
kept_honest ring epoch pieces ls ms there from (Total of p places) h = h
kept_honest ring epoch pieces ls ms there from (Missing of p places) h = λ same. there from p places (h same)
kept_honest ring epoch pieces ls ms there from (All of p) h = λ same. there from p [] (h same)
kept_honest ring epoch pieces ls ms there from m h = h

pub honest_after : (ring : Ring) (epoch : ℕ) (pieces : List Piece) (ls ms : List Line) (sent : List Posted) → ((from p : ℕ) (places : List ℕ) → AreThere ring pieces ls from p places → AreThere ring pieces ms from p places)
    → AreHonest ring epoch pieces ls sent → AreHonest ring epoch pieces ms sent
honest_after ring epoch pieces ls ms sent there honest s m has' is bytes = kept_honest ring epoch pieces ls ms there s.letter.from m (honest s m has' is bytes)

-- the line that an answered one was
was_line : (ring : Ring) (old new : List Line) → length old ≡ ring.partitions * ring.copies → ((p j : ℕ) → IsCopy ring p j → slice_get new (table_of ring p j) ≡ option_map answered (slice_get old (table_of ring p j)))
    → (p j : ℕ) → IsCopy ring p j → (m : Line) → slice_get new (table_of ring p j) ≡ Some m → (l : Line) × (slice_get old (table_of ring p j) ≡ Some l) × (answered l ≡ m)
was_line ring old new count were p j copy m m_is =
    let l = item_at ring old count p j copy in
    (l.0, l.1, one_read (slice_get new (table_of ring p j)) (answered l.0) m (were p j copy ∙ ap (option_map answered) l.1) m_is)

pub answered_kept : (ring : Ring) (pieces : List Piece) (old new : List Line) (tables : List CopyState) → length old ≡ ring.partitions * ring.copies
    → ((p j : ℕ) → IsCopy ring p j → slice_get new (table_of ring p j) ≡ option_map answered (slice_get old (table_of ring p j))) → AreLines ring pieces old tables → AreLines ring pieces new tables
answered_kept ring pieces old new tables count were are p j copy m u m_is u_is =
    let was = was_line ring old new count were p j copy m m_is in
    let is : IsLine pieces p was.0 u = are p j copy was.0 u was.1 u_is in
    subst (λ (z : Line). IsLine pieces p z u) was.2 (record { there = is.there; total = is.total; all = is.all; lacking = is.lacking; done = is.done })

pub answered_there : (ring : Ring) (pieces : List Piece) (old new : List Line) → length old ≡ ring.partitions * ring.copies
    → ((p j : ℕ) → IsCopy ring p j → slice_get new (table_of ring p j) ≡ option_map answered (slice_get old (table_of ring p j))) → (from p : ℕ) (places : List ℕ) → AreThere ring pieces old from p places → AreThere ring pieces new from p places
answered_there ring pieces old new count were from p places there j copy holds m m_is x of out =
    let was = was_line ring old new count were p j copy m m_is in
    subst (λ (z : Line). is_in z.there x.place ≡ true) was.2 (there j copy holds was.0 was.1 x of out)
