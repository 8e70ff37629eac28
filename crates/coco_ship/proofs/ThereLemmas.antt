-- Lines are exact as letters are given, and what is sent is right.
use Rattle.std.proofs.Common.{◌≡◌, ℕ, ◌*◌, true, false, List, [], ◌++◌, length, get_or, append-nil, append_assoc, Option, Some, None, refl, sym, ap, ◌∙◌, subst, arith, inl, inr}
use Rattle.std.specs.List.{slice_get, All as Each, Contains}
use Rattle.std.specs.Option.{option_map, IfSome, MatchOption}
use Rattle.std.proofs.lemmas.List.Elements.{All-append, Contains-append_cases, Contains-append_left, Contains-append_right}
use Rattle.coco_types.specs.declared.call.Piece.{Piece}
use Rattle.coco_net.specs.declared.letter.Posted.{Posted}
use Rattle.coco_copy.specs.CopyState.{CopyState}
use Rattle.coco_ship.specs.declared.line.Line.{Line}
use Rattle.coco_ship.specs.declared.ring.Ring.{Ring}
use Rattle.coco_ship.specs.Placing.{holder_of, table_of, IsCopy, IsRing}
use Rattle.coco_ship.specs.Sets.{Misses}
use Rattle.coco_ship.specs.Pieces.{AreShippable, IsOf}
use Rattle.coco_ship.specs.Letters.{posted_of, ship_of}
use Rattle.coco_ship.specs.Lines.{answered, AreFirst, AreLines, ArePlacesOf, IsLine}
use Rattle.coco_ship.specs.Shipping.{news}
use Rattle.coco_ship.specs.Sending.{AreAnswers, AreAsks, IsAnswer}
use Rattle.coco_ship.specs.Taking.{Hears, OfBoth}
use Rattle.coco_ship.specs.Going.{AreHonest, HasAnswered, IsGoing}
use Rattle.coco_ship.specs.There.{AddsRight, AreAllThere, AreExact, AreMissing, AreRight, IsExact, IsReply, IsRight, IsThere, StaysExact}
use Rattle.coco_ship.proofs.DeliverLemmas.{news_none}
use Rattle.coco_ship.proofs.GoingLemmas.{honest_some}
use Rattle.coco_ship.proofs.ManyLemmas.{item_at}
use Rattle.coco_ship.proofs.RoundLemmas.{going_answered, going_asked, news_joined}
use Rattle.coco_ship.proofs.Tables.{one_read}

two_sides : true ≡ false → ⊥
two_sides h = cc

-- ---- lines, as letters are given

there_more : (ring : Ring) (epoch p j : ℕ) (start : CopyState) (given more : List Posted) (x : Piece) → IsThere ring epoch p j start given x → IsThere ring epoch p j start (given ++ more) x
there_more ring epoch p j start given more x there = elim there [
  | inl early ↦ inl early
  | inr by ↦ inr (by.0, Contains-append_left given more (posted_of by.0 (holder_of ring p j) (ship_of epoch x)) by.1, by.2)
]

exact_heard : (ring : Ring) (epoch : ℕ) (pieces : List Piece) (lines : List Line) (given posts : List Posted) (p j : ℕ) (l : Line) (t : CopyState) (m : Line) (u start : CopyState) → AreShippable ring pieces → AreHonest ring epoch pieces lines posts
    → Hears ring epoch posts p j l t m u → IsExact ring epoch pieces given p j l start → IsExact ring epoch pieces (given ++ posts) p j m start
exact_heard ring epoch pieces lines given posts p j l t m u start fit honest hears exact = record {
  only = λ x of h. elim (hears.there x.place h) [
    | inl old ↦ there_more ring epoch p j start given posts x (exact.only x of old)
    | inr by ↦
        let y : Piece = by.1 in
        let among : IsOf pieces y.partition y = honest (posted_of by.0 (holder_of ring p j) (ship_of epoch y)) (ship_of epoch y) by.2 by.6 refl refl in
        let y_of : IsOf pieces p y = record { among = among.among; partition = by.3 } in
        let same : y ≡ x = fit.one_piece p y x y_of of by.4 in
        subst (IsThere ring epoch p j start (given ++ posts)) same (inr (by.0, Contains-append_right given posts (posted_of by.0 (holder_of ring p j) (ship_of epoch y)) by.2, by.6))
  ];
  each = λ x of there. elim there [
    | inl early ↦ hears.there_stays x.place (exact.each x of (inl early))
    | inr by ↦ elim (Contains-append_cases given posts (posted_of by.0 (holder_of ring p j) (ship_of epoch x)) by.1) [
      | inl old ↦ hears.there_stays x.place (exact.each x of (inr (by.0, old, by.2)))
      | inr new ↦ (hears.ships by.0 x by.2 of.partition new).0
    ]
  ];
}

exact_all : (ring : Ring) (epoch : ℕ) (pieces : List Piece) (given posts : List Posted) (ls : List Line) (ts : List CopyState) (ms : List Line) (us starts : List CopyState) → AreShippable ring pieces → AreHonest ring epoch pieces ls posts
    → length ls ≡ ring.partitions * ring.copies → length ts ≡ ring.partitions * ring.copies → length us ≡ ring.partitions * ring.copies
    → OfBoth ring (Hears ring epoch posts) ls ts ms us → AreExact ring epoch pieces starts given ls → AreExact ring epoch pieces starts (given ++ posts) ms
exact_all ring epoch pieces given posts ls ts ms us starts fit honest lines tables after hears exact p j copy m start m_is start_is =
    let l = item_at ring ls lines p j copy in
    let t = item_at ring ts tables p j copy in
    let u = item_at ring us after p j copy in
    exact_heard ring epoch pieces ls given posts p j l.0 t.0 m u.0 start fit honest (hears p j copy l.0 t.0 m u.0 l.1 t.1 m_is u.1) (exact p j copy l.0 start l.1 start_is)

-- answering changes nothing of that
exact_answered : (ring : Ring) (epoch : ℕ) (pieces : List Piece) (given : List Posted) (old mid : List Line) (starts : List CopyState) → length old ≡ ring.partitions * ring.copies
    → ((p j : ℕ) → IsCopy ring p j → slice_get mid (table_of ring p j) ≡ option_map answered (slice_get old (table_of ring p j)))
    → AreExact ring epoch pieces starts given old → AreExact ring epoch pieces starts given mid
exact_answered ring epoch pieces given old mid starts lines were exact p j copy m start m_is start_is =
    let l = item_at ring old lines p j copy in
    let one : answered l.0 ≡ m = one_read (slice_get mid (table_of ring p j)) (answered l.0) m (were p j copy ∙ ap (option_map answered) l.1) m_is in
    let here : IsExact ring epoch pieces given p j l.0 start = exact p j copy l.0 start l.1 start_is in
    subst (λ (z : Line). IsExact ring epoch pieces given p j z start) one (record { only = here.only; each = here.each })

pub asked_exact : (ring : Ring) (epoch : ℕ) (pieces : List Piece) (sent letters given given' : List Posted) (ls : List Line) (ts : List CopyState) (ms : List Line) (us : List CopyState) → AreShippable ring pieces
    → length ls ≡ ring.partitions * ring.copies → length ts ≡ ring.partitions * ring.copies → length us ≡ ring.partitions * ring.copies → AreAsks ring epoch pieces ls letters → IsGoing ring epoch pieces sent ls ts
    → Each (Contains (sent ++ letters)) (news given given') → OfBoth ring (Hears ring epoch (news given given')) ls ts ms us → StaysExact ring epoch pieces given ls given' ms
asked_exact ring epoch pieces sent letters given given' ls ts ms us fit lines tables after asks going among hears starts so_far exact =
    let asked = going_asked ring epoch pieces sent letters ls ts tables asks going in
    let honest : AreHonest ring epoch pieces ls (news given given') = honest_some ring epoch pieces ls (sent ++ letters) (news given given') asked.honest among in
    exact_all ring epoch pieces so_far (news given given') ls ts ms us starts fit honest lines tables after hears exact

pub answered_exact : (ring : Ring) (epoch : ℕ) (pieces : List Piece) (sent letters given given' : List Posted) (old : List Line) (ts : List CopyState) (mid new : List Line) (us : List CopyState) → IsRing ring → AreShippable ring pieces
    → length old ≡ ring.partitions * ring.copies → length ts ≡ ring.partitions * ring.copies → length mid ≡ ring.partitions * ring.copies → length us ≡ ring.partitions * ring.copies
    → ((p j : ℕ) → IsCopy ring p j → slice_get mid (table_of ring p j) ≡ option_map answered (slice_get old (table_of ring p j))) → AreAnswers ring epoch old letters → IsGoing ring epoch pieces sent old ts
    → Each (Contains (sent ++ letters)) (news given given') → OfBoth ring (Hears ring epoch (news given given')) mid ts new us → StaysExact ring epoch pieces given old given' new
answered_exact ring epoch pieces sent letters given given' old ts mid new us ring_fit fit lines tables mids after were answers going among hears starts so_far exact =
    let said = going_answered ring epoch pieces sent letters old mid ts ring_fit lines tables were answers going in
    let honest : AreHonest ring epoch pieces mid (news given given') = honest_some ring epoch pieces mid (sent ++ letters) (news given given') said.honest among in
    exact_all ring epoch pieces so_far (news given given') mid ts new us starts fit honest mids tables after hears (exact_answered ring epoch pieces so_far old mid starts lines were exact)

-- ---- what is sent

all_right : (P : Posted → Type 0) (letters some : List Posted) → Each (Contains letters) some → ((s : Posted) → Contains letters s → P s) → Each P some
all_right P letters some only right i d h = right (get_or some i d) (only i d h)

ask_right : (ring : Ring) (epoch : ℕ) (pieces : List Piece) (starts : List CopyState) (given : List Posted) (ls : List Line) (ts : List CopyState) (letters : List Posted) → length ts ≡ ring.partitions * ring.copies
    → AreAsks ring epoch pieces ls letters → AreLines ring pieces ls ts → (s : Posted) → Contains letters s → IsRight ring epoch pieces starts given s
ask_right ring epoch pieces starts given ls ts letters tables asks fits s has' =
    let by = asks.only s has' in
    let p : ℕ = by.0 in
    let j : ℕ = by.1 in (
      p,
      j,
      by.2,
      inl (elim by.3 [
        | inl ships ↦ inl (ships.0, ships.1, ships.2, asks.readable ships.0 ships.1.among)
        | inr tells ↦
            let t = item_at ring ts tables p j by.2 in
            let fit : IsLine pieces p tells.0 t.0 = fits p j by.2 tells.0 t.0 tells.1 t.1 in
            inr (tells.0.all, fit.all, tells.2, tells.3)
      ]),
    )

missing_now : (ring : Ring) (epoch : ℕ) (pieces : List Piece) (given : List Posted) (p j : ℕ) (line : Line) (table start : CopyState) (total missing : List ℕ) → IsLine pieces p line table → line.total ≡ Some total → Misses line.there total missing
    → IsExact ring epoch pieces given p j line start → AreMissing ring epoch pieces p j start given missing
missing_now ring epoch pieces given p j line table start total missing is told misses exact =
    let names : ArePlacesOf pieces p total = subst (λ o. MatchOption o (Unit {0}) (ArePlacesOf pieces p)) told is.total in
    record {
      only = λ q h. names.only q (misses.only q h).1;
      lacked = λ x of h there. two_sides (sym (exact.each x of there) ∙ (misses.only x.place h).0);
      others = λ x of out. elim (misses.each x.place (names.each x of)) [
        | inl there ↦ exact.only x of there
        | inr lacks ↦ absurd (two_sides (sym lacks ∙ out))
      ];
    }

answer_right : (ring : Ring) (epoch : ℕ) (pieces : List Piece) (starts : List CopyState) (so_far later : List Posted) (ls : List Line) (ts : List CopyState) (letters : List Posted)
    → length ts ≡ ring.partitions * ring.copies → length starts ≡ ring.partitions * ring.copies → AreAnswers ring epoch ls letters → AreLines ring pieces ls ts → AreExact ring epoch pieces starts so_far ls
    → (s : Posted) → Contains letters s → IsRight ring epoch pieces starts (so_far ++ later) s
answer_right ring epoch pieces starts so_far later ls ts letters tables count answers fits exact s has' =
    let by = answers.only s has' in
    let p : ℕ = by.0 in
    let j : ℕ = by.1 in
    let copy : IsCopy ring p j = by.2 in
    let line : Line = by.3.0 in
    let answer : IsAnswer ring epoch p j line s = by.3.2 in
    let t = item_at ring ts tables p j copy in
    let start = item_at ring starts count p j copy in
    let missing : AreMissing ring epoch pieces p j start.0 so_far answer.missing =
    missing_now ring epoch pieces so_far p j line t.0 start.0 answer.total answer.missing (fits p j copy line t.0 by.3.1 t.1) answer.has_total answer.misses (exact p j copy line start.0 by.3.1 start.1) in
    (p, j, copy, inr (start.0, start.1, (answer.missing, record { so_far = so_far; later = later; moment = refl; missing = missing }, answer.is, answer.readable)))

pub asked_right : (ring : Ring) (epoch : ℕ) (pieces : List Piece) (sent letters sent' given given' : List Posted) (ls : List Line) (ts : List CopyState) → length ts ≡ ring.partitions * ring.copies → AreAsks ring epoch pieces ls letters → IsGoing ring epoch pieces sent ls ts
    → Each (Contains letters) (news sent sent') → AddsRight ring epoch pieces sent given ls sent' given'
asked_right ring epoch pieces sent letters sent' given given' ls ts tables asks going only starts so_far count exact =
    all_right (IsRight ring epoch pieces starts (so_far ++ news given given')) letters (news sent sent') only
    (ask_right ring epoch pieces starts (so_far ++ news given given') ls ts letters tables asks going.lines_fit)

pub answered_right : (ring : Ring) (epoch : ℕ) (pieces : List Piece) (sent letters sent' given given' : List Posted) (ls : List Line) (ts : List CopyState) → length ts ≡ ring.partitions * ring.copies → AreAnswers ring epoch ls letters → IsGoing ring epoch pieces sent ls ts
    → Each (Contains letters) (news sent sent') → AddsRight ring epoch pieces sent given ls sent' given'
answered_right ring epoch pieces sent letters sent' given given' ls ts tables answers going only starts so_far count exact =
    all_right (IsRight ring epoch pieces starts (so_far ++ news given given')) letters (news sent sent') only
    (answer_right ring epoch pieces starts so_far (news given given') ls ts letters tables count answers going.lines_fit exact)

-- ---- one round after another

-- what was right at a moment is so when more was given
right_more : (ring : Ring) (epoch : ℕ) (pieces : List Piece) (starts : List CopyState) (given more : List Posted) (s : Posted) → IsRight ring epoch pieces starts given s → IsRight ring epoch pieces starts (given ++ more) s
right_more ring epoch pieces starts given more s right = (
  right.0,
  right.1,
  right.2,
  elim right.3 [
    | inl ask ↦ inl ask
    | inr by ↦ inr (by.0, by.1, wider right.0 right.1 by.0 by.2)
  ],
)
  where
    wider : (p j : ℕ) (start : CopyState) → IsReply ring epoch pieces p j start given s → IsReply ring epoch pieces p j start (given ++ more) s
    wider p j start reply =
        let were = reply.1 in
        (reply.0, record { so_far = were.so_far; later = were.later ++ more; moment = ap (λ (ps : List Posted). ps ++ more) were.moment ∙ append_assoc were.so_far were.later more; missing = were.missing }, reply.2, reply.3)

both_given : (so_far a b c : List Posted) → b ≡ a ++ news a b → c ≡ b ++ news b c → (so_far ++ news a b) ++ news b c ≡ so_far ++ news a c
both_given so_far a b c ab bc = append_assoc so_far (news a b) (news b c) ∙ ap (λ (ps : List Posted). so_far ++ ps) (sym (news_joined a b c ab bc))

pub exact_none : (ring : Ring) (epoch : ℕ) (pieces : List Piece) (given : List Posted) (lines : List Line) → StaysExact ring epoch pieces given lines given lines
exact_none ring epoch pieces given lines starts so_far exact =
    subst (λ (ps : List Posted). AreExact ring epoch pieces starts ps lines) (sym (ap (λ (ps : List Posted). so_far ++ ps) (news_none given given refl) ∙ append-nil so_far)) exact

pub exact_then : (ring : Ring) (epoch : ℕ) (pieces : List Piece) (g0 : List Posted) (l0 : List Line) (g1 : List Posted) (l1 : List Line) (g2 : List Posted) (l2 : List Line) → g1 ≡ g0 ++ news g0 g1 → g2 ≡ g1 ++ news g1 g2
    → StaysExact ring epoch pieces g0 l0 g1 l1 → StaysExact ring epoch pieces g1 l1 g2 l2 → StaysExact ring epoch pieces g0 l0 g2 l2
exact_then ring epoch pieces g0 l0 g1 l1 g2 l2 first_is second_is first second starts so_far exact =
    subst (λ (ps : List Posted). AreExact ring epoch pieces starts ps l2) (both_given so_far g0 g1 g2 first_is second_is) (second starts (so_far ++ news g0 g1) (first starts so_far exact))

pub right_none : (ring : Ring) (epoch : ℕ) (pieces : List Piece) (sent sent' given : List Posted) (lines : List Line) (given' : List Posted) → sent' ≡ sent → AddsRight ring epoch pieces sent given lines sent' given'
right_none ring epoch pieces sent sent' given lines given' same starts so_far count exact =
    subst (λ (ps : List Posted). AreRight ring epoch pieces starts (so_far ++ news given given') ps) (sym (news_none sent sent' same)) (λ i d h. absurd (omega (arith, h)))

pub right_none_all : (ring : Ring) (epoch : ℕ) (pieces : List Piece) (starts : List CopyState) (given sent : List Posted) → AreRight ring epoch pieces starts given (news sent sent)
right_none_all ring epoch pieces starts given sent = subst (AreRight ring epoch pieces starts given) (sym (news_none sent sent refl)) (λ i d h. absurd (omega (arith, h)))

pub right_then : (ring : Ring) (epoch : ℕ) (pieces : List Piece) (s0 g0 : List Posted) (l0 : List Line) (s1 g1 : List Posted) (l1 : List Line) (s2 g2 : List Posted) → s1 ≡ s0 ++ news s0 s1 → s2 ≡ s1 ++ news s1 s2 → g1 ≡ g0 ++ news g0 g1 → g2 ≡ g1 ++ news g1 g2
    → AddsRight ring epoch pieces s0 g0 l0 s1 g1 → StaysExact ring epoch pieces g0 l0 g1 l1 → AddsRight ring epoch pieces s1 g1 l1 s2 g2 → AddsRight ring epoch pieces s0 g0 l0 s2 g2
right_then ring epoch pieces s0 g0 l0 s1 g1 l1 s2 g2 sends sends' gives gives' first exact second starts so_far count now =
    let all : Posted → Type 0 = IsRight ring epoch pieces starts ((so_far ++ news g0 g1) ++ news g1 g2) in
    let early : AreRight ring epoch pieces starts ((so_far ++ news g0 g1) ++ news g1 g2) (news s0 s1) =
    λ i d h. right_more ring epoch pieces starts (so_far ++ news g0 g1) (news g1 g2) (get_or (news s0 s1) i d) (first starts so_far count now i d h) in
    let late : AreRight ring epoch pieces starts ((so_far ++ news g0 g1) ++ news g1 g2) (news s1 s2) = second starts (so_far ++ news g0 g1) count (exact starts so_far now) in
    subst (λ (ps : List Posted). AreRight ring epoch pieces starts ps (news s0 s2)) (both_given so_far g0 g1 g2 gives gives')
    (subst (λ (ps : List Posted). AreRight ring epoch pieces starts ((so_far ++ news g0 g1) ++ news g1 g2) ps) (sym (news_joined s0 s1 s2 sends sends')) (All-append all (news s0 s1) (news s1 s2) early late))

-- ---- the phase

-- at the start the pieces of which the writes pend are there, and no others
pub exact_first : {ring : Ring} {pieces : List Piece} {lines : List Line} {tables : List CopyState} (epoch : ℕ) → AreFirst ring pieces lines tables → AreExact ring epoch pieces tables [] lines
exact_first epoch first p j copy line table line_is table_is = record {
  only = λ x of h. inl ((first.fit p j copy line table line_is table_is).there x of h);
  each = λ x of there. elim there [
    | inl early ↦ first.counted p j copy line table line_is table_is x of early
    | inr by ↦ absurd (omega (arith, by.1.1))
  ];
}

-- where all have answered, each piece is there
pub there_all : (ring : Ring) (epoch : ℕ) (pieces : List Piece) (sent given : List Posted) (lines : List Line) (tables starts : List CopyState) → length lines ≡ ring.partitions * ring.copies → length tables ≡ ring.partitions * ring.copies
    → IsGoing ring epoch pieces sent lines tables → ((node : ℕ) → HasAnswered ring lines node) → AreExact ring epoch pieces starts given lines → AreAllThere ring epoch pieces starts given
there_all ring epoch pieces sent given lines tables starts count after going all exact p j copy x of = by (slice_get starts (table_of ring p j)) refl
  where
    by : (o : Option CopyState) → slice_get starts (table_of ring p j) ≡ o → IfSome o (λ start. IsThere ring epoch p j start given x)
    by None is = tt
    by (Some start) is =
        let line = item_at ring lines count p j copy in
        let t = item_at ring tables after p j copy in
        let done : line.0.is_done ≡ true = all (holder_of ring p j) p j copy refl line.0 line.1 in
        let fits : IsLine pieces p line.0 t.0 = going.lines_fit p j copy line.0 t.0 line.1 t.1 in
        (exact p j copy line.0 start line.1 is).only x of (fits.done done x of)
