-- Rounds of the phase: what they send and give, and what holds after them.
use Rattle.std.proofs.Common.{◌≡◌, ℕ, ◌+◌, ◌*◌, ◌<◌, ◌≤◌, ◌==◌, Bool, true, false, cond, List, [], ◌++◌, length, get_or, append-nil, append_assoc, Option, Some, None, Ok, Err, Result, refl, sym, ap, ◌∙◌, subst, arith, inl, inr, ◌⊎◌}
use Rattle.std.specs.FinMap.{get}
use Rattle.std.specs.List.{slice_get, All as Each, Contains}
use Rattle.std.specs.Option.{option_map, IfSome}
use Rattle.std.specs.Result.{OnOk}
use Rattle.std.proofs.lemmas.List.Elements.{All-append, All-contains, Contains-append_cases, Contains-append_left, Contains-append_right, Contains-get_or}
use Rattle.coco_types.specs.RowKey.{RowKey}
use Rattle.coco_types.specs.declared.value.Value.{Value}
use Rattle.coco_types.specs.declared.call.Piece.{Piece}
use Rattle.coco_types.specs.declared.call.Write.{Write}
use Rattle.coco_msg.specs.declared.message.Message.{Message}
use Rattle.coco_msg.specs.declared.message.Message.TheVariants.{Ship, Total, Missing, All}
use Rattle.coco_msg.specs.Bytes.{bytes_of, IsMessage}
use Rattle.coco_net.specs.declared.letter.Posted.{Posted}
use Rattle.coco_net.specs.declared.net.Net.{Ghosts as NetGhosts}
use Rattle.coco_net.specs.Mail.{letters_to}
use Rattle.coco_copy.specs.CopyState.{CopyState}
use Rattle.coco_ship.specs.declared.line.Line.{Line}
use Rattle.coco_ship.specs.declared.ring.Ring.{Ring}
use Rattle.coco_ship.specs.Placing.{holder_of, primary_of, table_of, IsCopy, IsRing}
use Rattle.coco_ship.specs.Pieces.{AreShippable, HasPieces, IsOf, IsWritten}
use Rattle.coco_ship.specs.Letters.{all_of, letter_of, posted_of, ship_of, AreInside, AreOther, Gains, IsInside, IsOther}
use Rattle.coco_ship.specs.Lines.{answered, AreLines, AreWaiting, IsLine}
use Rattle.coco_ship.specs.Shipping.{news, AreBegun, ArePhase, AreWhole, AreWritten, IsPhase, Owes}
use Rattle.coco_ship.specs.Sending.{answer_of, ask_of, reply_of, AreAnswers, AreAsks, IsAnswer}
use Rattle.coco_ship.specs.Taking.{Brings, Hears, OfBoth, OfTables}
use Rattle.coco_ship.specs.Going.{AreHonest, AreTold, HasAnswered, IsDoneBy, IsGoing, IsHonest, IsTold, IsWaitedFor, Unless}
use Rattle.coco_ship.specs.Rounds.{FitRing, Passes}
use Rattle.coco_ship.proofs.DeliverLemmas.{holder_within, news_is, news_none, out_letters, primary_within}
use Rattle.coco_ship.proofs.GoingLemmas.{all_there, answered_kept, answered_there, answers_all_there, answers_honest, asks_honest, honest_after, honest_both, honest_some, told_total}
use Rattle.coco_ship.proofs.KeepLemmas.{honest_kept, lines_kept}
use Rattle.coco_ship.proofs.ManyLemmas.{both_then, brings_both, item_at}
use Rattle.coco_ship.proofs.TakeLemmas.{brings_none}
use Rattle.coco_ship.proofs.WholeLemmas.{whole}
use Rattle.coco_ship.proofs.Tables.{one_read, same_both}

two_sides : true ≡ false → ⊥
two_sides h = cc

pub on_ok_two : {T E P Q R : Type 0} (r : Result T E) → (P → Q → R) → OnOk r P → OnOk r Q → OnOk r R
on_ok_two (Ok x) both p q = both p q
on_ok_two (Err e) both p q = tt

-- ---- what is sent is of the phase, and stays inside

inside : (ring : Ring) (from to : ℕ) (m : Message) (s : Posted) → IsRing ring → from < ring.nodes → to < ring.nodes → s ≡ posted_of from to m → IsInside s
inside ring from to m s fit from_in to_in is =
    let most : ring.nodes ≤ 8 = fit.nodes in
    subst IsInside (sym is) (record { from = omega (arith, from_in, most); to = omega (arith, to_in, most) })

pub asks_inside : (ring : Ring) (epoch : ℕ) (pieces : List Piece) (lines : List Line) (letters : List Posted) → IsRing ring → AreAsks ring epoch pieces lines letters → AreInside letters
asks_inside ring epoch pieces lines letters fit asks i d h =
    let s : Posted = get_or letters i d in
    let by = asks.only s (Contains-get_or letters i d h) in
    let asked : (m : Message) → s ≡ ask_of ring by.0 by.1 m → IsInside s = λ m is. inside ring (primary_of ring by.0) (holder_of ring by.0 by.1) m s fit (primary_within ring by.0 fit) (holder_within ring by.0 by.1 fit) is in
    elim by.3 [
      | inl ships ↦ asked (ship_of epoch ships.0) ships.2
      | inr tells ↦ asked (Total epoch by.0 tells.0.all) tells.2
    ]

pub asks_phase : (ring : Ring) (epoch : ℕ) (pieces : List Piece) (lines : List Line) (letters : List Posted) → AreAsks ring epoch pieces lines letters → ArePhase epoch letters
asks_phase ring epoch pieces lines letters asks i d h =
    let s : Posted = get_or letters i d in
    let by = asks.only s (Contains-get_or letters i d h) in
    elim by.3 [
      | inl ships ↦ (ship_of epoch ships.0, refl, ap (λ (z : Posted). z.letter.bytes) ships.2)
      | inr tells ↦ (Total epoch by.0 tells.0.all, refl, ap (λ (z : Posted). z.letter.bytes) tells.2)
    ]

pub answers_inside : (ring : Ring) (epoch : ℕ) (lines : List Line) (letters : List Posted) → IsRing ring → AreAnswers ring epoch lines letters → AreInside letters
answers_inside ring epoch lines letters fit answers i d h =
    let s : Posted = get_or letters i d in
    let by = answers.only s (Contains-get_or letters i d h) in
    let answer : IsAnswer ring epoch by.0 by.1 by.3.0 s = by.3.2 in
    inside ring (holder_of ring by.0 by.1) (primary_of ring by.0) (answer_of epoch by.0 answer.missing) s fit (holder_within ring by.0 by.1 fit) (primary_within ring by.0 fit) answer.is

pub answers_phase : (ring : Ring) (epoch : ℕ) (lines : List Line) (letters : List Posted) → AreAnswers ring epoch lines letters → ArePhase epoch letters
answers_phase ring epoch lines letters answers i d h =
    let s : Posted = get_or letters i d in
    let by = answers.only s (Contains-get_or letters i d h) in
    let answer : IsAnswer ring epoch by.0 by.1 by.3.0 s = by.3.2 in
    (answer_of epoch by.0 answer.missing, phase by.0 answer.missing, ap (λ (z : Posted). z.letter.bytes) answer.is)
  where
    phase : (p : ℕ) (missing : List ℕ) → IsPhase epoch (answer_of epoch p missing)
    phase p missing = elim (length missing == 0) as (λ b. IsPhase epoch (cond b (All epoch p) (Missing epoch p missing))) [ true ↦ refl | false ↦ refl ]

-- ---- what rounds add

joined : (a b c : List Posted) → b ≡ a ++ news a b → c ≡ b ++ news b c → c ≡ a ++ (news a b ++ news b c)
joined a b c first second = second ∙ ap (λ (ps : List Posted). ps ++ news b c) first ∙ append_assoc a (news a b) (news b c)

pub news_joined : (a b c : List Posted) → b ≡ a ++ news a b → c ≡ b ++ news b c → news a c ≡ news a b ++ news b c
news_joined a b c first second = news_is a c (news a b ++ news b c) (joined a b c first second)

gained : (old new these : List Posted) → new ≡ old ++ these → new ≡ old ++ news old new
gained old new these is = is ∙ ap (λ (ps : List Posted). old ++ ps) (sym (news_is old new these is))

-- nothing was given
pub none_given : (sent given given' : List Posted) → given' ≡ given → Each (Contains sent) (news given given')
none_given sent given given' same = subst (Each (Contains sent)) (sym (news_none given given' same)) (λ i d h. absurd (omega (arith, h)))

-- it has gained nothing
pub news_own : (sent : List Posted) → sent ≡ sent ++ news sent sent
news_own sent = gained sent sent [] (sym (append-nil sent))

pub none_phase : (epoch : ℕ) (sent : List Posted) → ArePhase epoch (news sent sent)
none_phase epoch sent = subst (ArePhase epoch) (sym (news_none sent sent refl)) (λ i d h. absurd (omega (arith, h)))

module _ {N : Type 0} {nets : NetGhosts N} where
  -- these letters were sent, and these given
  passes_by : {ring : Ring} {epoch : ℕ} {ms : List Line} {us : List CopyState} (net net' : N) (ts : List CopyState) (xs ys : List Posted) → FitRing ring epoch ms us → nets.sent net' ≡ nets.sent net ++ xs → nets.given net' ≡ nets.given net ++ ys
      → ArePhase epoch xs → OfTables ring (Brings ring epoch ys) ts us → Each (Contains (nets.sent net')) ys → nets.faults net ≤ nets.faults net' → nets.last_seed net' ≡ nets.last_seed net → Passes nets ring epoch net ts net' ms us
  passes_by {ring} {epoch} {ms} {us} net net' ts xs ys fit sent given phase gains were_sent faults seed =
      let given_is : ys ≡ news (nets.given net) (nets.given net') = sym (news_is (nets.given net) (nets.given net') ys given) in
      record {
        sends = gained (nets.sent net) (nets.sent net') xs sent;
        gives = gained (nets.given net) (nets.given net') ys given;
        phase = subst (ArePhase epoch) (sym (news_is (nets.sent net) (nets.sent net') xs sent)) phase;
        gains = subst (λ (ps : List Posted). OfTables ring (Brings ring epoch ps) ts us) given_is gains;
        fit = fit;
        were_sent = subst (Each (Contains (nets.sent net'))) given_is were_sent;
        faults_rise = faults;
        seed_stays = seed;
      }

  -- letters were given, and none was sent
  pub passes_given : {ring : Ring} {epoch : ℕ} {ms : List Line} {us : List CopyState} (net net' : N) (ts : List CopyState) (ys : List Posted) → FitRing ring epoch ms us → nets.sent net' ≡ nets.sent net → nets.given net' ≡ nets.given net ++ ys
      → OfTables ring (Brings ring epoch ys) ts us → Each (Contains (nets.sent net)) ys → nets.faults net ≤ nets.faults net' → nets.last_seed net' ≡ nets.last_seed net → Passes nets ring epoch net ts net' ms us
  passes_given net net' ts ys fit sent given gains were_sent faults seed =
      passes_by net net' ts [] ys fit (sent ∙ sym (append-nil (nets.sent net))) given (λ i d h. absurd (omega (arith, h))) gains (subst (λ (z : List Posted). Each (Contains z) ys) (sym sent) were_sent) faults seed

  -- letters were sent, and none was given
  pub passes_sent : {ring : Ring} {epoch : ℕ} {ms : List Line} {us : List CopyState} (net net' : N) (xs : List Posted) → FitRing ring epoch ms us → ArePhase epoch xs → nets.sent net' ≡ nets.sent net ++ xs → nets.given net' ≡ nets.given net
      → nets.faults net' ≡ nets.faults net → nets.last_seed net' ≡ nets.last_seed net → Passes nets ring epoch net us net' ms us
  passes_sent {ring} {epoch} {ms} {us} net net' xs fit phase sent given faults seed =
      passes_by net net' us xs [] fit sent (given ∙ sym (append-nil (nets.given net))) phase (brings_none ring epoch [] us) (λ i d h. absurd (omega (arith, h))) (omega (arith, faults)) seed

  pub passes_none : {ring : Ring} {epoch : ℕ} {ms : List Line} {us : List CopyState} (net : N) → FitRing ring epoch ms us → Passes nets ring epoch net us net ms us
  passes_none net fit = passes_sent net net [] fit (λ i d h. absurd (omega (arith, h))) (sym (append-nil (nets.sent net))) refl refl refl

  pub passes_then : {ring : Ring} {epoch : ℕ} {a b c : N} {ts us vs : List CopyState} {ms ns : List Line} → Passes nets ring epoch a ts b ms us → Passes nets ring epoch b us c ns vs → Passes nets ring epoch a ts c ns vs
  passes_then {ring} {epoch} {a} {b} {c} {ts} {us} {vs} one two =
      let xs = news (nets.sent a) (nets.sent b) in
      let ys = news (nets.given a) (nets.given b) in
      passes_by a c ts (xs ++ news (nets.sent b) (nets.sent c)) (ys ++ news (nets.given b) (nets.given c)) two.fit (joined (nets.sent a) (nets.sent b) (nets.sent c) one.sends two.sends) (joined (nets.given a) (nets.given b) (nets.given c) one.gives two.gives)
      (All-append (λ (s : Posted). (m : Message) × IsPhase epoch m × (s.letter.bytes ≡ bytes_of m)) xs (news (nets.sent b) (nets.sent c)) one.phase two.phase)
      (brings_both ring epoch ys (news (nets.given b) (nets.given c)) ts us vs one.fit.table_count one.gains two.gains)
      (All-append (Contains (nets.sent c)) ys (news (nets.given b) (nets.given c))
      (λ i d h. subst (λ (ps : List Posted). Contains ps (get_or ys i d)) (sym two.sends) (Contains-append_left (nets.sent b) (news (nets.sent b) (nets.sent c)) (get_or ys i d) (one.were_sent i d h))) two.were_sent)
      (omega (arith, one.faults_rise, two.faults_rise)) (two.seed_stays ∙ one.seed_stays)

-- lines that are changed in place are as many
pub fit_lines : {ring : Ring} {epoch : ℕ} {ls ms : List Line} {ts : List CopyState} → FitRing ring epoch ls ts → length ms ≡ length ls → FitRing ring epoch ms ts
fit_lines fit same = record { is_ring = fit.is_ring; line_count = same ∙ fit.line_count; table_count = fit.table_count; begun = fit.begun }

-- a part of letters of the phase
pub phase_front : (epoch : ℕ) (xs ys zs : List Posted) → xs ++ ys ≡ zs → ArePhase epoch zs → ArePhase epoch xs
phase_front epoch xs ys zs is phase i d h =
    All-contains (λ (s : Posted). (m : Message) × IsPhase epoch m × (s.letter.bytes ≡ bytes_of m)) zs (get_or xs i d) phase (subst (λ (ps : List Posted). Contains ps (get_or xs i d)) is (Contains-append_left xs ys (get_or xs i d) (Contains-get_or xs i d h)))

-- what was sent anew is among these letters
pub all_among : (sent sent' xs ys letters : List Posted) → sent' ≡ sent ++ xs → xs ++ ys ≡ letters → Each (Contains letters) (news sent sent')
all_among sent sent' xs ys letters sends is =
    subst (Each (Contains letters)) (sym (news_is sent sent' xs sends))
    (λ i d h. subst (λ (ps : List Posted). Contains ps (get_or xs i d)) is (Contains-append_left xs ys (get_or xs i d) (Contains-get_or xs i d h)))

-- what came has all that was sent in the round
pub all_came : (fresh letters posts : List Posted) → Each (Contains posts) (fresh ++ letters) → Each (Contains posts) letters
all_came fresh letters posts all i d h = All-contains (Contains posts) (fresh ++ letters) (get_or letters i d) all (Contains-append_right fresh letters (get_or letters i d) (Contains-get_or letters i d h))

-- ---- which lines are done

pub done_by : (ring : Ring) (epoch : ℕ) (posts : List Posted) (ls : List Line) (ts : List CopyState) (ms : List Line) (us : List CopyState) → IsRing ring → epoch < 18446744073709551616 → OfBoth ring (Hears ring epoch posts) ls ts ms us → OfBoth ring (IsDoneBy ring epoch posts) ls ts ms us
done_by ring epoch posts ls ts ms us fit small hears p j copy l t m u l_is t_is m_is u_is =
    let here : Hears ring epoch posts p j l t m u = hears p j copy l t m u l_is t_is m_is u_is in
    let within : p < ring.partitions = copy.partition in
    let most : ring.partitions ≤ 64 = fit.partitions in
    record {
      stays = here.done_stays;
      only = λ h. elim (here.done h) [ inl old ↦ inl old | inr by ↦ inr by.0 ];
      given_all = here.alls (small, omega (arith, within, most));
    }

done_more : (ring : Ring) (epoch : ℕ) (xs ys : List Posted) (p j : ℕ) (l : Line) (t : CopyState) (m : Line) (u : CopyState) (n : Line) (v : CopyState) → IsDoneBy ring epoch xs p j l t m u → IsDoneBy ring epoch ys p j m u n v → IsDoneBy ring epoch (xs ++ ys) p j l t n v
done_more ring epoch xs ys p j l t m u n v first second = record {
  stays = λ h. second.stays (first.stays h);
  only = λ h. elim (second.only h) [
    | inl mid ↦ elim (first.only mid) [
      | inl old ↦ inl old
      | inr has ↦ inr (Contains-append_left xs ys (all_of ring epoch p j) has)
    ]
    | inr has ↦ inr (Contains-append_right xs ys (all_of ring epoch p j) has)
  ];
  given_all = λ has. elim (Contains-append_cases xs ys (all_of ring epoch p j) has) [
    | inl early ↦ second.stays (first.given_all early)
    | inr late ↦ second.given_all late
  ];
}

pub done_then : (ring : Ring) (epoch : ℕ) (a b c : List Posted) (ls : List Line) (ts : List CopyState) (ms : List Line) (us : List CopyState) (ns : List Line) (vs : List CopyState) → b ≡ a ++ news a b → c ≡ b ++ news b c
    → length ms ≡ ring.partitions * ring.copies → length us ≡ ring.partitions * ring.copies → OfBoth ring (IsDoneBy ring epoch (news a b)) ls ts ms us → OfBoth ring (IsDoneBy ring epoch (news b c)) ms us ns vs → OfBoth ring (IsDoneBy ring epoch (news a c)) ls ts ns vs
done_then ring epoch a b c ls ts ms us ns vs ab bc lines tables first second =
    subst (λ (ps : List Posted). OfBoth ring (IsDoneBy ring epoch ps) ls ts ns vs) (sym (news_joined a b c ab bc))
    (both_then ring (IsDoneBy ring epoch (news a b)) (IsDoneBy ring epoch (news b c)) (IsDoneBy ring epoch (news a b ++ news b c)) (done_more ring epoch (news a b) (news b c)) ls ts ms us ns vs lines tables first second)

pub done_none : (ring : Ring) (epoch : ℕ) (a : List Posted) (ls : List Line) (ts : List CopyState) → OfBoth ring (IsDoneBy ring epoch (news a a)) ls ts ls ts
done_none ring epoch a ls ts =
    subst (λ (ps : List Posted). OfBoth ring (IsDoneBy ring epoch ps) ls ts ls ts) (sym (news_none a a refl))
    (same_both ring (IsDoneBy ring epoch []) ls ts (λ p j copy l t. record { stays = λ h. h; only = λ h. inl h; given_all = λ has. absurd (omega (arith, has.1)) }))

-- answering changes nothing of that
pub done_answered : (ring : Ring) (epoch : ℕ) (posts : List Posted) (old : List Line) (ts : List CopyState) (mid new : List Line) (us : List CopyState) → ((p j : ℕ) → IsCopy ring p j → slice_get mid (table_of ring p j) ≡ option_map answered (slice_get old (table_of ring p j)))
    → OfBoth ring (IsDoneBy ring epoch posts) mid ts new us → OfBoth ring (IsDoneBy ring epoch posts) old ts new us
done_answered ring epoch posts old ts mid new us were done p j copy l t m u l_is t_is m_is u_is =
    let here : IsDoneBy ring epoch posts p j (answered l) t m u = done p j copy (answered l) t m u (were p j copy ∙ ap (option_map answered) l_is) t_is m_is u_is in
    record { stays = here.stays; only = here.only; given_all = here.given_all }

-- ---- what pends was written by pieces

pub same_write : (w : Write) (k : RowKey) (v : Option Value) → w.key ≡ k → w.value ≡ v → w ≡ record { key = k; value = v }
same_write w k v a b i = record { key = a i; value = b i }

pub written_kept : (ring : Ring) (epoch : ℕ) (pieces : List Piece) (posts : List Posted) (ls : List Line) (ts us : List CopyState) → length ts ≡ ring.partitions * ring.copies → AreHonest ring epoch pieces ls posts
    → AreWritten ring pieces ts → OfTables ring (Brings ring epoch posts) ts us → AreWritten ring pieces us
written_kept ring epoch pieces posts ls ts us count honest before brings p j copy = at (slice_get us (table_of ring p j)) refl
  where
    at : (o : Option CopyState) → slice_get us (table_of ring p j) ≡ o → IfSome o (IsWritten pieces p)
    at None u_is = tt
    at (Some u) u_is = λ k time value pends.
        let t = item_at ring ts count p j copy in
        let was : IsWritten pieces p t.0 = subst (λ o. IfSome o (IsWritten pieces p)) t.1 (before p j copy) in
        let gains : Gains epoch p (letters_to (holder_of ring p j) posts) t.0 u = brings p j copy t.0 u t.1 u_is in
        elim (gains.pending k) [
          | inl same ↦ was k time value (sym same ∙ pends)
          | inr by ↦
              let x : Piece = by.1 in
              let w : Write = by.2 in
              let in' : Contains posts (posted_of by.0 (holder_of ring p j) (ship_of epoch x)) = out_letters (holder_of ring p j) posts (letter_of by.0 (ship_of epoch x)) by.3 in
              let of : IsOf pieces x.partition x = honest (posted_of by.0 (holder_of ring p j) (ship_of epoch x)) (ship_of epoch x) in' by.8 refl refl in
              let row : (time, value) ≡ (x.time, w.value) = one_read (get u.pending k) (time, value) (x.time, w.value) pends by.7 in
              (x, record { among = of.among; partition = by.4 }, sym (ap (λ (q : ℕ × Option Value). q.0) row), subst (Contains x.writes) (same_write w k value by.6 (sym (ap (λ (q : ℕ × Option Value). q.1) row))) by.5)
        ]

-- ---- going on

pub going_heard : (ring : Ring) (epoch : ℕ) (pieces : List Piece) (posts sent : List Posted) (ls : List Line) (ts : List CopyState) (ms : List Line) (us : List CopyState) → AreShippable ring pieces
    → length ls ≡ ring.partitions * ring.copies → length ts ≡ ring.partitions * ring.copies → length us ≡ ring.partitions * ring.copies → IsGoing ring epoch pieces sent ls ts → Each (Contains sent) posts
    → OfBoth ring (Hears ring epoch posts) ls ts ms us → OfTables ring (Brings ring epoch posts) ts us → IsGoing ring epoch pieces sent ms us
going_heard ring epoch pieces posts sent ls ts ms us fit lines tables after going among hears brings =
    let honest : AreHonest ring epoch pieces ls posts = honest_some ring epoch pieces ls sent posts going.honest among in
    record {
      lines_fit = lines_kept ring epoch pieces posts ls ts ms us fit honest going.lines_fit (item_at ring ls lines) (item_at ring ts tables) hears;
      written = written_kept ring epoch pieces posts ls ts us tables honest going.written brings;
      honest = honest_after ring epoch pieces ls ms sent (honest_kept ring epoch pieces posts sent ls ts ms us (item_at ring ls lines) (item_at ring ts tables) (item_at ring us after) hears) going.honest;
    }

pub going_asked : (ring : Ring) (epoch : ℕ) (pieces : List Piece) (sent letters : List Posted) (lines : List Line) (tables : List CopyState) → length tables ≡ ring.partitions * ring.copies → AreAsks ring epoch pieces lines letters
    → IsGoing ring epoch pieces sent lines tables → IsGoing ring epoch pieces (sent ++ letters) lines tables
going_asked ring epoch pieces sent letters lines tables count asks going = record {
  lines_fit = going.lines_fit;
  written = going.written;
  honest = honest_both ring epoch pieces lines sent letters going.honest (asks_honest ring epoch pieces lines tables letters count going.lines_fit asks);
}

pub going_answered : (ring : Ring) (epoch : ℕ) (pieces : List Piece) (sent letters : List Posted) (old mid : List Line) (tables : List CopyState) → IsRing ring → length old ≡ ring.partitions * ring.copies → length tables ≡ ring.partitions * ring.copies
    → ((p j : ℕ) → IsCopy ring p j → slice_get mid (table_of ring p j) ≡ option_map answered (slice_get old (table_of ring p j))) → AreAnswers ring epoch old letters
    → IsGoing ring epoch pieces sent old tables → IsGoing ring epoch pieces (sent ++ letters) mid tables
going_answered ring epoch pieces sent letters old mid tables fit lines count were answers going = record {
  lines_fit = answered_kept ring pieces old mid tables lines were going.lines_fit;
  written = going.written;
  honest = honest_after ring epoch pieces old mid (sent ++ letters) (answered_there ring pieces old mid lines were)
      (honest_both ring epoch pieces old sent letters going.honest (answers_honest ring epoch pieces old tables letters fit count going.lines_fit answers));
}

-- ---- an exchange without a fault ends the phase

pub told_after : (ring : Ring) (epoch : ℕ) (pieces : List Piece) (posts asked : List Posted) (ls : List Line) (ts : List CopyState) (ms : List Line) (us : List CopyState) → length ls ≡ ring.partitions * ring.copies → length ts ≡ ring.partitions * ring.copies → length us ≡ ring.partitions * ring.copies
    → AreAsks ring epoch pieces ls asked → Each (Contains posts) asked → AreLines ring pieces ls ts → OfBoth ring (Hears ring epoch posts) ls ts ms us → AreTold ring pieces ms
told_after ring epoch pieces posts asked ls ts ms us lines tables after asks came fits hears p j copy m m_is waits =
    let l = item_at ring ls lines p j copy in
    let t = item_at ring ts tables p j copy in
    let u = item_at ring us after p j copy in
    let here : Hears ring epoch posts p j l.0 t.0 m u.0 = hears p j copy l.0 t.0 m u.0 l.1 t.1 m_is u.1 in
    by l.0 t.0 u.0 l.1 (fits p j copy l.0 t.0 l.1 t.1) here l.0.is_done refl
  where
    by : (l : Line) (t u : CopyState) → slice_get ls (table_of ring p j) ≡ Some l → IsLine pieces p l t → Hears ring epoch posts p j l t m u → (b : Bool) → l.is_done ≡ b → IsTold pieces p m
    by l t u l_is fit here true done = absurd (two_sides (sym (here.done_stays done) ∙ waits))
    by l t u l_is fit here false not_yet =
        let arrive : (s : Posted) → Contains asked s → Contains posts s = λ s has'. All-contains (Contains posts) asked s came has' in
        let told = told_total ring epoch pieces posts asked ls p j l t m u copy l_is not_yet asks arrive here in
        record { total = told.0; asked = told.1; there = all_there ring epoch pieces posts asked ls p j l t m u copy l_is not_yet asks arrive fit here }

pub answered_after : (ring : Ring) (epoch : ℕ) (pieces : List Piece) (posts letters : List Posted) (old : List Line) (ts : List CopyState) (mid new : List Line) (us : List CopyState)
    → length old ≡ ring.partitions * ring.copies → length ts ≡ ring.partitions * ring.copies → length us ≡ ring.partitions * ring.copies
    → ((p j : ℕ) → IsCopy ring p j → slice_get mid (table_of ring p j) ≡ option_map answered (slice_get old (table_of ring p j))) → AreAnswers ring epoch old letters → Each (Contains posts) letters
    → AreLines ring pieces old ts → AreTold ring pieces old → OfBoth ring (Hears ring epoch posts) mid ts new us → (node : ℕ) → HasAnswered ring new node
answered_after ring epoch pieces posts letters old ts mid new us lines tables after were answers came fits told hears node p j copy holds n n_is =
    let l = item_at ring old lines p j copy in
    let t = item_at ring ts tables p j copy in
    let u = item_at ring us after p j copy in
    let here : Hears ring epoch posts p j (answered l.0) t.0 n u.0 = hears p j copy (answered l.0) t.0 n u.0 (were p j copy ∙ ap (option_map answered) l.1) t.1 n_is u.1 in
    by l.0 t.0 u.0 l.1 (fits p j copy l.0 t.0 l.1 t.1) here l.0.is_done refl
  where
    by : (l : Line) (t u : CopyState) → slice_get old (table_of ring p j) ≡ Some l → IsLine pieces p l t → Hears ring epoch posts p j (answered l) t n u → (b : Bool) → l.is_done ≡ b → n.is_done ≡ true
    by l t u l_is fit here true done = here.done_stays done
    by l t u l_is fit here false not_yet =
        let is_told : IsTold pieces p l = told p j copy l l_is not_yet in
        let sent = answers.sent p j copy l l_is is_told.total is_told.asked in
        let s : Posted = sent.0 in
        let answer : IsAnswer ring epoch p j l s = sent.2 in
        let all : answer_of epoch p answer.missing ≡ All epoch p = answers_all_there epoch pieces p l t answer.total answer.missing fit answer.has_total answer.misses is_told.there in
        here.alls (subst IsMessage all answer.readable)
        (subst (Contains posts) (answer.is ∙ ap (reply_of ring p j) all) (All-contains (Contains posts) letters s came sent.1))

-- ---- letters carried by a round

-- without a fault all letters that were sent in a round are given
pub carry_came : (f0 f1 f2 : ℕ) (fresh fresh' letters gv0 gv1 given' : List Posted) → f1 ≡ f0 → fresh' ≡ fresh ++ letters → gv1 ≡ gv0
    → (f2 ≡ f1 → Each (Contains (news gv1 given')) fresh') → (f2 ≡ f1) ⊎ (f2 ≡ f1 + 1) → Unless f0 f2 (Each (Contains (news gv0 given')) letters)
carry_came f0 f1 f2 fresh fresh' letters gv0 gv1 given' f more gv new_ones faults = elim faults [
  | inl same ↦ inr (
    same ∙ f,
    all_came fresh letters (news gv0 given') (subst (λ (z : List Posted). Each (Contains (news z given')) (fresh ++ letters)) gv (subst (λ (z : List Posted). Each (Contains (news gv1 given')) z) more (new_ones same))),
  )
  | inr rose ↦ inl (omega (arith, rose, f))
]

pub unless_then : (a b : ℕ) (P Q : Type 0) → (P → Q) → Unless a b P → Unless a b Q
unless_then a b P Q then h = elim h [ inl rose ↦ inl rose | inr fact ↦ inr (fact.0, then fact.1) ]

-- ---- a round of asking, and one of answering

pub ask_going : (ring : Ring) (epoch : ℕ) (pieces : List Piece) (posts sent letters sent' : List Posted) (ls : List Line) (ts : List CopyState) (ms : List Line) (us : List CopyState) → AreShippable ring pieces
    → length ls ≡ ring.partitions * ring.copies → length ts ≡ ring.partitions * ring.copies → length us ≡ ring.partitions * ring.copies → AreAsks ring epoch pieces ls letters → IsGoing ring epoch pieces sent ls ts
    → sent' ≡ sent ++ letters → Each (Contains (sent ++ letters)) posts → OfBoth ring (Hears ring epoch posts) ls ts ms us → OfTables ring (Brings ring epoch posts) ts us → IsGoing ring epoch pieces sent' ms us
ask_going ring epoch pieces posts sent letters sent' ls ts ms us fit lines tables after asks going is among hears brings =
    going_heard ring epoch pieces posts sent' ls ts ms us fit lines tables after
    (subst (λ (ps : List Posted). IsGoing ring epoch pieces ps ls ts) (sym is) (going_asked ring epoch pieces sent letters ls ts tables asks going)) (subst (λ (ps : List Posted). Each (Contains ps) posts) (sym is) among) hears brings

pub answer_going : (ring : Ring) (epoch : ℕ) (pieces : List Piece) (posts sent letters sent' : List Posted) (old : List Line) (ts : List CopyState) (mid new : List Line) (us : List CopyState) → IsRing ring → AreShippable ring pieces
    → length old ≡ ring.partitions * ring.copies → length ts ≡ ring.partitions * ring.copies → length mid ≡ ring.partitions * ring.copies → length us ≡ ring.partitions * ring.copies
    → ((p j : ℕ) → IsCopy ring p j → slice_get mid (table_of ring p j) ≡ option_map answered (slice_get old (table_of ring p j))) → AreAnswers ring epoch old letters → IsGoing ring epoch pieces sent old ts
    → sent' ≡ sent ++ letters → Each (Contains (sent ++ letters)) posts → OfBoth ring (Hears ring epoch posts) mid ts new us → OfTables ring (Brings ring epoch posts) ts us → IsGoing ring epoch pieces sent' new us
answer_going ring epoch pieces posts sent letters sent' old ts mid new us ring_fit fit lines tables mids after were answers going is among hears brings =
    going_heard ring epoch pieces posts sent' mid ts new us fit mids tables after
    (subst (λ (ps : List Posted). IsGoing ring epoch pieces ps mid ts) (sym is) (going_answered ring epoch pieces sent letters old mid ts ring_fit lines tables were answers going)) (subst (λ (ps : List Posted). Each (Contains ps) posts) (sym is) among) hears brings

-- what pends was written by pieces, whatever a round came to
pub ask_written : (ring : Ring) (epoch : ℕ) (pieces : List Piece) (posts sent letters : List Posted) (ls : List Line) (ts us : List CopyState) → length ts ≡ ring.partitions * ring.copies → AreAsks ring epoch pieces ls letters → IsGoing ring epoch pieces sent ls ts
    → Each (Contains (sent ++ letters)) posts → OfTables ring (Brings ring epoch posts) ts us → AreWritten ring pieces us
ask_written ring epoch pieces posts sent letters ls ts us tables asks going among brings =
    let asked = going_asked ring epoch pieces sent letters ls ts tables asks going in
    written_kept ring epoch pieces posts ls ts us tables (honest_some ring epoch pieces ls (sent ++ letters) posts asked.honest among) going.written brings

pub answer_written : (ring : Ring) (epoch : ℕ) (pieces : List Piece) (posts sent letters : List Posted) (old mid : List Line) (ts us : List CopyState) → IsRing ring → length old ≡ ring.partitions * ring.copies → length ts ≡ ring.partitions * ring.copies
    → ((p j : ℕ) → IsCopy ring p j → slice_get mid (table_of ring p j) ≡ option_map answered (slice_get old (table_of ring p j))) → AreAnswers ring epoch old letters → IsGoing ring epoch pieces sent old ts
    → Each (Contains (sent ++ letters)) posts → OfTables ring (Brings ring epoch posts) ts us → AreWritten ring pieces us
answer_written ring epoch pieces posts sent letters old mid ts us fit lines tables were answers going among brings =
    let said = going_answered ring epoch pieces sent letters old mid ts fit lines tables were answers going in
    written_kept ring epoch pieces posts mid ts us tables (honest_some ring epoch pieces mid (sent ++ letters) posts said.honest among) going.written brings

pub exchange_faults : (f0 f1 f2 : ℕ) (P Q R : Type 0) → (P → Q → R) → Unless f0 f1 P → Unless f1 f2 Q → Unless f0 f2 R
exchange_faults f0 f1 f2 P Q R both first second = elim first [
  | inl rose ↦ elim second [
    | inl more ↦ inl (omega (arith, rose, more))
    | inr same ↦ let kept : f2 ≡ f1 = same.0 in inl (omega (arith, rose, kept))
  ]
  | inr told ↦ elim second [
    | inl more ↦ let kept : f1 ≡ f0 = told.0 in inl (omega (arith, more, kept))
    | inr all ↦ inr (all.0 ∙ told.0, both told.1 all.1)
  ]
]

-- ---- the phase

-- letters that were sent before tell nothing of this epoch
pub others_honest : (ring : Ring) (epoch : ℕ) (pieces : List Piece) (lines : List Line) (posts : List Posted) → AreOther epoch posts → AreHonest ring epoch pieces lines posts
others_honest ring epoch pieces lines posts other s m has' is bytes = by m (other s m has' is bytes)
  where
    by : (m : Message) → IsOther epoch m → IsHonest ring epoch pieces lines s.letter.from m
    by (Ship of p place time writes) apart = λ same. absurd (apart same)
    by (Total of p places) apart = λ same. absurd (apart same)
    by (Missing of p places) apart = λ same. absurd (apart same)
    by (All of p) apart = λ same. absurd (apart same)
    by m apart = tt

pub going_first : (ring : Ring) (epoch : ℕ) (pieces : List Piece) (sent : List Posted) (lines : List Line) (tables : List CopyState) → AreBegun ring epoch pieces tables → AreOther epoch sent → AreLines ring pieces lines tables → IsGoing ring epoch pieces sent lines tables
going_first ring epoch pieces sent lines tables begun other fits = record {
  lines_fit = fits;
  written = begun.written;
  honest = others_honest ring epoch pieces lines sent other;
}

pub gain_only : (ring : Ring) (epoch : ℕ) (posts : List Posted) (ts us : List CopyState) → OfTables ring (Brings ring epoch posts) ts us → (p j : ℕ) → IsCopy ring p j
    → IfSome (slice_get ts (table_of ring p j)) (λ before. IfSome (slice_get us (table_of ring p j)) (Gains epoch p (letters_to (holder_of ring p j) posts) before))
gain_only ring epoch posts ts us brings p j copy = by (slice_get ts (table_of ring p j)) (slice_get us (table_of ring p j)) refl refl
  where
    by : (a b : Option CopyState) → slice_get ts (table_of ring p j) ≡ a → slice_get us (table_of ring p j) ≡ b → IfSome a (λ before. IfSome b (Gains epoch p (letters_to (holder_of ring p j) posts) before))
    by (Some t) (Some u) t_is u_is = brings p j copy t u t_is u_is
    by (Some t) None t_is u_is = tt
    by None b t_is u_is = tt

-- where all have answered, all is whole
pub whole_all : (ring : Ring) (epoch : ℕ) (pieces : List Piece) (sent : List Posted) (lines : List Line) (tables : List CopyState) → AreShippable ring pieces → length lines ≡ ring.partitions * ring.copies → IsGoing ring epoch pieces sent lines tables
    → ((node : ℕ) → HasAnswered ring lines node) → AreWhole ring epoch pieces tables
whole_all ring epoch pieces sent lines tables fit count going all p j copy = by (slice_get tables (table_of ring p j)) refl
  where
    by : (o : Option CopyState) → slice_get tables (table_of ring p j) ≡ o → IfSome o (HasPieces epoch pieces p)
    by None is = tt
    by (Some t) is =
        let line = item_at ring lines count p j copy in
        let done : line.0.is_done ≡ true = all (holder_of ring p j) p j copy refl line.0 line.1 in
        let fits : IsLine pieces p line.0 t = going.lines_fit p j copy line.0 t line.1 is in
        whole ring epoch pieces p t fit (subst (λ o. IfSome o (IsWritten pieces p)) is (going.written p j copy)) (λ x of. fits.there x of (fits.done done x of))

-- a line that is done now, and was not: its All was given
pub was_given : {ring : Ring} {epoch : ℕ} {ls ms : List Line} {ts us : List CopyState} (posts : List Posted) → FitRing ring epoch ls ts → FitRing ring epoch ms us → AreWaiting ring ls → OfBoth ring (IsDoneBy ring epoch posts) ls ts ms us
    → (p j : ℕ) → IsCopy ring p j → HasAnswered ring ms (holder_of ring p j) → Contains posts (all_of ring epoch p j)
was_given {ring} {epoch} {ls} {ms} {ts} {us} posts fit now waiting done p j copy all =
    let l = item_at ring ls fit.line_count p j copy in
    let t = item_at ring ts fit.table_count p j copy in
    let m = item_at ring ms now.line_count p j copy in
    let u = item_at ring us now.table_count p j copy in
    let here : IsDoneBy ring epoch posts p j l.0 t.0 m.0 u.0 = done p j copy l.0 t.0 m.0 u.0 l.1 t.1 m.1 u.1 in
    elim (here.only (all p j copy refl m.0 m.1)) [
      | inl old ↦ absurd (two_sides (sym old ∙ waiting p j copy l.0 l.1))
      | inr given ↦ given
    ]

-- a line that is waited for: its All was not given
pub not_given : {ring : Ring} {epoch : ℕ} {ls ms : List Line} {ts us : List CopyState} {node : ℕ} (posts : List Posted) → FitRing ring epoch ls ts → FitRing ring epoch ms us → OfBoth ring (IsDoneBy ring epoch posts) ls ts ms us
    → IsWaitedFor ring ms node → Owes ring epoch posts node
not_given {ring} {epoch} {ls} {ms} {ts} {us} posts fit now done waited = record {
  p = waited.p;
  j = waited.j;
  is_copy = waited.is_copy;
  holds = waited.holds;
  lacks = λ has'.
      let l = item_at ring ls fit.line_count waited.p waited.j waited.is_copy in
      let t = item_at ring ts fit.table_count waited.p waited.j waited.is_copy in
      let u = item_at ring us now.table_count waited.p waited.j waited.is_copy in
      let here : IsDoneBy ring epoch posts waited.p waited.j l.0 t.0 waited.line u.0 = done waited.p waited.j waited.is_copy l.0 t.0 waited.line u.0 l.1 t.1 waited.here u.1 in
      two_sides (sym (here.given_all has') ∙ waited.waits);
}

-- not all have answered while one is waited for
pub waited_not : (ring : Ring) (lines : List Line) (node : ℕ) → IsWaitedFor ring lines node → ((n : ℕ) → HasAnswered ring lines n) → ⊥
waited_not ring lines node waited all = two_sides (sym (all node waited.p waited.j waited.is_copy waited.holds waited.line waited.here) ∙ waited.waits)

-- a round counts one fault at most
pub risen : (a b c : ℕ) → (b ≡ a) ⊎ (b ≡ a + 1) → c ≡ b → a ≤ c
risen a b c one same = elim one [ inl is ↦ omega arith | inr more ↦ omega arith ]
