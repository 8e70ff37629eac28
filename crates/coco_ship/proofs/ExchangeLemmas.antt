-- The exchanges of a phase, one more at a time.
use Rattle.std.proofs.Common.{◌≡◌, ℕ, zero, suc, ◌+◌, ◌<◌, ◌≤◌, Bool, true, false, List, ◌++◌, Some, refl, sym, ◌∙◌, subst, arith, inl, inr, ◌⊎◌}
use Rattle.std.specs.List.{slice_get, Contains}
use Rattle.std.proofs.lemmas.List.Elements.{Contains-append_left}
use Rattle.coco_types.specs.declared.call.Piece.{Piece}
use Rattle.coco_msg.specs.declared.message.Message.TheVariants.{Total}
use Rattle.coco_net.specs.declared.letter.Posted.{Posted}
use Rattle.coco_net.specs.declared.net.Net.{Ghosts as NetGhosts}
use Rattle.coco_copy.specs.CopyState.{CopyState}
use Rattle.coco_ship.specs.declared.line.Line.{Line}
use Rattle.coco_ship.specs.declared.ring.Ring.{Ring}
use Rattle.coco_ship.specs.Placing.{holder_of, table_of}
use Rattle.coco_ship.specs.Pieces.{AreShippable}
use Rattle.coco_ship.specs.Lines.{AreWaiting}
use Rattle.coco_ship.specs.Shipping.{news, IsSilent}
use Rattle.coco_ship.specs.Sending.{ask_of, AreAsks}
use Rattle.coco_ship.specs.Taking.{OfBoth}
use Rattle.coco_ship.specs.Going.{HasAnswered, IsDoneBy, IsGoing, IsWaitedFor, Unless}
use Rattle.coco_ship.specs.Rounds.{FitRing, GoesOn, HasEnded, Ships}
use Rattle.coco_ship.specs.Exchanges.{AreAsked, AreExchanges, AreOwersAsked, IsAsked}
use Rattle.coco_ship.proofs.DeliverLemmas.{news_is, news_none}
use Rattle.coco_ship.proofs.ManyLemmas.{item_at}
use Rattle.coco_ship.proofs.RoundLemmas.{done_none, done_then, news_joined, not_given, passes_none, passes_then, waited_not, was_given, whole_all}
use Rattle.coco_ship.proofs.ThereLemmas.{exact_none, exact_then, right_none, right_then, there_all}

two_sides : true ≡ false → ⊥
two_sides h = cc

-- ---- who is asked

-- what is asked in a round of asking
pub asked_now : (ring : Ring) (epoch : ℕ) (pieces : List Piece) (lines : List Line) (sent letters sent' : List Posted) → AreAsks ring epoch pieces lines letters → sent' ≡ sent ++ letters → AreAsked ring epoch lines (news sent sent')
asked_now ring epoch pieces lines sent letters sent' asks is p j copy line here waits =
    (line.all, subst (λ (z : List Posted). Contains z (ask_of ring p j (Total epoch p line.all))) (sym (news_is sent sent' letters is)) (asks.totals p j copy line here waits).0, (asks.totals p j copy line here waits).1)

-- more is sent
pub asked_more_sent : (ring : Ring) (epoch : ℕ) (lines : List Line) (s0 s1 s2 : List Posted) → s1 ≡ s0 ++ news s0 s1 → s2 ≡ s1 ++ news s1 s2 → AreAsked ring epoch lines (news s0 s1) → AreAsked ring epoch lines (news s0 s2)
asked_more_sent ring epoch lines s0 s1 s2 first second asked p j copy line here waits =
    let by = asked p j copy line here waits in
    (by.0, subst (λ (z : List Posted). Contains z (ask_of ring p j (Total epoch p by.0))) (sym (news_joined s0 s1 s2 first second)) (Contains-append_left (news s0 s1) (news s1 s2) (ask_of ring p j (Total epoch p by.0)) by.1), by.2)

-- who waits now did so before
pub asked_before : {ring : Ring} {epoch : ℕ} {ms ns : List Line} {us vs : List CopyState} (posts : List Posted) → FitRing ring epoch ms us → FitRing ring epoch ns vs → OfBoth ring (IsDoneBy ring epoch posts) ms us ns vs
    → (sent : List Posted) → AreAsked ring epoch ms sent → AreAsked ring epoch ns sent
asked_before {ring} {epoch} {ms} {ns} {us} {vs} posts fit now done sent asked p j copy n n_is waits =
    let m = item_at ring ms fit.line_count p j copy in
    let u = item_at ring us fit.table_count p j copy in
    let v = item_at ring vs now.table_count p j copy in
    let here : IsDoneBy ring epoch posts p j m.0 u.0 n v.0 = done p j copy m.0 u.0 n v.0 m.1 u.1 n_is v.1 in
    by m.0 m.1 here.stays m.0.is_done refl
  where
    by : (m : Line) → slice_get ms (table_of ring p j) ≡ Some m → (m.is_done ≡ true → n.is_done ≡ true) → (b : Bool) → m.is_done ≡ b → IsAsked ring epoch sent p j
    by m m_is stays true is = absurd (two_sides (sym (stays is) ∙ waits))
    by m m_is stays false is = asked p j copy m m_is is

-- who owes an All waits
owers_asked : {ring : Ring} {epoch : ℕ} {ls ms : List Line} {ts us : List CopyState} (posts : List Posted) → FitRing ring epoch ls ts → FitRing ring epoch ms us → AreWaiting ring ls → OfBoth ring (IsDoneBy ring epoch posts) ls ts ms us
    → (sent : List Posted) → AreAsked ring epoch ms sent → AreOwersAsked ring epoch posts sent
owers_asked {ring} {epoch} {ls} {ms} {ts} {us} posts fit now waiting done sent asked p j copy owes =
    let l = item_at ring ls fit.line_count p j copy in
    let t = item_at ring ts fit.table_count p j copy in
    let m = item_at ring ms now.line_count p j copy in
    let u = item_at ring us now.table_count p j copy in
    let here : IsDoneBy ring epoch posts p j l.0 t.0 m.0 u.0 = done p j copy l.0 t.0 m.0 u.0 l.1 t.1 m.1 u.1 in
    by m.0 m.1 (λ is. elim (here.only is) [
      | inl old ↦ absurd (two_sides (sym old ∙ waiting p j copy l.0 l.1))
      | inr given ↦ owes given
    ]) m.0.is_done refl
  where
    by : (m : Line) → slice_get ms (table_of ring p j) ≡ Some m → (m.is_done ≡ true → ⊥) → (b : Bool) → m.is_done ≡ b → IsAsked ring epoch sent p j
    by m m_is nay true is = absurd (nay is)
    by m m_is nay false is = asked p j copy m m_is is

-- ---- one exchange more

pub exchanges_weaker : (n : ℕ) (P Q : List Posted → Type 0) → ((xs : List Posted) → P xs → Q xs) → (sent : List Posted) (f0 f1 : ℕ) → AreExchanges n P sent f0 f1 → AreExchanges n Q sent f0 f1
exchanges_weaker zero P Q then sent f0 f1 h = h
exchanges_weaker (suc n) P Q then sent f0 f1 h = (h.0, h.1, h.2, h.3, then h.1 h.4, h.5, exchanges_weaker n P Q then h.0 f0 h.2 h.6)

pub exchanges_rise : (n : ℕ) (P : List Posted → Type 0) (sent : List Posted) (f0 f1 : ℕ) → AreExchanges n P sent f0 f1 → f0 + n ≤ f1
exchanges_rise zero P sent f0 f1 h = omega (arith, h.1)
exchanges_rise (suc n) P sent f0 f1 h = let before : f0 + n ≤ h.2 = exchanges_rise n P h.0 f0 h.2 h.6 in omega (arith, before, h.5)

pub exchanges_none : (P : List Posted → Type 0) (s : List Posted) (f : ℕ) → AreExchanges 0 P (news s s) f f
exchanges_none P s f = (news_none s s refl, refl)

-- ---- what rounds leave, one behind another

module _ {N : Type 0} {nets : NetGhosts N} where
  pub ships_none : {ring : Ring} {epoch : ℕ} {pieces : List Piece} {ls ms : List Line} {ts : List CopyState} (net : N) → FitRing ring epoch ms ts → IsGoing ring epoch pieces (nets.sent net) ls ts → Ships nets ring epoch pieces net ls ts net ms ts
  ships_none {ring} {epoch} {pieces} {ls} net fit going = record {
    passes = passes_none net fit;
    written = going.written;
    right = right_none ring epoch pieces (nets.sent net) (nets.sent net) (nets.given net) ls (nets.given net) refl;
  }

  pub goes_none : {ring : Ring} {epoch : ℕ} {pieces : List Piece} {ls : List Line} {ts : List CopyState} (net : N) → IsGoing ring epoch pieces (nets.sent net) ls ts → GoesOn nets ring epoch pieces net ls ts net ls ts
  goes_none {ring} {epoch} {pieces} {ls} {ts} net going = record {
    going = going;
    exact = exact_none ring epoch pieces (nets.given net) ls;
    done = done_none ring epoch (nets.given net) ls ts;
  }

  pub ships_then : {ring : Ring} {epoch : ℕ} {pieces : List Piece} {a b c : N} {ls ms ns : List Line} {ts us vs : List CopyState}
      → Ships nets ring epoch pieces a ls ts b ms us → GoesOn nets ring epoch pieces a ls ts b ms us → Ships nets ring epoch pieces b ms us c ns vs → Ships nets ring epoch pieces a ls ts c ns vs
  ships_then {ring} {epoch} {pieces} {a} {b} {c} {ls} {ms} one goes two = record {
    passes = passes_then one.passes two.passes;
    written = two.written;
    right = right_then ring epoch pieces (nets.sent a) (nets.given a) ls (nets.sent b) (nets.given b) ms (nets.sent c) (nets.given c)
        one.passes.sends two.passes.sends one.passes.gives two.passes.gives one.right goes.exact two.right;
  }

  pub goes_then : {ring : Ring} {epoch : ℕ} {pieces : List Piece} {a b c : N} {ls ms ns : List Line} {ts us vs : List CopyState} → Ships nets ring epoch pieces a ls ts b ms us → GoesOn nets ring epoch pieces a ls ts b ms us
      → Ships nets ring epoch pieces b ms us c ns vs → GoesOn nets ring epoch pieces b ms us c ns vs → GoesOn nets ring epoch pieces a ls ts c ns vs
  goes_then {ring} {epoch} {pieces} {a} {b} {c} {ls} {ms} {ns} {ts} {us} {vs} one goes two more = record {
    going = more.going;
    exact = exact_then ring epoch pieces (nets.given a) ls (nets.given b) ms (nets.given c) ns one.passes.gives two.passes.gives goes.exact more.exact;
    done = done_then ring epoch (nets.given a) (nets.given b) (nets.given c) ls ts ms us ns vs one.passes.gives two.passes.gives one.passes.fit.line_count one.passes.fit.table_count goes.done more.done;
  }

  -- an exchange that doesn't end the phase is one more with a fault
  pub exchanges_then : {ring : Ring} {epoch : ℕ} {pieces : List Piece} {a b c : N} {ls ms ns : List Line} {ts us vs : List CopyState} {node : ℕ} (i : ℕ) → Ships nets ring epoch pieces a ls ts b ms us
      → Ships nets ring epoch pieces b ms us c ns vs → GoesOn nets ring epoch pieces b ms us c ns vs → AreAsked ring epoch ms (news (nets.sent b) (nets.sent c)) → Unless (nets.faults b) (nets.faults c) ((n : ℕ) → HasAnswered ring ns n)
      → IsWaitedFor ring ms node → AreExchanges i (AreAsked ring epoch ms) (news (nets.sent a) (nets.sent b)) (nets.faults a) (nets.faults b) ⊎ ((n : ℕ) → HasAnswered ring ms n)
      → AreExchanges (i + 1) (AreAsked ring epoch ns) (news (nets.sent a) (nets.sent c)) (nets.faults a) (nets.faults c) ⊎ ((n : ℕ) → HasAnswered ring ns n)
  exchanges_then {ring} {epoch} {pieces} {a} {b} {c} {ls} {ms} {ns} {node = node} i one two goes asked now waited before = elim now [
    | inl rose ↦ elim before [
      | inl so_far ↦
          let xs = news (nets.sent a) (nets.sent b) in
          let ys = news (nets.sent b) (nets.sent c) in
          let later : (sent : List Posted) → AreAsked ring epoch ms sent → AreAsked ring epoch ns sent = asked_before (news (nets.given b) (nets.given c)) one.passes.fit two.passes.fit goes.done in
          let more : AreExchanges (suc i) (AreAsked ring epoch ns) (news (nets.sent a) (nets.sent c)) (nets.faults a) (nets.faults c) =
          (xs, ys, nets.faults b, news_joined (nets.sent a) (nets.sent b) (nets.sent c) one.passes.sends two.passes.sends, later ys asked, omega (arith, rose), exchanges_weaker i (AreAsked ring epoch ms) (AreAsked ring epoch ns) later xs (nets.faults a) (nets.faults b) so_far) in
          let count : suc i ≡ i + 1 = omega arith in
          inl (subst (λ (n : ℕ). AreExchanges n (AreAsked ring epoch ns) (news (nets.sent a) (nets.sent c)) (nets.faults a) (nets.faults c)) count more)
      | inr all ↦ absurd (waited_not ring ms node waited all)
    ]
    | inr same ↦ inr same.1
  ]

  -- where all have answered, the phase has ended
  pub ended_now : {ring : Ring} {epoch : ℕ} {pieces : List Piece} {a b : N} {ls ms : List Line} {ts us : List CopyState} → AreShippable ring pieces → FitRing ring epoch ls ts → AreWaiting ring ls
      → Ships nets ring epoch pieces a ls ts b ms us → GoesOn nets ring epoch pieces a ls ts b ms us → ((node : ℕ) → HasAnswered ring ms node) → HasEnded nets ring epoch pieces a ls b us
  ended_now {ring} {epoch} {pieces} {a} {b} {ls} {ms} {ts} {us} shippable fit waiting ships goes all =
      let now = ships.passes.fit in
      let posts = news (nets.given a) (nets.given b) in
      record {
        whole = whole_all ring epoch pieces (nets.sent b) ms us shippable now.line_count goes.going all;
        there = λ starts so_far exact. there_all ring epoch pieces (nets.sent b) (so_far ++ posts) ms us starts now.line_count now.table_count goes.going all (goes.exact starts so_far exact);
        answered = λ p j copy. was_given posts fit now waiting goes.done p j copy (all (holder_of ring p j));
      }

  -- where one is waited for after 16 exchanges, the least such node is silent
  pub silent_now : {ring : Ring} {epoch : ℕ} {pieces : List Piece} {a b : N} {ls ms : List Line} {ts us : List CopyState} {node : ℕ} (i : ℕ) → i ≡ 16 → FitRing ring epoch ls ts → AreWaiting ring ls
      → Ships nets ring epoch pieces a ls ts b ms us → GoesOn nets ring epoch pieces a ls ts b ms us → AreExchanges i (AreAsked ring epoch ms) (news (nets.sent a) (nets.sent b)) (nets.faults a) (nets.faults b) ⊎ ((n : ℕ) → HasAnswered ring ms n)
      → IsWaitedFor ring ms node → ((n : ℕ) → n < node → HasAnswered ring ms n) → IsSilent ring epoch (news (nets.sent a) (nets.sent b)) (news (nets.given a) (nets.given b)) (nets.faults a) (nets.faults b) node
  silent_now {ring} {epoch} {pieces} {a} {b} {ls} {ms} {node = node} i last fit waiting ships goes before waited least =
      let now = ships.passes.fit in
      let posts = news (nets.given a) (nets.given b) in
      let sent = news (nets.sent a) (nets.sent b) in
      let made : AreExchanges i (AreOwersAsked ring epoch posts) sent (nets.faults a) (nets.faults b) = elim before [
        | inl so_far ↦ exchanges_weaker i (AreAsked ring epoch ms) (AreOwersAsked ring epoch posts) (owers_asked posts fit now waiting goes.done) sent (nets.faults a) (nets.faults b) so_far
        | inr all ↦ absurd (waited_not ring ms node waited all)
      ] in
      let exchanges : AreExchanges 16 (AreOwersAsked ring epoch posts) sent (nets.faults a) (nets.faults b) = subst (λ (n : ℕ). AreExchanges n (AreOwersAsked ring epoch posts) sent (nets.faults a) (nets.faults b)) last made in
      record {
        faults = exchanges_rise 16 (AreOwersAsked ring epoch posts) sent (nets.faults a) (nets.faults b) exchanges;
        exchanges = exchanges;
        owes = not_given posts fit now goes.done waited;
        least = λ p j copy less. was_given posts fit now waiting goes.done p j copy (least (holder_of ring p j) less);
      }
