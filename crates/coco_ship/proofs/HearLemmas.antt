-- What letters do, one after another.
use Rattle.std.proofs.Common.{◌≡◌, ℕ, Bool, true, false, is_some, List, [], ◌∷◌, ◌++◌, Ok, Result, refl, sym, ap, ◌∙◌, subst, arith, inl, inr, ◌⊎◌}
use Rattle.std.specs.List.{Contains}
use Rattle.std.specs.FinMap.{get}
use Rattle.std.proofs.lemmas.Bool.{cases_eq}
use Rattle.std.proofs.lemmas.List.Elements.{Contains-append_cases, Contains-append_left, Contains-append_right}
use Rattle.coco_types.specs.declared.call.Write.{Write}
use Rattle.coco_bytes.specs.declared.fault.FieldFault.{FieldFault}
use Rattle.coco_msg.specs.declared.message.Message.{Message}
use Rattle.coco_msg.specs.declared.message.Message.TheVariants.{Ship, Total, Missing, All}
use Rattle.coco_msg.specs.Bytes.{bytes_of, epoch_of, IsMessage}
use Rattle.coco_msg.specs.Reading.{message_in}
use Rattle.coco_msg.proofs.MessageLemmas.{message_again}
use Rattle.coco_net.specs.declared.letter.Letter.{Letter}
use Rattle.coco_copy.specs.CopyState.{CopyState}
use Rattle.coco_ship.specs.declared.line.Line.{Line}
use Rattle.coco_ship.specs.declared.ring.Ring.{Ring}
use Rattle.coco_ship.specs.Placing.{holder_of, primary_of}
use Rattle.coco_ship.specs.Sets.{is_in}
use Rattle.coco_ship.specs.Pieces.{covers_at}
use Rattle.coco_net.specs.declared.letter.Posted.{Posted}
use Rattle.coco_ship.specs.Letters.{letter_of, posted_of, ship_of, Gains}
use Rattle.coco_ship.specs.Sending.{reply_of}
use Rattle.coco_ship.specs.Taking.{Hears, Puts, Speaks, Takes, TakesAt}
use Rattle.coco_ship.proofs.PutLemmas.{covers_grows}
use Rattle.coco_ship.proofs.WholeLemmas.{only_one}

two_sides : true ≡ false → ⊥
two_sides h = cc

-- bytes are those of one message at most
pub one_message : (bytes : List ℕ) (m n : Message) → IsMessage m → IsMessage n → bytes ≡ bytes_of m → bytes ≡ bytes_of n → m ≡ n
one_message bytes m n is_m is_n of_m of_n = same (message_in bytes) (message_again bytes m is_m of_m) (message_again bytes n is_n of_n)
  where
    same : (r : Result Message FieldFault) → r ≡ Ok m → r ≡ Ok n → m ≡ n
    same r a b = let e : ◌≡◌ {A = Result Message FieldFault} (Ok m) (Ok n) = sym a ∙ b in cc

-- ---- tables

pub gains_none : (epoch p : ℕ) (letters : List Letter) (t : CopyState) → Gains epoch p letters t t
gains_none epoch p letters t = record { epoch_stays = refl; stable_stays = refl; pending = λ k. inl refl }

pub gains_then : (epoch p : ℕ) (xs ys : List Letter) (t m u : CopyState) → Gains epoch p xs t m → Gains epoch p ys m u → Gains epoch p (xs ++ ys) t u
gains_then epoch p xs ys t m u first second = record {
  epoch_stays = second.epoch_stays ∙ first.epoch_stays;
  stable_stays = second.stable_stays ∙ first.stable_stays;
  pending = λ k. elim (second.pending k) [
    | inl same ↦ elim (first.pending k) [
      | inl before ↦ inl (same ∙ before)
      | inr by ↦ inr (by.0, by.1, by.2, Contains-append_left xs ys (letter_of by.0 (ship_of epoch by.1)) by.3, by.4, by.5, by.6, same ∙ by.7, by.8)
    ]
    | inr by ↦ inr (by.0, by.1, by.2, Contains-append_right xs ys (letter_of by.0 (ship_of epoch by.1)) by.3, by.4, by.5, by.6, by.7, by.8)
  ];
}

-- puts of a piece's writes are gains from its letter
pub puts_gain : (epoch p from place time : ℕ) (writes : List Write) (t u : CopyState) → IsMessage (Ship epoch p place time writes) → Puts time writes t u → Gains epoch p (letter_of from (Ship epoch p place time writes) ∷ []) t u
puts_gain epoch p from place time writes t u readable puts = record {
  epoch_stays = puts.epoch_stays;
  stable_stays = puts.stable_stays;
  pending = λ k. elim (puts.pending k) [
    | inl same ↦ inl same
    | inr by ↦ inr (from, record { place = place; partition = p; time = time; writes = writes }, by.0, (0, omega arith, refl), refl, by.1, by.2, by.3, readable)
  ];
}

-- ---- lines

pub hears_none : (ring : Ring) (epoch p j : ℕ) (l : Line) (t : CopyState) → Hears ring epoch [] p j l t l t
hears_none ring epoch p j l t = record {
  grows = λ k time h. h;
  all = refl;
  there_stays = λ q h. h;
  there = λ q h. inl h;
  total = inl refl;
  lacking = λ q h. inl h;
  done = λ h. inl h;
  lacking_falls = λ q h. h;
  done_stays = λ h. h;
  asked_stays = λ h. h;
  total_stays = λ h. h;
  ships = λ from x is of has. absurd (omega (arith, has.1));
  totals = λ from places is has. absurd (omega (arith, has.1));
  alls = λ is has. absurd (omega (arith, has.1));
}

pub hears_then : (ring : Ring) (epoch : ℕ) (xs ys : List Posted) (p j : ℕ) (l : Line) (t : CopyState) (m : Line) (u : CopyState) (n : Line) (v : CopyState)
    → Hears ring epoch xs p j l t m u → Hears ring epoch ys p j m u n v → Hears ring epoch (xs ++ ys) p j l t n v
hears_then ring epoch xs ys p j l t m u n v first second = record {
  grows = λ k time h. second.grows k time (first.grows k time h);
  all = second.all ∙ first.all;
  there_stays = λ q h. second.there_stays q (first.there_stays q h);
  there = λ q h. elim (second.there q h) [
    | inl before ↦ elim (first.there q before) [
      | inl earlier ↦ inl earlier
      | inr by ↦ inr (by.0, by.1, Contains-append_left xs ys (posted_of by.0 (holder_of ring p j) (ship_of epoch by.1)) by.2, by.3, by.4, covers_grows u v second.grows by.1.time by.1.writes by.5, by.6)
    ]
    | inr by ↦ inr (by.0, by.1, Contains-append_right xs ys (posted_of by.0 (holder_of ring p j) (ship_of epoch by.1)) by.2, by.3, by.4, by.5, by.6)
  ];
  total = elim second.total [
    | inl same ↦ elim first.total [
      | inl before ↦ inl (same ∙ before)
      | inr by ↦ inr (by.0, by.1, Contains-append_left xs ys (posted_of by.0 (holder_of ring p j) (Total epoch p by.1)) by.2, same ∙ by.3, by.4)
    ]
    | inr by ↦ inr (by.0, by.1, Contains-append_right xs ys (posted_of by.0 (holder_of ring p j) (Total epoch p by.1)) by.2, by.3, by.4)
  ];
  lacking = λ q h. elim (second.lacking q h) [
    | inl before ↦ elim (first.lacking q before) [
      | inl earlier ↦ inl earlier
      | inr by ↦ inr (by.0, Contains-append_left xs ys (reply_of ring p j (Missing epoch p by.0)) by.1, by.2, by.3)
    ]
    | inr by ↦ inr (by.0, Contains-append_right xs ys (reply_of ring p j (Missing epoch p by.0)) by.1, by.2, by.3)
  ];
  done = λ h. elim (second.done h) [
    | inl before ↦ elim (first.done before) [
      | inl earlier ↦ inl earlier
      | inr by ↦ inr (Contains-append_left xs ys (reply_of ring p j (All epoch p)) by.0, by.1)
    ]
    | inr by ↦ inr (Contains-append_right xs ys (reply_of ring p j (All epoch p)) by.0, by.1)
  ];
  lacking_falls = λ q h. first.lacking_falls q (second.lacking_falls q h);
  done_stays = λ h. second.done_stays (first.done_stays h);
  asked_stays = λ h. second.asked_stays (first.asked_stays h);
  total_stays = λ h. second.total_stays (first.total_stays h);
  ships = λ from x is of has. elim (Contains-append_cases xs ys (posted_of from (holder_of ring p j) (ship_of epoch x)) has) [
    | inl early ↦ let heard = first.ships from x is of early in (second.there_stays x.place heard.0, second.asked_stays heard.1)
    | inr late ↦ second.ships from x is of late
  ];
  totals = λ from places is has. elim (Contains-append_cases xs ys (posted_of from (holder_of ring p j) (Total epoch p places)) has) [
    | inl early ↦ let heard = first.totals from places is early in (second.total_stays heard.0, second.asked_stays heard.1)
    | inr late ↦ second.totals from places is late
  ];
  alls = λ is has. elim (Contains-append_cases xs ys (reply_of ring p j (All epoch p)) has) [
    | inl early ↦ second.done_stays (first.alls is early)
    | inr late ↦ second.alls is late
  ];
}

-- a letter to a node
abbrev pub posted : ℕ → Letter → Posted
posted node letter = record { to = node; letter = letter }

abbrev pub to_node : ℕ → Letter → List Posted
to_node node letter = posted node letter ∷ []

-- a letter of which this line hears nothing
pub hears_stay : (ring : Ring) (epoch node : ℕ) (letter : Letter) (p j : ℕ) (l : Line) (t : CopyState) (m : Line) (u : CopyState) → m ≡ l → u ≡ t
    → ((n : Message) → IsMessage n → epoch_of n ≡ epoch → letter.bytes ≡ bytes_of n → Speaks ring node letter.from n p j → ⊥)
    → Hears ring epoch (to_node node letter) p j l t m u
hears_stay ring epoch node letter p j l t m u same still silent = record {
  grows = λ k time h. ap (λ (s : CopyState). covers_at (get s.pending k) time) still ∙ h;
  all = ap (λ (z : Line). z.all) same;
  there_stays = λ q h. ap (λ (z : Line). is_in z.there q) same ∙ h;
  there = λ q h. inl (ap (λ (z : Line). is_in z.there q) (sym same) ∙ h);
  total = inl (ap (λ (z : Line). z.total) same);
  lacking = λ q h. inl (ap (λ (z : Line). is_in z.lacking q) (sym same) ∙ h);
  done = λ h. inl (ap (λ (z : Line). z.is_done) (sym same) ∙ h);
  lacking_falls = λ q h. ap (λ (z : Line). is_in z.lacking q) (sym same) ∙ h;
  done_stays = λ h. ap (λ (z : Line). z.is_done) same ∙ h;
  asked_stays = λ h. ap (λ (z : Line). z.is_asked) same ∙ h;
  total_stays = λ h. ap (λ (z : Line). is_some z.total) same ∙ h;
  ships = λ from x is of has.
      let same_post = only_one (posted node letter) (posted_of from (holder_of ring p j) (ship_of epoch x)) has in
      absurd (silent (ship_of epoch x) is refl (ap (λ (z : Posted). z.letter.bytes) same_post) (of, sym (ap (λ (z : Posted). z.to) same_post)));
  totals = λ from places is has.
      let same_post = only_one (posted node letter) (posted_of from (holder_of ring p j) (Total epoch p places)) has in
      absurd (silent (Total epoch p places) is refl (ap (λ (z : Posted). z.letter.bytes) same_post) (refl, sym (ap (λ (z : Posted). z.to) same_post)));
  alls = λ is has.
      let same_post = only_one (posted node letter) (reply_of ring p j (All epoch p)) has in
      absurd (silent (All epoch p) is refl (ap (λ (z : Posted). z.letter.bytes) same_post) (refl, sym (ap (λ (z : Posted). z.to) same_post), sym (ap (λ (z : Posted). z.letter.from) same_post)));
}

first : {X : Type 0} (x : X) → Contains (x ∷ []) x
first x = (0, omega arith, refl)

same_bytes : (a b : Posted) → Contains (a ∷ []) b → a.letter.bytes ≡ b.letter.bytes
same_bytes a b has = ap (λ (z : Posted). z.letter.bytes) (only_one a b has)

hears_ship : (ring : Ring) (epoch : ℕ) (from : ℕ) (p j : ℕ) (place time : ℕ) (writes : List Write) (l : Line) (t : CopyState) (m : Line) (u : CopyState) → IsMessage (Ship epoch p place time writes)
    → Takes (Ship epoch p place time writes) l t m u → Hears ring epoch (to_node (holder_of ring p j) (letter_of from (Ship epoch p place time writes))) p j l t m u
hears_ship ring epoch from p j place time writes l t m u is takes =
    record {
      grows = takes.puts.grows;
      all = ap (λ (z : Line). z.all) takes.rest;
      there_stays = takes.there.stay;
      there = λ q h. elim (takes.there.only q h) [
        | inl new ↦ inr (from, record { place = place; partition = p; time = time; writes = writes }, first (posted (holder_of ring p j) (letter_of from (Ship epoch p place time writes))), refl, sym new, takes.pend, is)
        | inr old ↦ inl old
      ];
      total = inl (ap (λ (z : Line). z.total) takes.rest);
      lacking = λ q h. inl (sym (ap (λ (z : Line). is_in z.lacking q) takes.rest) ∙ h);
      done = λ h. inl (sym (ap (λ (z : Line). z.is_done) takes.rest) ∙ h);
      lacking_falls = λ q h. sym (ap (λ (z : Line). is_in z.lacking q) takes.rest) ∙ h;
      done_stays = λ h. ap (λ (z : Line). z.is_done) takes.rest ∙ h;
      asked_stays = λ h. ap (λ (z : Line). z.is_asked) takes.rest;
      total_stays = λ h. ap (λ (z : Line). is_some z.total) takes.rest ∙ h;
      ships = λ sender y is_y of heard.
          let one : Ship epoch p place time writes ≡ ship_of epoch y = one_message (bytes_of (Ship epoch p place time writes)) (Ship epoch p place time writes) (ship_of epoch y) is is_y refl (same_bytes (posted (holder_of ring p j) (letter_of from (Ship epoch p place time writes))) (posted_of sender (holder_of ring p j) (ship_of epoch y)) heard) in
          let same : place ≡ y.place = cc in
          (ap (is_in m.there) (sym same) ∙ takes.there.there, ap (λ (z : Line). z.is_asked) takes.rest);
      totals = λ sender names is_y heard.
          let one : Ship epoch p place time writes ≡ Total epoch p names = one_message (bytes_of (Ship epoch p place time writes)) (Ship epoch p place time writes) (Total epoch p names) is is_y refl (same_bytes (posted (holder_of ring p j) (letter_of from (Ship epoch p place time writes))) (posted_of sender (holder_of ring p j) (Total epoch p names)) heard) in
          let never : ⊥ = cc in absurd never;
      alls = λ is_y heard.
          let one : Ship epoch p place time writes ≡ All epoch p = one_message (bytes_of (Ship epoch p place time writes)) (Ship epoch p place time writes) (All epoch p) is is_y refl (same_bytes (posted (holder_of ring p j) (letter_of from (Ship epoch p place time writes))) (reply_of ring p j (All epoch p)) heard) in
          let never : ⊥ = cc in absurd never;
    }

hears_total : (ring : Ring) (epoch : ℕ) (from : ℕ) (p j : ℕ) (places : List ℕ) (l : Line) (t : CopyState) (m : Line) (u : CopyState) → IsMessage (Total epoch p places)
    → Takes (Total epoch p places) l t m u → Hears ring epoch (to_node (holder_of ring p j) (letter_of from (Total epoch p places))) p j l t m u
hears_total ring epoch from p j places l t m u is takes =
    record {
      grows = λ k time h. ap (λ (s : CopyState). covers_at (get s.pending k) time) takes.1 ∙ h;
      all = ap (λ (z : Line). z.all) takes.0;
      there_stays = λ q h. ap (λ (z : Line). is_in z.there q) takes.0 ∙ h;
      there = λ q h. inl (sym (ap (λ (z : Line). is_in z.there q) takes.0) ∙ h);
      total = inr (from, places, first (posted (holder_of ring p j) (letter_of from (Total epoch p places))), ap (λ (z : Line). z.total) takes.0, is);
      lacking = λ q h. inl (sym (ap (λ (z : Line). is_in z.lacking q) takes.0) ∙ h);
      done = λ h. inl (sym (ap (λ (z : Line). z.is_done) takes.0) ∙ h);
      lacking_falls = λ q h. sym (ap (λ (z : Line). is_in z.lacking q) takes.0) ∙ h;
      done_stays = λ h. ap (λ (z : Line). z.is_done) takes.0 ∙ h;
      asked_stays = λ h. ap (λ (z : Line). z.is_asked) takes.0;
      total_stays = λ h. ap (λ (z : Line). is_some z.total) takes.0;
      ships = λ sender y is_y of heard.
          let one : Total epoch p places ≡ ship_of epoch y = one_message (bytes_of (Total epoch p places)) (Total epoch p places) (ship_of epoch y) is is_y refl (same_bytes (posted (holder_of ring p j) (letter_of from (Total epoch p places))) (posted_of sender (holder_of ring p j) (ship_of epoch y)) heard) in
          let never : ⊥ = cc in absurd never;
      totals = λ sender names is_y heard. (ap (λ (z : Line). is_some z.total) takes.0, ap (λ (z : Line). z.is_asked) takes.0);
      alls = λ is_y heard.
          let one : Total epoch p places ≡ All epoch p = one_message (bytes_of (Total epoch p places)) (Total epoch p places) (All epoch p) is is_y refl (same_bytes (posted (holder_of ring p j) (letter_of from (Total epoch p places))) (reply_of ring p j (All epoch p)) heard) in
          let never : ⊥ = cc in absurd never;
    }

hears_missing : (ring : Ring) (epoch : ℕ) (p j : ℕ) (places : List ℕ) (l : Line) (t : CopyState) (m : Line) (u : CopyState) → IsMessage (Missing epoch p places)
    → Takes (Missing epoch p places) l t m u → Hears ring epoch (to_node (primary_of ring p) (letter_of (holder_of ring p j) (Missing epoch p places))) p j l t m u
hears_missing ring epoch p j places l t m u is takes =
    record {
      grows = λ k time h. ap (λ (s : CopyState). covers_at (get s.pending k) time) takes.1 ∙ h;
      all = ap (λ (z : Line). z.all) takes.0.rest;
      there_stays = λ q h. ap (λ (z : Line). is_in z.there q) takes.0.rest ∙ h;
      there = λ q h. inl (sym (ap (λ (z : Line). is_in z.there q) takes.0.rest) ∙ h);
      total = inl (ap (λ (z : Line). z.total) takes.0.rest);
      lacking = λ q h. left_out q (is_in l.lacking q) (is_in places q) refl refl h;
      done = λ h. inl (sym (ap (λ (z : Line). z.is_done) takes.0.rest) ∙ h);
      lacking_falls = λ q h. (takes.0.lacking.only q h).0;
      done_stays = λ h. ap (λ (z : Line). z.is_done) takes.0.rest ∙ h;
      asked_stays = λ h. ap (λ (z : Line). z.is_asked) takes.0.rest ∙ h;
      total_stays = λ h. ap (λ (z : Line). is_some z.total) takes.0.rest ∙ h;
      ships = λ sender y is_y of heard.
          let one : Missing epoch p places ≡ ship_of epoch y = one_message (bytes_of (Missing epoch p places)) (Missing epoch p places) (ship_of epoch y) is is_y refl (same_bytes (posted (primary_of ring p) (letter_of (holder_of ring p j) (Missing epoch p places))) (posted_of sender (holder_of ring p j) (ship_of epoch y)) heard) in
          let never : ⊥ = cc in absurd never;
      totals = λ sender names is_y heard.
          let one : Missing epoch p places ≡ Total epoch p names = one_message (bytes_of (Missing epoch p places)) (Missing epoch p places) (Total epoch p names) is is_y refl (same_bytes (posted (primary_of ring p) (letter_of (holder_of ring p j) (Missing epoch p places))) (posted_of sender (holder_of ring p j) (Total epoch p names)) heard) in
          let never : ⊥ = cc in absurd never;
      alls = λ is_y heard.
          let one : Missing epoch p places ≡ All epoch p = one_message (bytes_of (Missing epoch p places)) (Missing epoch p places) (All epoch p) is is_y refl (same_bytes (posted (primary_of ring p) (letter_of (holder_of ring p j) (Missing epoch p places))) (reply_of ring p j (All epoch p)) heard) in
          let never : ⊥ = cc in absurd never;
    }
  where
    left_out : (q : ℕ) (a b : Bool) → is_in l.lacking q ≡ a → is_in places q ≡ b → is_in m.lacking q ≡ false
        → (is_in l.lacking q ≡ false) ⊎ ((names : List ℕ) × Contains (to_node (primary_of ring p) (letter_of (holder_of ring p j) (Missing epoch p places))) (reply_of ring p j (Missing epoch p names)) × (is_in names q ≡ false) × IsMessage (Missing epoch p names))
    left_out q false b lacked named h = inl lacked
    left_out q true false lacked named h = inr (places, first (posted (primary_of ring p) (letter_of (holder_of ring p j) (Missing epoch p places))), named, is)
    left_out q true true lacked named h = absurd (two_sides (sym (takes.0.lacking.both q lacked named) ∙ h))

hears_all : (ring : Ring) (epoch : ℕ) (p j : ℕ) (l : Line) (t : CopyState) (m : Line) (u : CopyState) → IsMessage (All epoch p)
    → Takes (All epoch p) l t m u → Hears ring epoch (to_node (primary_of ring p) (letter_of (holder_of ring p j) (All epoch p))) p j l t m u
hears_all ring epoch p j l t m u is takes =
    record {
      grows = λ k time h. ap (λ (s : CopyState). covers_at (get s.pending k) time) takes.1 ∙ h;
      all = ap (λ (z : Line). z.all) takes.0;
      there_stays = λ q h. ap (λ (z : Line). is_in z.there q) takes.0 ∙ h;
      there = λ q h. inl (sym (ap (λ (z : Line). is_in z.there q) takes.0) ∙ h);
      total = inl (ap (λ (z : Line). z.total) takes.0);
      lacking = λ q h. inl (sym (ap (λ (z : Line). is_in z.lacking q) takes.0) ∙ h);
      done = λ h. inr (first (posted (primary_of ring p) (letter_of (holder_of ring p j) (All epoch p))), is);
      lacking_falls = λ q h. sym (ap (λ (z : Line). is_in z.lacking q) takes.0) ∙ h;
      done_stays = λ h. ap (λ (z : Line). z.is_done) takes.0;
      asked_stays = λ h. ap (λ (z : Line). z.is_asked) takes.0 ∙ h;
      total_stays = λ h. ap (λ (z : Line). is_some z.total) takes.0 ∙ h;
      ships = λ sender y is_y of heard.
          let one : All epoch p ≡ ship_of epoch y = one_message (bytes_of (All epoch p)) (All epoch p) (ship_of epoch y) is is_y refl (same_bytes (posted (primary_of ring p) (letter_of (holder_of ring p j) (All epoch p))) (posted_of sender (holder_of ring p j) (ship_of epoch y)) heard) in
          let never : ⊥ = cc in absurd never;
      totals = λ sender names is_y heard.
          let one : All epoch p ≡ Total epoch p names = one_message (bytes_of (All epoch p)) (All epoch p) (Total epoch p names) is is_y refl (same_bytes (posted (primary_of ring p) (letter_of (holder_of ring p j) (All epoch p))) (posted_of sender (holder_of ring p j) (Total epoch p names)) heard) in
          let never : ⊥ = cc in absurd never;
      alls = λ is_y heard. ap (λ (z : Line). z.is_done) takes.0;
    }

both_or : {A B : Type 0} → A ⊎ (A → ⊥) → B ⊎ (B → ⊥) → (A × B) ⊎ (A × B → ⊥)
both_or (inl a) (inl b) = inl (a, b)
both_or (inl a) (inr nay) = inr (λ h. nay h.1)
both_or (inr nay) b = inr (λ h. nay h.0)

all_or : {A B C : Type 0} → A ⊎ (A → ⊥) → B ⊎ (B → ⊥) → C ⊎ (C → ⊥) → (A × B × C) ⊎ (A × B × C → ⊥)
all_or (inl a) (inl b) (inl c) = inl (a, b, c)
all_or (inl a) (inl b) (inr nay) = inr (λ h. nay h.2)
all_or (inl a) (inr nay) c = inr (λ h. nay h.1)
all_or (inr nay) b c = inr (λ h. nay h.0)

-- a message that this line doesn't take
stays_at : (ring : Ring) (epoch node from : ℕ) (msg : Message) (p j : ℕ) (l : Line) (t : CopyState) (m : Line) (u : CopyState) → IsMessage msg → TakesAt ring node from msg p j l t m u
    → (Speaks ring node from msg p j → ⊥) → Hears ring epoch (to_node node (letter_of from msg)) p j l t m u
stays_at ring epoch node from msg p j l t m u is takes nay =
    hears_stay ring epoch node (letter_of from msg) p j l t m u (takes.stays nay).0 (takes.stays nay).1
    (λ n is_n of bytes speaks. nay (subst (λ z. Speaks ring node from z p j) (one_message (bytes_of msg) n msg is_n is bytes refl) speaks))

ship_at : (ring : Ring) (epoch node from q : ℕ) (place time : ℕ) (writes : List Write) (p j : ℕ) (l : Line) (t : CopyState) (m : Line) (u : CopyState) → IsMessage (Ship epoch q place time writes)
    → TakesAt ring node from (Ship epoch q place time writes) p j l t m u → Hears ring epoch (to_node node (letter_of from (Ship epoch q place time writes))) p j l t m u
ship_at ring epoch node from q place time writes p j l t m u is takes =
    elim (both_or (cases_eq q p) (cases_eq (holder_of ring p j) node)) [
      | inl speaks ↦ subst (λ node. Hears ring epoch (to_node node (letter_of from (Ship epoch q place time writes))) p j l t m u) speaks.1
          (subst (λ q. IsMessage (Ship epoch q place time writes) → Takes (Ship epoch q place time writes) l t m u → Hears ring epoch (to_node (holder_of ring p j) (letter_of from (Ship epoch q place time writes))) p j l t m u) (sym speaks.0)
          (hears_ship ring epoch from p j place time writes l t m u) is (takes.here speaks))
      | inr nay ↦ stays_at ring epoch node from (Ship epoch q place time writes) p j l t m u is takes nay
    ]

total_at : (ring : Ring) (epoch node from q : ℕ) (places : List ℕ) (p j : ℕ) (l : Line) (t : CopyState) (m : Line) (u : CopyState) → IsMessage (Total epoch q places)
    → TakesAt ring node from (Total epoch q places) p j l t m u → Hears ring epoch (to_node node (letter_of from (Total epoch q places))) p j l t m u
total_at ring epoch node from q places p j l t m u is takes =
    elim (both_or (cases_eq q p) (cases_eq (holder_of ring p j) node)) [
      | inl speaks ↦ subst (λ node. Hears ring epoch (to_node node (letter_of from (Total epoch q places))) p j l t m u) speaks.1
          (subst (λ q. IsMessage (Total epoch q places) → Takes (Total epoch q places) l t m u → Hears ring epoch (to_node (holder_of ring p j) (letter_of from (Total epoch q places))) p j l t m u) (sym speaks.0)
          (hears_total ring epoch from p j places l t m u) is (takes.here speaks))
      | inr nay ↦ stays_at ring epoch node from (Total epoch q places) p j l t m u is takes nay
    ]

missing_at : (ring : Ring) (epoch node from q : ℕ) (places : List ℕ) (p j : ℕ) (l : Line) (t : CopyState) (m : Line) (u : CopyState) → IsMessage (Missing epoch q places)
    → TakesAt ring node from (Missing epoch q places) p j l t m u → Hears ring epoch (to_node node (letter_of from (Missing epoch q places))) p j l t m u
missing_at ring epoch node from q places p j l t m u is takes =
    elim (all_or (cases_eq q p) (cases_eq (primary_of ring p) node) (cases_eq (holder_of ring p j) from)) [
      | inl speaks ↦ subst (λ node. Hears ring epoch (to_node node (letter_of from (Missing epoch q places))) p j l t m u) speaks.1 (subst (λ from. Hears ring epoch (to_node (primary_of ring p) (letter_of from (Missing epoch q places))) p j l t m u) speaks.2
          (subst (λ q. IsMessage (Missing epoch q places) → Takes (Missing epoch q places) l t m u → Hears ring epoch (to_node (primary_of ring p) (letter_of (holder_of ring p j) (Missing epoch q places))) p j l t m u) (sym speaks.0)
          (hears_missing ring epoch p j places l t m u) is (takes.here speaks)))
      | inr nay ↦ stays_at ring epoch node from (Missing epoch q places) p j l t m u is takes nay
    ]

done_at : (ring : Ring) (epoch node from q : ℕ) (p j : ℕ) (l : Line) (t : CopyState) (m : Line) (u : CopyState) → IsMessage (All epoch q)
    → TakesAt ring node from (All epoch q) p j l t m u → Hears ring epoch (to_node node (letter_of from (All epoch q))) p j l t m u
done_at ring epoch node from q p j l t m u is takes =
    elim (all_or (cases_eq q p) (cases_eq (primary_of ring p) node) (cases_eq (holder_of ring p j) from)) [
      | inl speaks ↦ subst (λ node. Hears ring epoch (to_node node (letter_of from (All epoch q))) p j l t m u) speaks.1 (subst (λ from. Hears ring epoch (to_node (primary_of ring p) (letter_of from (All epoch q))) p j l t m u) speaks.2
          (subst (λ q. IsMessage (All epoch q) → Takes (All epoch q) l t m u → Hears ring epoch (to_node (primary_of ring p) (letter_of (holder_of ring p j) (All epoch q))) p j l t m u) (sym speaks.0)
          (hears_all ring epoch p j l t m u) is (takes.here speaks)))
      | inr nay ↦ stays_at ring epoch node from (All epoch q) p j l t m u is takes nay
    ]

-- what a message does is what its letter does
pub hears_at : (ring : Ring) (epoch node from : ℕ) (msg : Message) (p j : ℕ) (l : Line) (t : CopyState) (m : Line) (u : CopyState) → epoch_of msg ≡ epoch → IsMessage msg → TakesAt ring node from msg p j l t m u
    → Hears ring epoch (to_node node (letter_of from msg)) p j l t m u
hears_at ring epoch node from (Ship of q place time writes) p j l t m u same is takes =
    subst (λ e. Hears ring e (to_node node (letter_of from (Ship of q place time writes))) p j l t m u) same (ship_at ring of node from q place time writes p j l t m u is takes)
hears_at ring epoch node from (Total of q places) p j l t m u same is takes =
    subst (λ e. Hears ring e (to_node node (letter_of from (Total of q places))) p j l t m u) same (total_at ring of node from q places p j l t m u is takes)
hears_at ring epoch node from (Missing of q places) p j l t m u same is takes =
    subst (λ e. Hears ring e (to_node node (letter_of from (Missing of q places))) p j l t m u) same (missing_at ring of node from q places p j l t m u is takes)
hears_at ring epoch node from (All of q) p j l t m u same is takes =
    subst (λ e. Hears ring e (to_node node (letter_of from (All of q))) p j l t m u) same (done_at ring of node from q p j l t m u is takes)
hears_at ring epoch node from msg p j l t m u same is takes = stays_at ring epoch node from msg p j l t m u is takes (λ h. h)
