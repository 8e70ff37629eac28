-- Nodes that hear that an epoch is aborted.
use Rattle.std.proofs.Common.{◌≡◌, ◌≢◌, ◌⊎◌, inl, inr, ℕ, ◌+◌, ◌^◌, ◌<◌, ◌≤◌, Bool, true, false, eqb, ltb, List, [], ◌∷◌, ◌++◌, length, Some, refl, sym, ap, subst, ◌∙◌, arith, append-nil}
use Rattle.std.specs.Prelude.{◌&&◌, if◌then◌else◌, ◌==◌}
use Rattle.std.specs.List.{slice_get, Contains}
use Rattle.std.proofs.Math.ListN.{set, length-set}
use Rattle.std.proofs.lemmas.Bool.{and_parts, eq-eqb, eqb-false, eqb-true, lt-ltb, and_from}
use Rattle.std.proofs.lemmas.Option.{same_Some, slice_get_within}
use Rattle.coco_msg.specs.declared.action.Action.{Action}
use Rattle.coco_msg.specs.declared.action.Action.TheVariants.{Revert}
use Rattle.coco_msg.specs.declared.message.Message.{Message}
use Rattle.coco_msg.specs.declared.message.Message.TheVariants.{Ship, Total, Missing, All, Prepare, Vote, Commit, Finished, Abort, Query, Tell}
use Rattle.coco_net.specs.declared.letter.Letter.{Letter}
use Rattle.coco_net.specs.declared.letter.Posted.{Posted}
use Rattle.coco_node.specs.declared.machine.Decision.{Decision}
use Rattle.coco_node.specs.declared.machine.Decision.TheVariants.{Unknown, Committed, Aborted}
use Rattle.coco_node.specs.Node.{Node, is_unknown}
use Rattle.coco_node.specs.Table.{awaits, handled, on_abort, on_aborted, Turn}
use Rattle.coco_world.proofs.Tools.{by_test, not_both}
use Rattle.coco_letters.specs.declared.hearing.Phase.TheVariants.{GivingUp}
use Rattle.coco_letters.specs.Saying.{posted, posts_of}
use Rattle.coco_letters.specs.Turns.{is_awaited, Hears, IsFrom}
use Rattle.coco_letters.proofs.WorldLemmas.{contains_cases}
use Rattle.coco_vote.specs.Ending.{GivesUp, GiveUp, IsOverAt}
use Rattle.coco_vote.proofs.PlaceLemmas.{get_set_other, get_set_same}

-- ---- a core

gives_same : (e : ℕ) (core : Node) → GivesUp e core core
gives_same e core = record { number = refl; durable = refl; lost = refl; decision = inl refl; forcing = inl refl }

unknown_is : (d : Decision) → is_unknown d ≡ true → d ≡ Unknown
unknown_is Unknown is = refl
unknown_is Committed is = absurd cc
unknown_is Aborted is = absurd cc

reverted : (e of : ℕ) (core : Node) → of ≡ e → awaits of core ≡ true → GivesUp e core (record core { decision = Aborted })
reverted e of core same awaited =
    let parts = and_parts (of == core.durable) (is_unknown core.decision) awaited in
    record { number = refl; durable = refl; lost = refl; decision = inr (sym (eqb-true of core.durable parts.0) ∙ same, unknown_is core.decision parts.1, refl); forcing = inl refl }

released : (e of : ℕ) (core : Node) → of ≡ e → (of == core.forcing) ≡ true → GivesUp e core (record core { forcing = 0 })
released e of core same forced = record { number = refl; durable = refl; lost = refl; decision = inl refl; forcing = inr (sym (eqb-true of core.forcing forced) ∙ same, refl) }

abort_gives : (e of : ℕ) (core : Node) → of ≡ e → GivesUp e core (on_abort of core).1
abort_gives e of core same =
    by_test (λ (turn : Turn). GivesUp e core turn.1) (awaits of core) (Revert of ∷ [], record core { decision = Aborted }) (if of == core.forcing then ([], record core { forcing = 0 }) else ([], core))
    (λ awaited. reverted e of core same awaited)
    (λ _. by_test (λ (turn : Turn). GivesUp e core turn.1) (of == core.forcing) ([], record core { forcing = 0 }) ([], core) (λ forced. released e of core same forced) (λ _. gives_same e core))

aborted_gives : (e of : ℕ) (core : Node) → of ≡ e → GivesUp e core (on_aborted of core).1
aborted_gives e of core same =
    by_test (λ (turn : Turn). GivesUp e core turn.1) (awaits of core) (Revert of ∷ [], record core { decision = Aborted }) ([], core) (λ awaited. reverted e of core same awaited) (λ _. gives_same e core)

message_gives : (e : ℕ) (m : Message) (core : Node) → is_awaited GivingUp e m ≡ true → GivesUp e core (handled 8 m core).1
message_gives e (Abort of) core awaited =
    by_test (λ (turn : Turn). GivesUp e core turn.1) (ltb 0 of) (on_abort of core) ([], core) (λ _. abort_gives e of core (eqb-true of e awaited)) (λ _. gives_same e core)
message_gives e (Tell of true) core awaited = absurd cc
message_gives e (Tell of false) core awaited =
    by_test (λ (turn : Turn). GivesUp e core turn.1) (ltb 0 of) (on_aborted of core) ([], core) (λ _. aborted_gives e of core (eqb-true of e awaited)) (λ _. gives_same e core)
message_gives e (Ship of p place time writes) core awaited = absurd cc
message_gives e (Total of p places) core awaited = absurd cc
message_gives e (Missing of p places) core awaited = absurd cc
message_gives e (All of p) core awaited = absurd cc
message_gives e (Prepare of) core awaited = absurd cc
message_gives e (Vote of vote) core awaited = absurd cc
message_gives e (Commit of) core awaited = absurd cc
message_gives e (Finished of) core awaited = absurd cc
message_gives e (Query of) core awaited = absurd cc

-- it says nothing of it
abbrev SaysNothing : ℕ → Turn → Type 0
SaysNothing n turn = posts_of n turn.0 ≡ []

abort_silent : (n of : ℕ) (core : Node) → SaysNothing n (on_abort of core)
abort_silent n of core =
    by_test (SaysNothing n) (awaits of core) (Revert of ∷ [], record core { decision = Aborted }) (if of == core.forcing then ([], record core { forcing = 0 }) else ([], core)) (λ _. refl)
    (λ _. by_test (SaysNothing n) (of == core.forcing) ([], record core { forcing = 0 }) ([], core) (λ _. refl) (λ _. refl))

aborted_silent : (n of : ℕ) (core : Node) → SaysNothing n (on_aborted of core)
aborted_silent n of core = by_test (SaysNothing n) (awaits of core) (Revert of ∷ [], record core { decision = Aborted }) ([], core) (λ _. refl) (λ _. refl)

message_silent : (e n : ℕ) (m : Message) (core : Node) → is_awaited GivingUp e m ≡ true → SaysNothing n (handled 8 m core)
message_silent e n (Abort of) core awaited = by_test (SaysNothing n) (ltb 0 of) (on_abort of core) ([], core) (λ _. abort_silent n of core) (λ _. refl)
message_silent e n (Tell of true) core awaited = absurd cc
message_silent e n (Tell of false) core awaited = by_test (SaysNothing n) (ltb 0 of) (on_aborted of core) ([], core) (λ _. aborted_silent n of core) (λ _. refl)
message_silent e n (Ship of p place time writes) core awaited = absurd cc
message_silent e n (Total of p places) core awaited = absurd cc
message_silent e n (Missing of p places) core awaited = absurd cc
message_silent e n (All of p) core awaited = absurd cc
message_silent e n (Prepare of) core awaited = absurd cc
message_silent e n (Vote of vote) core awaited = absurd cc
message_silent e n (Commit of) core awaited = absurd cc
message_silent e n (Finished of) core awaited = absurd cc
message_silent e n (Query of) core awaited = absurd cc

-- told that it is aborted, it knows it
abbrev IsOver : ℕ → Node → Type 0
IsOver e core = core.durable ≡ e → core.decision ≡ Unknown → ⊥

reverted_over : (e : ℕ) (core : Node) → IsOver e (record core { decision = Aborted })
reverted_over e core is unknown = cc

abort_over : (e : ℕ) (core : Node) → IsOver e (on_abort e core).1
abort_over e core =
    by_test (λ (turn : Turn). IsOver e turn.1) (awaits e core) (Revert e ∷ [], record core { decision = Aborted }) (if e == core.forcing then ([], record core { forcing = 0 }) else ([], core))
    (λ _. reverted_over e core)
    (λ none. by_test (λ (turn : Turn). IsOver e turn.1) (e == core.forcing) ([], record core { forcing = 0 }) ([], core)
    (λ _ is unknown. not_both (awaits e core) (and_from (e == core.durable) (is_unknown core.decision) (eq-eqb e core.durable (sym is)) (ap is_unknown unknown)) none)
    (λ _ is unknown. not_both (awaits e core) (and_from (e == core.durable) (is_unknown core.decision) (eq-eqb e core.durable (sym is)) (ap is_unknown unknown)) none))

told_over : (e : ℕ) (core : Node) → 0 < e → IsOver e (handled 8 (Abort e) core).1
told_over e core some = by_test (λ (turn : Turn). IsOver e turn.1) (ltb 0 e) (on_abort e core) ([], core) (λ _. abort_over e core) (λ none. absurd (not_both (ltb 0 e) (lt-ltb 0 e some) none))

still_over : (e : ℕ) (core now : Node) → GivesUp e core now → IsOver e core → IsOver e now
still_over e core now gives over is unknown = elim gives.decision [
  | inl same ↦ over (sym gives.durable ∙ is) (sym same ∙ unknown)
  | inr other ↦ known_not (sym other.2 ∙ unknown)
]
  where
    known_not : ◌≡◌ {A = Decision} Aborted Unknown → ⊥
    known_not same = cc

-- ---- all cores

pub give_same : (e : ℕ) (cores : List Node) → GiveUp e cores cores
give_same e cores = record { many = refl; each = λ n now there. (now, there, gives_same e now) }

gives_then : (e : ℕ) (a b c : Node) → GivesUp e a b → GivesUp e b c → GivesUp e a c
gives_then e a b c one two = record {
  number = two.number ∙ one.number;
  durable = two.durable ∙ one.durable;
  lost = two.lost ∙ one.lost;
  decision = elim one.decision [
    | inl same ↦ elim two.decision [ inl still ↦ inl (still ∙ same) | inr now ↦ inr (sym one.durable ∙ now.0, sym same ∙ now.1, now.2) ]
    | inr was ↦ elim two.decision [ inl still ↦ inr (was.0, was.1, still ∙ was.2) | inr now ↦ inr (was.0, was.1, now.2) ]
  ];
  forcing = elim one.forcing [
    | inl same ↦ elim two.forcing [ inl still ↦ inl (still ∙ same) | inr now ↦ inr (sym same ∙ now.0, now.1) ]
    | inr was ↦ elim two.forcing [ inl still ↦ inr (was.0, still ∙ was.1) | inr now ↦ inr (was.0, now.1) ]
  ];
}

pub give_then : (e : ℕ) (a b c : List Node) → GiveUp e a b → GiveUp e b c → GiveUp e a c
give_then e a b c one two = record {
  many = two.many ∙ one.many;
  each = λ n now there.
      let mid = two.each n now there in
      let was = one.each n mid.0 mid.1 in
      (was.0, was.1, gives_then e was.0 mid.0 now was.2 mid.2);
}

-- a node that knows it knows it still
pub over_still : (e n : ℕ) (a b : List Node) → GiveUp e a b → IsOverAt e n a → IsOverAt e n b
over_still e n a b gave over now there = let was = gave.each n now there in still_over e was.0 now was.2 (over was.0 was.1)

give_set : (e : ℕ) (cores : List Node) (n : ℕ) (core now : Node) → slice_get cores n ≡ Some core → GivesUp e core now → GiveUp e cores (set cores n now)
give_set e cores n core now there gives = record {
  many = length-set cores n now;
  each = λ k x here. by_place k x here (eqb k n) refl;
}
  where
    by_place : (k : ℕ) (x : Node) → slice_get (set cores n now) k ≡ Some x → (b : Bool) → eqb k n ≡ b → (core : Node) × (slice_get cores k ≡ Some core) × GivesUp e core x
    by_place k x here true at =
        let same : k ≡ n = eqb-true k n at in
        let is : now ≡ x = same_Some now x (sym (get_set_same cores n now (slice_get_within cores n core there)) ∙ ap (slice_get (set cores n now)) (sym same) ∙ here) in
        (core, ap (slice_get cores) same ∙ there, subst (GivesUp e core) is gives)
    by_place k x here false at = (x, sym (get_set_other cores n k now (eqb-false k n at)) ∙ here, gives_same e x)

-- ---- a letter

module _ (e n : ℕ) (letter : Letter) (cores cores_new : List Node) (sent sent_new : List Posted) (actions : List Action) (hears : Hears GivingUp e n letter cores sent cores_new sent_new actions) where
  pub heard_gives : GiveUp e cores cores_new
  heard_gives = elim hears.either [
    | inl such ↦ (let takes = hears.takes such.0 such.1 such.2 in
        subst (GiveUp e cores) (sym takes.cores_are) (give_set e cores n takes.core (handled 8 such.0 takes.core).1 takes.there (message_gives e such.0 takes.core such.2)))
    | inr none ↦ subst (GiveUp e cores) (sym (hears.drops none).0) (give_same e cores)
  ]

  pub heard_silent : sent_new ≡ sent
  heard_silent = elim hears.either [
    | inl such ↦ (let takes = hears.takes such.0 such.1 such.2 in
        takes.sent_is ∙ ap (λ (ps : List Posted). sent ++ ps) (ap (posts_of n) takes.answered ∙ message_silent e n such.0 takes.core such.2) ∙ append-nil sent)
    | inr none ↦ (hears.drops none).1
  ]

  pub heard_over : 0 < e → n < length cores → IsFrom 8 letter (Abort e) → IsOverAt e n cores_new
  heard_over some within from =
      let takes = hears.takes (Abort e) from (eq-eqb e e refl) in
      λ core there.
      let is : (handled 8 (Abort e) takes.core).1 ≡ core = same_Some (handled 8 (Abort e) takes.core).1 core (sym (get_set_same cores n (handled 8 (Abort e) takes.core).1 within) ∙ ap (λ (cs : List Node). slice_get cs n) (sym takes.cores_are) ∙ there) in
      subst (IsOver e) is (told_over e takes.core some)

-- ---- letters that wait

none_in : {X : Type 0} {Y : Type 0} (x : X) → Contains [] x → Y
none_in x h = absurd (omega (arith, h.1))

-- one letter more is heard
pub told_more : (e n : ℕ) (first waiting rest : List Letter) (letter : Letter) (cores new : List Node) → waiting ≡ letter ∷ rest → GiveUp e cores new → (IsFrom 8 letter (Abort e) → IsOverAt e n new)
    → ((l : Letter) → Contains first l → IsFrom 8 l (Abort e) → Contains waiting l ⊎ IsOverAt e n cores) → (l : Letter) → Contains first l → IsFrom 8 l (Abort e) → Contains rest l ⊎ IsOverAt e n new
told_more e n first waiting rest letter cores new waits gave told before l among from = elim (before l among from) [
  | inl there ↦ elim (contains_cases letter l rest (subst (λ (ls : List Letter). Contains ls l) waits there)) [
    | inl here ↦ inr (told (subst (λ (x : Letter). IsFrom 8 x (Abort e)) (sym here) from))
    | inr behind ↦ inl behind
  ]
  | inr over ↦ inr (over_still e n cores new gave over)
]

pub told_all : (e n : ℕ) (first waiting : List Letter) (cores : List Node) → waiting ≡ [] → ((l : Letter) → Contains first l → IsFrom 8 l (Abort e) → Contains waiting l ⊎ IsOverAt e n cores) → (l : Letter) → Contains first l → IsFrom 8 l (Abort e) → IsOverAt e n cores
told_all e n first waiting cores none before l among from = elim (before l among from) [
  | inl waits ↦ none_in l (subst (λ (ls : List Letter). Contains ls l) none waits)
  | inr over ↦ over
]

-- one node more
pub told_next : (e n : ℕ) (first waiting : ℕ → List Letter) (cores new : List Node) → ((p : ℕ) → n ≤ p → waiting p ≡ first p) → GiveUp e cores new → ((k : ℕ) (l : Letter) → k < n → Contains (first k) l → IsFrom 8 l (Abort e) → IsOverAt e k cores)
    → ((l : Letter) → Contains (waiting n) l → IsFrom 8 l (Abort e) → IsOverAt e n new) → (k : ℕ) (l : Letter) → k < n + 1 → Contains (first k) l → IsFrom 8 l (Abort e) → IsOverAt e k new
told_next e n first waiting cores new waits gave before here k l less among from = by_place (eqb k n) refl
  where
    by_place : (b : Bool) → eqb k n ≡ b → IsOverAt e k new
    by_place true at =
        let same : k ≡ n = eqb-true k n at in
        let le : n ≤ n = omega arith in
        subst (λ (m : ℕ). IsOverAt e m new) (sym same) (here l (subst (λ (ls : List Letter). Contains ls l) (ap first same ∙ sym (waits n le)) among) from)
    by_place false at = let other : k ≢ n = eqb-false k n at in over_still e k cores new gave (before k l (omega (arith, less, other)) among from)

-- a letter that tells so
pub aborted_from : (n e : ℕ) → e < 2 ^ 64 → IsFrom 8 (posted 8 n (Abort e)).letter (Abort e)
aborted_from n e fits = record { from = refl; say = record { is = fits; commit = refl }; bytes = refl }
