-- Letters that a node takes while it votes: what it hears, and what is told of it then.
use Rattle.std.proofs.Common.{◌≡◌, ◌≢◌, ◌⊎◌, inl, inr, ℕ, zero, suc, ◌^◌, ◌<◌, ◌≤◌, Bool, true, false, eqb, ltb, List, [], ◌∷◌, ◌++◌, length, Some, None, refl, sym, ap, subst, ◌∙◌, arith, append_assoc, append-nil}
use Rattle.std.specs.Prelude.{◌&&◌, ◌||◌, if◌then◌else◌, ◌+◌}
use Rattle.std.specs.List.{slice_get, Contains}
use Rattle.std.proofs.Math.ListN.{set, length-set}
use Rattle.std.proofs.lemmas.Bool.{eqb-true, eqb-false, eq-eqb, le-ltb, lt-ltb, ne_eqb}
use Rattle.std.proofs.lemmas.List.Elements.{Contains-append_cases, Contains-append_left, Contains-append_right}
use Rattle.std.proofs.lemmas.Option.{same_Some}
use Rattle.coco_msg.specs.declared.action.Action.{Action}
use Rattle.coco_msg.specs.declared.action.Action.TheVariants.{Force}
use Rattle.coco_msg.specs.declared.message.Message.{Message}
use Rattle.coco_msg.specs.declared.message.Message.TheVariants.{Prepare, Query, Vote}
use Rattle.coco_net.specs.declared.letter.Letter.{Letter}
use Rattle.coco_net.specs.declared.letter.Posted.{Posted}
use Rattle.coco_node.specs.declared.machine.Decision.TheVariants.{Unknown}
use Rattle.coco_node.specs.Node.{Node, is_unknown, restarted}
use Rattle.coco_node.specs.Table.{awaits, handled, on_prepare, votes, Turn}
use Rattle.coco_letters.specs.declared.hearing.Phase.TheVariants.{Voting}
use Rattle.coco_letters.specs.declared.nodes.Heard.{Heard}
use Rattle.coco_letters.specs.declared.nodes.Heard.TheVariants.{Voted}
use Rattle.coco_letters.specs.Saying.{posted, posts_of}
use Rattle.coco_letters.specs.Turns.{heard_of, is_awaited, AreFresh, Hears, IsForcing, IsFrom, Takes}
use Rattle.coco_letters.specs.declared.voter.Voter.{Voter}
use Rattle.coco_letters.proofs.SayingLemmas.{same_message}
use Rattle.coco_letters.proofs.WorldLemmas.{contains_cases, contains_here}
use Rattle.coco_vote.specs.declared.step.Step.{Step}
use Rattle.coco_vote.specs.declared.step.Step.TheVariants as steps
use Rattle.coco_vote.specs.declared.step.Stops.{Stops}
use Rattle.coco_vote.specs.declared.step.Stops.TheVariants.{Never, Late, Early}
use Rattle.coco_vote.specs.Nearing.{ahead_of, lacks, Nears}
use Rattle.coco_vote.specs.Preparing.{durable_at, have_durable}
use Rattle.coco_vote.specs.Steps.{core_behind, has_stopped, has_voted, is_early, letters_in, EndsVote, HasNewest, Marks, Steps}
use Rattle.coco_vote.specs.Asking.{AreAsked}
use Rattle.coco_vote.specs.Taking.{both_of, stops_of, vote_of, AreTold, AreVoting, HasGiven, HeardSo, IsSettled, IsVoting, KeepsCores, KnowsNoMore, UnlessLost}
use Rattle.coco_vote.specs.Voting.{PreparesOnly}
use Rattle.coco_vote.proofs.PlaceLemmas.{has_older, durable_else, durable_here, durable_set, get_set_other, get_set_same, set_again}
use Rattle.coco_vote.proofs.StopLemmas.{never_both}
use Rattle.coco_vote.proofs.StepLemmas.{max_none, only_same, only_then}
use Rattle.coco_letters.specs.Worlds.{GoesBetween, GoesOn, SameEntries, Scene}
use Rattle.coco_letters.proofs.WorldLemmas.{between_on, between_then}
use Rattle.coco_world.specs.World.{World}

-- ---- tests

if_true : {X : Type 0} (b : Bool) (x y : X) → b ≡ true → (if b then x else y) ≡ x
if_true true x y is = refl
if_true false x y is = absurd cc

if_false : {X : Type 0} (b : Bool) (x y : X) → b ≡ false → (if b then x else y) ≡ y
if_false true x y is = absurd cc
if_false false x y is = refl

all_three : (a b c : Bool) → a ≡ true → b ≡ true → c ≡ true → (a && b && c) ≡ true
all_three a b c p q r = ap (λ (x : Bool). x && b && c) p ∙ ap (λ (x : Bool). x && c) q ∙ r

first_not : (a b c : Bool) → a ≡ false → (a && b && c) ≡ false
first_not a b c p = ap (λ (x : Bool). x && b && c) p

-- a value that is written where it stands
set_here : {X : Type 0} (xs : List X) (i : ℕ) (x : X) → slice_get xs i ≡ Some x → set xs i x ≡ xs
set_here [] i x there = refl
set_here (y ∷ xs) zero x there = ap (λ z. z ∷ xs) (sym (same_Some y x there))
set_here (y ∷ xs) (suc i) x there = ap (λ ys. y ∷ ys) (set_here xs i x there)

-- ---- what is heard

abbrev may_force : ℕ → Node → Bool
may_force e core = ltb core.durable e && ltb core.forcing e && ltb core.lost e

abbrev votes_again : ℕ → Node → Turn
votes_again e core = if awaits e core then (votes true e ∷ [], core) else ([], core)

-- a node that may vote and is asked to forces its entry, or has it and gives its vote again
prepare_voting : (e : ℕ) (core : Node) → 0 < e → IsVoting e core
    → ((core.durable < e) × (◌≡◌ {A = Turn} (on_prepare e core) (Force e ∷ [], record core { forcing = e }))) ⊎ ((core.durable ≡ e) × (◌≡◌ {A = Turn} (on_prepare e core) (votes true e ∷ [], core)))
prepare_voting e core some voting = elim voting.stands [
  | inl older ↦ inl (
    older,
    past_loss ∙ if_true (may_force e core) (Force e ∷ [], record core { forcing = e }) (votes_again e core)
        (all_three (ltb core.durable e) (ltb core.forcing e) (ltb core.lost e) (lt-ltb core.durable e older) (lt-ltb core.forcing e (omega (arith, voting.idle, some))) (lt-ltb core.lost e voting.kept)),
  )
  | inr newest ↦ inr (
    newest.0,
    past_loss ∙ if_false (may_force e core) (Force e ∷ [], record core { forcing = e }) (votes_again e core)
        (first_not (ltb core.durable e) (ltb core.forcing e) (ltb core.lost e) (le-ltb core.durable e (omega (arith, newest.0))))
        ∙ if_true (awaits e core) (votes true e ∷ [], core) ([], core) (ap (λ (b : Bool). b && is_unknown core.decision) (eq-eqb e core.durable (sym newest.0)) ∙ ap is_unknown newest.1),
  )
]
  where
    past_loss : ◌≡◌ {A = Turn} (on_prepare e core) (if may_force e core then (Force e ∷ [], record core { forcing = e }) else votes_again e core)
    past_loss = if_false (eqb e core.lost) (votes false e ∷ [], core) (if may_force e core then (Force e ∷ [], record core { forcing = e }) else votes_again e core) (ne_eqb e core.lost (λ same. omega (arith, same, voting.kept)))

is_handled : (e : ℕ) (core : Node) → 0 < e → ◌≡◌ {A = Turn} (handled 8 (Prepare e) core) (on_prepare e core)
is_handled e core some = if_true (ltb 0 e) (on_prepare e core) ([], core) (lt-ltb 0 e some)

module _ (n e : ℕ) (letter : Letter) (cores : List Node) (sent : List Posted) (some : 0 < e) (within : n < length cores) (all : AreVoting e cores) where
  asked_to : (cores_new : List Node) (sent_new : List Posted) (actions : List Action) → Takes n (Prepare e) cores sent cores_new sent_new actions → HeardSo (heard_of actions) n e letter cores sent cores_new sent_new
  asked_to cores_new sent_new actions takes =
      let core : Node = takes.core in
      elim (prepare_voting e core some (all n core takes.there)) [
        | inl forces ↦
            (let turn : ◌≡◌ {A = Turn} (handled 8 (Prepare e) core) (Force e ∷ [], record core { forcing = e }) = is_handled e core some ∙ forces.1 in
            let said : actions ≡ Force e ∷ [] = takes.answered ∙ ap (λ (t : Turn). t.0) turn in
            let are : cores_new ≡ set cores n (record core { forcing = e }) = takes.cores_are ∙ ap (λ (t : Turn). set cores n t.1) turn in
            subst (λ (acts : List Action). HeardSo (heard_of acts) n e letter cores sent cores_new sent_new) (sym said) (
              refl,
              takes.sent_is ∙ ap (λ (acts : List Action). sent ++ posts_of n acts) said ∙ append-nil sent,
              record { core = record core { forcing = e }; there = ap (λ (cs : List Node). slice_get cs n) are ∙ get_set_same cores n (record core { forcing = e }) within; some = some; forcing = refl; newer = forces.0 },
              (core, takes.there, are),
            ))
        | inr gives ↦
            (let turn : ◌≡◌ {A = Turn} (handled 8 (Prepare e) core) (votes true e ∷ [], core) = is_handled e core some ∙ gives.1 in
            let said : actions ≡ votes true e ∷ [] = takes.answered ∙ ap (λ (t : Turn). t.0) turn in
            subst (λ (acts : List Action). HeardSo (heard_of acts) n e letter cores sent cores_new sent_new) (sym said) (
              record { core = core; there = takes.there; newest = gives.0 },
              takes.cores_are ∙ ap (λ (t : Turn). set cores n t.1) turn ∙ set_here cores n core takes.there,
              takes.sent_is ∙ ap (λ (acts : List Action). sent ++ posts_of n acts) said,
            ))
      ]

  heard_message : (cores_new : List Node) (sent_new : List Posted) (actions : List Action) (m : Message) → IsFrom 8 letter m → is_awaited Voting e m ≡ true → Hears Voting e n letter cores sent cores_new sent_new actions
      → HeardSo (heard_of actions) n e letter cores sent cores_new sent_new
  heard_message cores_new sent_new actions (Prepare of) from awaited hears =
      let same : of ≡ e = eqb-true of e awaited in
      asked_to cores_new sent_new actions (subst (λ (k : ℕ). Takes n (Prepare k) cores sent cores_new sent_new actions) same (hears.takes (Prepare of) from awaited))
  heard_message cores_new sent_new actions _ from awaited hears = absurd cc

  pub heard_so : (cores_new : List Node) (sent_new : List Posted) (actions : List Action) (heard : Heard) → heard ≡ heard_of actions → Hears Voting e n letter cores sent cores_new sent_new actions → HeardSo heard n e letter cores sent cores_new sent_new
  heard_so cores_new sent_new actions heard is hears =
      subst (λ (h : Heard). HeardSo h n e letter cores sent cores_new sent_new) (sym is) (elim hears.either [
        | inl such ↦ heard_message cores_new sent_new actions such.0 such.1 such.2 hears
        | inr none ↦ (let dropped = hears.drops none in
            subst (λ (acts : List Action). HeardSo (heard_of acts) n e letter cores sent cores_new sent_new) (sym dropped.2)
            (dropped.0, dropped.1, λ from. none (Prepare e) from (eq-eqb e e refl)))
      ])

-- ---- who may vote still

voting_set : (e : ℕ) (cores : List Node) (n : ℕ) (x : Node) → n < length cores → ((k : ℕ) (core : Node) → k ≢ n → slice_get cores k ≡ Some core → IsVoting e core) → IsVoting e x → AreVoting e (set cores n x)
voting_set e cores n x within others here k core there = by_place (eqb k n) refl
  where
    by_place : (b : Bool) → eqb k n ≡ b → IsVoting e core
    by_place true at = let same : k ≡ n = eqb-true k n at in
        subst (IsVoting e) (same_Some x core (sym (get_set_same cores n x within) ∙ ap (slice_get (set cores n x)) (sym same) ∙ there)) here
    by_place false at = others k core (eqb-false k n at) (sym (get_set_other cores n k x (eqb-false k n at)) ∙ there)

voting_anew : (e n : ℕ) → 0 < e → IsVoting e (restarted n (e ∷ []) None)
voting_anew e n some = record { idle = refl; kept = some; stands = inr (max_none e, refl) }

-- behind a vote that was given again
pub voting_ended : (step : Step) (n e : ℕ) (cores new : List Node) (sent after : List Posted) → 0 < e → n < length cores → AreVoting e cores → EndsVote step n e cores sent new after → AreVoting e new
voting_ended steps.Voted n e cores new sent after some within all ends = subst (AreVoting e) (sym ends.0) all
voting_ended (steps.Restarted true) n e cores new sent after some within all ends =
    subst (AreVoting e) (sym ends.0) (voting_set e cores n (restarted n (e ∷ []) None) within (λ k core _ there. all k core there) (voting_anew e n some))
voting_ended (steps.Restarted false) n e cores new sent after some within all ends = absurd ends
voting_ended steps.Stopped n e cores new sent after some within all ends = absurd ends

-- behind a step
pub voting_stepped : (step : Step) (n e : ℕ) (cores new : List Node) (sent after : List Posted) → 0 < e → n < length cores → ((k : ℕ) (core : Node) → k ≢ n → slice_get cores k ≡ Some core → IsVoting e core)
    → ((core : Node) → slice_get cores n ≡ Some core → core.lost < e) → is_early step ≡ false → Steps step n e cores sent new after → AreVoting e new
voting_stepped step n e cores new sent after some within others kept late stepped =
    subst (AreVoting e) (sym stepped.cores_are) (voting_set e cores n (core_behind step n e stepped.core) within others (behind step late))
  where
    behind : (s : Step) → is_early s ≡ false → IsVoting e (core_behind s n e stepped.core)
    behind steps.Voted late = record { idle = refl; kept = kept stepped.core stepped.there; stands = inr (refl, refl) }
    behind (steps.Restarted voted) late = voting_anew e n some
    behind steps.Stopped late = absurd cc

-- unless it is lost
pub unless_any : (stops : Stops) (Fact : Type 0) → Fact → UnlessLost stops Fact
unless_any Never Fact fact = fact
unless_any Late Fact fact = fact
unless_any Early Fact fact = tt

pub voting_unless : (step : Step) (Fact : Type 0) → (is_early step ≡ false → Fact) → UnlessLost (stops_of step) Fact
voting_unless steps.Voted Fact late = late refl
voting_unless (steps.Restarted voted) Fact late = late refl
voting_unless steps.Stopped Fact late = tt

-- ---- what is told as sent

-- a vote is another only where they are the same node's and the same answer
same_vote : (n m e : ℕ) (v : Bool) → e < 2 ^ 64 → posted n 8 (Vote e true) ≡ posted m 8 (Vote e v) → (m ≡ n) × (v ≡ true)
same_vote n m e v fits is =
    let same : ◌≡◌ {A = Message} (Vote e true) (Vote e v) = same_message (Vote e true) (Vote e v) fits fits (ap (λ (s : Posted). s.letter.bytes) is) in
    (sym (ap (λ (s : Posted). s.letter.from) is), cc)

query_no_vote : {X : Type 0} (n m e : ℕ) (v : Bool) → e < 2 ^ 64 → posted n 8 (Query e) ≡ posted m 8 (Vote e v) → X
query_no_vote n m e v fits is =
    let same : ◌≡◌ {A = Message} (Query e) (Vote e v) = same_message (Query e) (Vote e v) fits fits (ap (λ (s : Posted). s.letter.bytes) is) in
    absurd cc

-- the votes among letters are a node's, and say yes
abbrev OfOne : ℕ → ℕ → List Posted → Type 0
OfOne n e posts = (m : ℕ) (v : Bool) → Contains posts (vote_of m e v) → (m ≡ n) × (v ≡ true)

none_in : {X : Type 0} {Y : Type 0} (x : X) → Contains [] x → Y
none_in x h = absurd (omega (arith, h.1))

one_none : (n e : ℕ) → OfOne n e []
one_none n e m v among = none_in (vote_of m e v) among

one_vote : (n e : ℕ) (posts : List Posted) → e < 2 ^ 64 → OfOne n e posts → OfOne n e (posted n 8 (Vote e true) ∷ posts)
one_vote n e posts fits rest m v among = elim (contains_cases (posted n 8 (Vote e true)) (vote_of m e v) posts among) [ inl here ↦ same_vote n m e v fits here | inr behind ↦ rest m v behind ]

one_query : (n e : ℕ) (posts : List Posted) → e < 2 ^ 64 → OfOne n e posts → OfOne n e (posted n 8 (Query e) ∷ posts)
one_query n e posts fits rest m v among = elim (contains_cases (posted n 8 (Query e)) (vote_of m e v) posts among) [ inl here ↦ query_no_vote n m e v fits here | inr behind ↦ rest m v behind ]

one_step : (step : Step) (n e : ℕ) → e < 2 ^ 64 → OfOne n e (letters_in step n e)
one_step steps.Voted n e fits = one_vote n e [] fits (one_none n e)
one_step (steps.Restarted true) n e fits = one_vote n e (posted n 8 (Query e) ∷ []) fits (one_query n e [] fits (one_none n e))
one_step (steps.Restarted false) n e fits = one_query n e [] fits (one_none n e)
one_step steps.Stopped n e fits = one_none n e

-- what is told, when a node has said more
module _ (n e : ℕ) (cores new : List Node) (sent posts after : List Posted) (asked asked_new : ℕ → ℕ → Bool) (told : AreTold e cores sent asked) (is : after ≡ sent ++ posts) (of_one : OfOne n e posts)
    (stays : (m : ℕ) → durable_at cores m ≡ e → durable_at new m ≡ e)
    (came : (m : ℕ) → durable_at new m ≡ e → (durable_at cores m ≡ e) ⊎ ((m ≡ n) × (asked_new n 3 ≡ true) × (asked_new n 4 ≡ true)))
    (gave : Contains posts (vote_of n e true) → (durable_at new n ≡ e) × (asked_new n 5 ≡ true))
    (later : (m p : ℕ) → m < 8 → p ≤ 6 → asked m p ≡ true → asked_new m p ≡ true) where
  either_told : (m : ℕ) (v : Bool) → Contains after (vote_of m e v) → Contains sent (vote_of m e v) ⊎ Contains posts (vote_of m e v)
  either_told m v among = Contains-append_cases sent posts (vote_of m e v) (subst (λ (ps : List Posted). Contains ps (vote_of m e v)) is among)

  given_by : (m : ℕ) → Contains posts (vote_of m e true) → (m ≡ n) × Contains posts (vote_of n e true)
  given_by m among = let one = of_one m true among in (one.0, subst (λ (k : ℕ). Contains posts (vote_of k e true)) one.0 among)

  no_noes : (v : Bool) → v ≡ true → v ≡ false → ⊥
  no_noes v yes_is no_is = cc

  before_by : (m : ℕ) → m < 8 → (durable_at cores m ≡ e) ⊎ ((m ≡ n) × (asked_new n 3 ≡ true) × (asked_new n 4 ≡ true)) → (asked_new m 3 ≡ true) × (asked_new m 4 ≡ true)
  before_by m eight (inl was) = let both = told.before m eight was in (later m 3 eight (omega arith) both.0, later m 4 eight (omega arith) both.1)
  before_by m eight (inr now) = (ap (λ (k : ℕ). asked_new k 3) now.0 ∙ now.1, ap (λ (k : ℕ). asked_new k 4) now.0 ∙ now.2)

  pub told_more : AreTold e new after asked_new
  told_more = record {
    ayes = λ m among. elim (either_told m true among) [
      | inl was ↦ stays m (told.ayes m was)
      | inr now ↦ (let by = given_by m now in ap (durable_at new) by.0 ∙ (gave by.1).0)
    ];
    noes = λ m among. elim (either_told m false among) [
      | inl was ↦ told.noes m was
      | inr now ↦ no_noes false (of_one m false now).1 refl
    ];
    before = λ m eight now. before_by m eight (came m now);
    behind = λ m eight among. elim (either_told m true among) [
      | inl was ↦ later m 5 eight (omega arith) (told.behind m eight was)
      | inr now ↦ (let by = given_by m now in ap (λ (k : ℕ). asked_new k 5) by.0 ∙ (gave by.1).1)
    ];
  }

-- ---- what is ahead

lacks_more : (a b : Bool) → lacks (a || b) ≤ lacks b
lacks_more true true = omega arith
lacks_more true false = omega arith
lacks_more false b = omega arith

-- an entry is durable that wasn't
near_step : (step : Step) (had has was now : Bool) → had ≡ false → (is_early step ≡ false → has ≡ true) → now ≡ (has_voted step || was) → Nears (stops_of step) (lacks had + lacks was) (lacks has + lacks now)
near_step steps.Voted had has was now old new is = omega (arith, ap lacks old, ap lacks (new refl), ap lacks is, lacks_more true was)
near_step (steps.Restarted voted) had has was now old new is = omega (arith, ap lacks old, ap lacks (new refl), ap lacks is, lacks_more voted was)
near_step steps.Stopped had has was now old new is = tt

-- a node that has voted again stops only where it wasn't asked before
pub near_ended : (step : Step) (n e : ℕ) (cores new : List Node) (sent after : List Posted) (voter voter_new : Voter) → durable_at new n ≡ durable_at cores n → EndsVote step n e cores sent new after → Marks step voter voter_new
    → (has_stopped step ≡ true → voter.asked_after_vote ≡ false) → (stops : Stops) → stops ≡ stops_of step → Nears stops (ahead_of e cores n voter) (ahead_of e new n voter_new)
near_ended step n e cores new sent after voter voter_new same ends marks once stops is =
    subst (λ (s : Stops). Nears s (ahead_of e cores n voter) (ahead_of e new n voter_new)) (sym is) (by_step step ends marks.asked once)
  where
    durable : lacks (have_durable e new n) ≡ lacks (have_durable e cores n)
    durable = ap (λ (d : ℕ). lacks (eqb d e)) same

    by_step : (s : Step) → EndsVote s n e cores sent new after → voter_new.asked_after_vote ≡ (has_voted s || voter.asked_after_vote) → (has_stopped s ≡ true → voter.asked_after_vote ≡ false)
        → Nears (stops_of s) (ahead_of e cores n voter) (ahead_of e new n voter_new)
    by_step steps.Voted ends is once = omega (arith, durable, ap lacks is, lacks_more true voter.asked_after_vote)
    by_step (steps.Restarted true) ends is once = omega (arith, durable, ap lacks is, ap lacks (once refl))
    by_step (steps.Restarted false) ends is once = absurd ends
    by_step steps.Stopped ends is once = absurd ends

-- ---- what holds of cores in any case

settled_voting : (e : ℕ) (core : Node) → IsVoting e core → IsSettled e core
settled_voting e core voting = record {
  idle = voting.idle;
  lost = omega (arith, voting.kept);
  durable = elim voting.stands [ inl older ↦ omega (arith, older) | inr newest ↦ omega (arith, newest.0) ];
  unknown = λ is. elim voting.stands [ inl older ↦ absurd (omega (arith, older, is)) | inr newest ↦ newest.1 ];
}

-- what nodes know where they are as before, or where one of them knows nothing
pub knows_same : (cores new : List Node) → new ≡ cores → (k : ℕ) (found : Node) → slice_get new k ≡ Some found → KnowsNoMore k cores found
knows_same cores new same k found there = inr (found, ap (λ (cs : List Node). slice_get cs k) (sym same) ∙ there, refl, refl)

knows_set : (cores : List Node) (n : ℕ) (core : Node) → n < length cores → core.decision ≡ Unknown → (k : ℕ) (found : Node) → slice_get (set cores n core) k ≡ Some found → KnowsNoMore k cores found
knows_set cores n core within unknown k found there = by_place (eqb k n) refl
  where
    by_place : (b : Bool) → eqb k n ≡ b → KnowsNoMore k cores found
    by_place true is = inl (ap (λ (c : Node). c.decision) (sym (same_Some core found (sym (get_set_same cores n core within) ∙ ap (slice_get (set cores n core)) (sym (eqb-true k n is)) ∙ there))) ∙ unknown)
    by_place false is = inr (found, sym (get_set_other cores n k core (eqb-false k n is)) ∙ there, refl, refl)

pub cores_voting : (e : ℕ) (cores new : List Node) → AreVoting e new → ((n : ℕ) → durable_at new n ≡ durable_at cores n) → ((n : ℕ) (core : Node) → slice_get new n ≡ Some core → KnowsNoMore n cores core) → KeepsCores e cores new
cores_voting e cores new voting same knows = record { settled = λ n core there. settled_voting e core (voting n core there); entries = λ n. inl (same n); decided = knows }

pub cores_then : (e : ℕ) (a b c : List Node) → KeepsCores e a b → KeepsCores e b c → KeepsCores e a c
cores_then e a b c one two = record {
  settled = two.settled;
  entries = λ n. elim (two.entries n) [
    | inl same ↦ elim (one.entries n) [ inl was ↦ inl (same ∙ was) | inr now ↦ inr (same ∙ now) ]
    | inr now ↦ inr now
  ];
  decided = λ n core there. elim (two.decided n core there) [
    | inl unknown ↦ inl unknown
    | inr mid ↦ elim (one.decided n mid.0 mid.1) [
      | inl unknown ↦ inl (sym mid.3 ∙ unknown)
      | inr was ↦ inr (was.0, was.1, was.2 ∙ mid.2, was.3 ∙ mid.3)
    ]
  ];
}

-- a node that has voted goes on, or begins anew
settled_step : (step : Step) (n e : ℕ) (core : Node) → core.lost < e → core.durable < e → IsSettled e (core_behind step n e core)
settled_step steps.Voted n e core kept older = record { idle = refl; lost = omega (arith, kept); durable = omega arith; unknown = λ is. refl }
settled_step (steps.Restarted voted) n e core kept older = record { idle = refl; lost = omega arith; durable = omega (arith, max_none e); unknown = λ is. refl }
settled_step steps.Stopped n e core kept older = record { idle = refl; lost = omega arith; durable = omega (arith, max_none core.durable, older); unknown = λ is. refl }

-- ---- a vote that is given again

-- each node has durable what it had
pub durable_ended : (step : Step) (n e : ℕ) (cores new : List Node) (sent after : List Posted) → n < length cores → HasNewest e n cores → EndsVote step n e cores sent new after → (m : ℕ) → durable_at new m ≡ durable_at cores m
durable_ended steps.Voted n e cores new sent after within newest ends m = ap (λ (cs : List Node). durable_at cs m) ends.0
durable_ended (steps.Restarted true) n e cores new sent after within newest ends m = ap (λ (cs : List Node). durable_at cs m) ends.0 ∙ by_place (eqb m n) refl
  where
    by_place : (b : Bool) → eqb m n ≡ b → durable_at (set cores n (restarted n (e ∷ []) None)) m ≡ durable_at cores m
    by_place true at = let same : m ≡ n = eqb-true m n at in
        ap (durable_at (set cores n (restarted n (e ∷ []) None))) same ∙ durable_set cores n (restarted n (e ∷ []) None) within ∙ max_none e ∙ sym newest.newest ∙ sym (durable_here cores n newest.core newest.there) ∙ ap (durable_at cores) (sym same)
    by_place false at = durable_else cores n m (restarted n (e ∷ []) None) (eqb-false m n at)
durable_ended (steps.Restarted false) n e cores new sent after within newest ends m = absurd ends
durable_ended steps.Stopped n e cores new sent after within newest ends m = absurd ends

-- and knows no more
pub knows_ended : (step : Step) (n e : ℕ) (cores new : List Node) (sent after : List Posted) → n < length cores → EndsVote step n e cores sent new after → (k : ℕ) (found : Node) → slice_get new k ≡ Some found → KnowsNoMore k cores found
knows_ended steps.Voted n e cores new sent after within ends k found there = knows_same cores new ends.0 k found there
knows_ended (steps.Restarted true) n e cores new sent after within ends k found there = knows_set cores n (restarted n (e ∷ []) None) within refl k found (ap (λ (cs : List Node). slice_get cs k) (sym ends.0) ∙ there)
knows_ended (steps.Restarted false) n e cores new sent after within ends k found there = absurd ends
knows_ended steps.Stopped n e cores new sent after within ends k found there = absurd ends

-- its letters are those of a step
ended_letters : (step : Step) (n e : ℕ) (cores new : List Node) (sent between after : List Posted) → between ≡ sent ++ vote_of n e true ∷ [] → EndsVote step n e cores between new after → after ≡ sent ++ letters_in step n e
ended_letters steps.Voted n e cores new sent between after is ends = ends.1 ∙ is
ended_letters (steps.Restarted true) n e cores new sent between after is ends =
    ends.1 ∙ ap (λ (ps : List Posted). ps ++ posted n 8 (Query e) ∷ []) is ∙ append_assoc sent (vote_of n e true ∷ []) (posted n 8 (Query e) ∷ [])
ended_letters (steps.Restarted false) n e cores new sent between after is ends = absurd ends
ended_letters steps.Stopped n e cores new sent between after is ends = absurd ends

pub told_ended : (step : Step) (n e : ℕ) (cores mid new : List Node) (sent between after : List Posted) (asked asked_new : ℕ → ℕ → Bool) → e < 2 ^ 64 → n < length cores → HasNewest e n cores → mid ≡ cores → between ≡ sent ++ vote_of n e true ∷ []
    → EndsVote step n e mid between new after → ((m p : ℕ) → m < 8 → p ≤ 6 → asked m p ≡ true → asked_new m p ≡ true) → asked_new n 5 ≡ true → AreTold e cores sent asked → AreTold e new after asked_new
told_ended step n e cores mid new sent between after asked asked_new fits within newest same is ends later five told =
    told_more n e cores new sent (letters_in step n e) after asked asked_new told (ended_letters step n e mid new sent between after is ends) (one_step step n e fits)
    (λ m was. stays m ∙ was) (λ m now. inl (sym (stays m) ∙ now)) (λ _. (stays n ∙ durable_here cores n newest.core newest.there ∙ newest.newest, five)) later
  where
    ends_here : EndsVote step n e cores between new after
    ends_here = subst (λ (cs : List Node). EndsVote step n e cs between new after) same ends

    stays : (m : ℕ) → durable_at new m ≡ durable_at cores m
    stays = durable_ended step n e cores new between after within newest ends_here

-- ---- a step

-- a node that is to force its entry has durable what it had
pub heard_durable : (n e : ℕ) (cores mid : List Node) → n < length cores → (core : Node) → slice_get cores n ≡ Some core → mid ≡ set cores n (record core { forcing = e }) → (m : ℕ) → durable_at mid m ≡ durable_at cores m
heard_durable n e cores mid within core there mid_is m = ap (λ (cs : List Node). durable_at cs m) mid_is ∙ at (eqb m n) refl
  where
    at : (b : Bool) → eqb m n ≡ b → durable_at (set cores n (record core { forcing = e })) m ≡ durable_at cores m
    at true is = let same : m ≡ n = eqb-true m n is in
        ap (durable_at (set cores n (record core { forcing = e }))) same ∙ durable_set cores n (record core { forcing = e }) within ∙ sym (durable_here cores n core there) ∙ ap (durable_at cores) (sym same)
    at false is = durable_else cores n m (record core { forcing = e }) (eqb-false m n is)

-- a node that was to force its entry, as it was heard, and the step behind that
module _ (step : Step) (n e : ℕ) (cores mid new : List Node) (sent between after : List Posted) (within : n < length cores) (core : Node) (there : slice_get cores n ≡ Some core) (mid_is : mid ≡ set cores n (record core { forcing = e }))
    (forces : IsForcing e n mid) (stepped : Steps step n e mid between new after) where
  mid_there : slice_get mid n ≡ Some (record core { forcing = e })
  mid_there = ap (λ (cs : List Node). slice_get cs n) mid_is ∙ get_set_same cores n (record core { forcing = e }) within

  older : core.durable < e
  older = subst (λ (c : Node). c.durable < e) (same_Some forces.core (record core { forcing = e }) (sym forces.there ∙ mid_there)) forces.newer

  step_core : stepped.core ≡ record core { forcing = e }
  step_core = same_Some stepped.core (record core { forcing = e }) (sym stepped.there ∙ mid_there)

  new_is : new ≡ set cores n (core_behind step n e stepped.core)
  new_is = stepped.cores_are ∙ ap (λ (cs : List Node). set cs n (core_behind step n e stepped.core)) mid_is ∙ set_again cores n (record core { forcing = e }) (core_behind step n e stepped.core)

  -- other nodes have durable what they had
  pub elsewhere : (m : ℕ) → m ≢ n → durable_at new m ≡ durable_at cores m
  elsewhere m other = ap (λ (cs : List Node). durable_at cs m) new_is ∙ durable_else cores n m (core_behind step n e stepped.core) other

  here : durable_at new n ≡ (core_behind step n e stepped.core).durable
  here = ap (λ (cs : List Node). durable_at cs n) new_is ∙ durable_set cores n (core_behind step n e stepped.core) within

  not_before : durable_at cores n ≡ e → ⊥
  not_before was = omega (arith, older, durable_here cores n core there, was)

  behind_is : (s : Step) → is_early s ≡ false → (core_behind s n e stepped.core).durable ≡ e
  behind_is steps.Voted late = refl
  behind_is (steps.Restarted voted) late = max_none e
  behind_is steps.Stopped late = absurd cc

  lost_is : (s : Step) → is_early s ≡ true → (core_behind s n e stepped.core).durable ≡ core.durable
  lost_is steps.Voted early = absurd cc
  lost_is (steps.Restarted voted) early = absurd cc
  lost_is steps.Stopped early = max_none stepped.core.durable ∙ ap (λ (c : Node). c.durable) step_core

  -- where the node has the epoch durable it was asked for what comes before its vote
  three_four : (asked : ℕ → Bool) (s : Step) → (core_behind s n e stepped.core).durable ≡ e → AreAsked s asked → (asked 3 ≡ true) × (asked 4 ≡ true)
  three_four asked steps.Voted now all = (all.0, all.1)
  three_four asked (steps.Restarted true) now all = (all.0, all.1)
  three_four asked (steps.Restarted false) now all = (all.0, all.1)
  three_four asked steps.Stopped now all = absurd (omega (arith, older, lost_is steps.Stopped refl, now))

  five : (asked : ℕ → Bool) (s : Step) → e < 2 ^ 64 → Contains (letters_in s n e) (vote_of n e true) → AreAsked s asked → ((core_behind s n e stepped.core).durable ≡ e) × (asked 5 ≡ true)
  five asked steps.Voted fits among all = (refl, all.2)
  five asked (steps.Restarted true) fits among all = (max_none e, all.2)
  five asked (steps.Restarted false) fits among all = elim (contains_cases (posted n 8 (Query e)) (vote_of n e true) [] among) [ inl same ↦ query_no_vote n n e true fits same | inr none ↦ none_in (vote_of n e true) none ]
  five asked steps.Stopped fits among all = none_in (vote_of n e true) among

  pub told_stepped : (asked asked_new : ℕ → ℕ → Bool) → e < 2 ^ 64 → between ≡ sent → AreAsked step (asked_new n) → ((m p : ℕ) → m < 8 → p ≤ 6 → asked m p ≡ true → asked_new m p ≡ true) → AreTold e cores sent asked → AreTold e new after asked_new
  told_stepped asked asked_new fits same all later told =
      told_more n e cores new sent (letters_in step n e) after asked asked_new told (stepped.sent_is ∙ ap (λ (ps : List Posted). ps ++ letters_in step n e) same) (one_step step n e fits) stays came
      (λ among. let both = five (asked_new n) step fits among all in (here ∙ both.0, both.1)) later
    where
      stays : (m : ℕ) → durable_at cores m ≡ e → durable_at new m ≡ e
      stays m was = at (eqb m n) refl
        where
          at : (b : Bool) → eqb m n ≡ b → durable_at new m ≡ e
          at true is = absurd (not_before (ap (durable_at cores) (sym (eqb-true m n is)) ∙ was))
          at false is = elsewhere m (eqb-false m n is) ∙ was

      came : (m : ℕ) → durable_at new m ≡ e → (durable_at cores m ≡ e) ⊎ ((m ≡ n) × (asked_new n 3 ≡ true) × (asked_new n 4 ≡ true))
      came m now = at (eqb m n) refl
        where
          at : (b : Bool) → eqb m n ≡ b → (durable_at cores m ≡ e) ⊎ ((m ≡ n) × (asked_new n 3 ≡ true) × (asked_new n 4 ≡ true))
          at true is =
              let same_node : m ≡ n = eqb-true m n is in
              let both = three_four (asked_new n) step (sym here ∙ ap (durable_at new) (sym same_node) ∙ now) all in
              inr (same_node, both.0, both.1)
          at false is = inl (sym (elsewhere m (eqb-false m n is)) ∙ now)

  settled_here : AreVoting e cores → IsSettled e (core_behind step n e stepped.core)
  settled_here voting =
      subst (λ (c : Node). IsSettled e (core_behind step n e c)) (sym step_core)
      (settled_step step n e (record core { forcing = e }) (voting n core there).kept older)

  settled_all : AreVoting e cores → (k : ℕ) (found : Node) → slice_get (set cores n (core_behind step n e stepped.core)) k ≡ Some found → IsSettled e found
  settled_all voting k found at = by_place (eqb k n) refl
    where
      by_place : (b : Bool) → eqb k n ≡ b → IsSettled e found
      by_place true is =
          let same : k ≡ n = eqb-true k n is in
          subst (IsSettled e) (same_Some (core_behind step n e stepped.core) found (sym (get_set_same cores n (core_behind step n e stepped.core) within) ∙ ap (slice_get (set cores n (core_behind step n e stepped.core))) (sym same) ∙ at)) (settled_here voting)
      by_place false is = settled_voting e found (voting k found (sym (get_set_other cores n k (core_behind step n e stepped.core) (eqb-false k n is)) ∙ at))

  entry_here : (m : ℕ) → (durable_at new m ≡ durable_at cores m) ⊎ (durable_at new m ≡ e)
  entry_here m = by_place (eqb m n) refl
    where
      by_step : (b : Bool) → is_early step ≡ b → (durable_at new n ≡ durable_at cores n) ⊎ (durable_at new n ≡ e)
      by_step true early = inl (here ∙ lost_is step early ∙ sym (durable_here cores n core there))
      by_step false late = inr (here ∙ behind_is step late)

      by_place : (b : Bool) → eqb m n ≡ b → (durable_at new m ≡ durable_at cores m) ⊎ (durable_at new m ≡ e)
      by_place true is = subst (λ (k : ℕ). (durable_at new k ≡ durable_at cores k) ⊎ (durable_at new k ≡ e)) (sym (eqb-true m n is)) (by_step (is_early step) refl)
      by_place false is = inl (elsewhere m (eqb-false m n is))

  pub cores_stepped : AreVoting e cores → KeepsCores e cores new
  cores_stepped voting = record {
    settled = subst (λ (cs : List Node). (k : ℕ) (found : Node) → slice_get cs k ≡ Some found → IsSettled e found) (sym new_is) (settled_all voting);
    entries = entry_here;
    decided = λ k found there. knows_set cores n (core_behind step n e stepped.core) within (unknown_behind step) k found (ap (λ (cs : List Node). slice_get cs k) (sym new_is) ∙ there);
  }
    where
      unknown_behind : (s : Step) → (core_behind s n e stepped.core).decision ≡ Unknown
      unknown_behind steps.Voted = refl
      unknown_behind (steps.Restarted voted) = refl
      unknown_behind steps.Stopped = refl

  pub near_stepped : (voter voter_new : Voter) → Marks step voter voter_new → Nears (stops_of step) (ahead_of e cores n voter) (ahead_of e new n voter_new)
  near_stepped voter voter_new marks =
      near_step step (have_durable e cores n) (have_durable e new n) voter.asked_after_vote voter_new.asked_after_vote (has_older e cores n core there older) (λ late. eq-eqb (durable_at new n) e (here ∙ behind_is step late)) marks.asked

  pub voting_behind : 0 < e → AreVoting e cores → is_early step ≡ false → AreVoting e new
  voting_behind some voting late = voting_stepped step n e mid new between after some (subst (λ (cs : List Node). n < length cs) (sym mid_is) (omega (arith, length-set cores n (record core { forcing = e }), within)))
      (λ k other apart found. voting k other (sym (get_set_other cores n k (record core { forcing = e }) apart) ∙ ap (λ (cs : List Node). slice_get cs k) (sym mid_is) ∙ found))
      (λ found is. subst (λ (c : Node). c.lost < e) (same_Some (record core { forcing = e }) found (sym mid_there ∙ is)) (voting n core there).kept) late stepped

-- ---- fresh letters

same_tail : {X : Type 0} (x : X) (ys zs : List X) → x ∷ ys ≡ x ∷ zs → ys ≡ zs
same_tail x ys zs is = cc

same_rest : {X : Type 0} (xs ys zs : List X) → xs ++ ys ≡ xs ++ zs → ys ≡ zs
same_rest [] ys zs is = is
same_rest (x ∷ xs) ys zs is = same_rest xs ys zs (same_tail x (xs ++ ys) (xs ++ zs) is)

-- what was sent is fresh
pub fresh_has : (sent fresh after fresh_new posts : List Posted) (p : Posted) → AreFresh sent fresh after fresh_new → after ≡ sent ++ posts → Contains posts p → Contains fresh_new p
fresh_has sent fresh after fresh_new posts p new is among =
    let same : new.posts ≡ posts = same_rest sent new.posts posts (sym new.sent_is ∙ is) in
    subst (λ (ps : List Posted). Contains ps p) (sym new.fresh_is) (Contains-append_right fresh new.posts p (subst (λ (ps : List Posted). Contains ps p) (sym same) among))

-- and stays so
pub fresh_still : (sent fresh after fresh_new : List Posted) (p : Posted) → AreFresh sent fresh after fresh_new → Contains fresh p → Contains fresh_new p
fresh_still sent fresh after fresh_new p new among = subst (λ (ps : List Posted). Contains ps p) (sym new.fresh_is) (Contains-append_left fresh new.posts p among)

-- a node that didn't stop has given its vote
pub never_voted : (step : Step) (n e : ℕ) → stops_of step ≡ Never → Contains (letters_in step n e) (vote_of n e true)
never_voted steps.Voted n e is = contains_here (vote_of n e true) []
never_voted (steps.Restarted voted) n e is = absurd cc
never_voted steps.Stopped n e is = absurd cc

pub vote_in : (n e : ℕ) → Contains (vote_of n e true ∷ []) (vote_of n e true)
vote_in n e = contains_here (vote_of n e true) []

-- ---- ways

-- a letter was heard, and then
pub between_heard : (M : World → World → Type 0) (epoch : ℕ) (i k : ℕ → ℕ) (a b c : Scene) → ((w v : World) → M w v → PreparesOnly epoch w v) → GoesOn a b → GoesBetween i k M b c → GoesBetween i k (PreparesOnly epoch) a c
between_heard M epoch i k a b c wider heard next =
    between_then (PreparesOnly epoch) M (PreparesOnly epoch) (λ w v u one two. only_then epoch w v u one (wider v u two)) i i k a b c
    (between_on SameEntries (PreparesOnly epoch) i i a b (λ w v _ same. only_same epoch w v same) (λ n lt. omega arith) heard) next

-- ---- one letter more

-- those that were asked for a vote have given it, or the letter waits still
pub votes_more : (n e : ℕ) (stops taken : Stops) (first waiting rest : List Letter) (letter : Letter) (fresh fresh_new : List Posted) → waiting ≡ letter ∷ rest
    → (stops ≡ Never → (l : Letter) → Contains first l → IsFrom 8 l (Prepare e) → Contains waiting l ⊎ Contains fresh (vote_of n e true)) → (IsFrom 8 letter (Prepare e) → taken ≡ Never → Contains fresh_new (vote_of n e true))
    → (Contains fresh (vote_of n e true) → Contains fresh_new (vote_of n e true)) → both_of stops taken ≡ Never → (l : Letter) → Contains first l → IsFrom 8 l (Prepare e) → Contains rest l ⊎ Contains fresh_new (vote_of n e true)
votes_more n e stops taken first waiting rest letter fresh fresh_new waits before votes still never l among from =
    let both = never_both stops taken never in
    elim (before both.0 l among from) [
      | inl there ↦ elim (contains_cases letter l rest (subst (λ (ls : List Letter). Contains ls l) waits there)) [
        | inl here ↦ inr (votes (subst (λ (x : Letter). IsFrom 8 x (Prepare e)) (sym here) from) both.1)
        | inr behind ↦ inl behind
      ]
      | inr voted ↦ inr (still voted)
    ]

-- and where none waits, all have given it
pub given_all : (n e : ℕ) (first waiting : List Letter) (fresh fresh_new : List Posted) → waiting ≡ [] → fresh_new ≡ fresh → ((l : Letter) → Contains first l → IsFrom 8 l (Prepare e) → Contains waiting l ⊎ Contains fresh (vote_of n e true))
    → HasGiven e n first fresh_new
given_all n e first waiting fresh fresh_new none same before letter among from = elim (before letter among from) [
  | inl waits ↦ none_in letter (subst (λ (ls : List Letter). Contains ls letter) none waits)
  | inr voted ↦ subst (λ (ps : List Posted). Contains ps (vote_of n e true)) (sym same) voted
]
