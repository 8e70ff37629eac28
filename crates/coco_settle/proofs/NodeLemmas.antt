-- What becomes of nodes at the end of an epoch.
use Rattle.std.proofs.Common.{◌≡◌, ◌≢◌, inl, inr, ℕ, ◌+◌, ◌<◌, max, true, false, List, [], ◌∷◌, length, Option, Some, None, refl, sym, ap, subst, ◌∙◌, arith}
use Rattle.std.specs.List.{slice_get}
use Rattle.std.proofs.lemmas.Option.{same_Some, slice_get_cases, slice_get_within}
use Rattle.coco_vote.proofs.StepLemmas.{max_none}
use Rattle.coco_append.specs.Gaining.{Stands}
use Rattle.coco_host.specs.Files.{Files}
use Rattle.coco_log.specs.LogState.{LogState}
use Rattle.coco_net.specs.declared.letter.Posted.{Posted}
use Rattle.coco_node.specs.Node.{restarted, Node}
use Rattle.coco_node.specs.declared.machine.Decision.{Decision}
use Rattle.coco_node.specs.declared.machine.Decision.TheVariants.{Aborted, Committed, Unknown}
use Rattle.coco_finish.specs.declared.tables.NodeTables.{NodeTables}
use Rattle.coco_finish.specs.Finishing.{AllCanFinish, Finish, HasYetToHear}
use Rattle.coco_finish.specs.Stopping.{AllHaveNewest, StopSome}
use Rattle.coco_letters.specs.declared.voter.Voter.{Voter}
use Rattle.coco_vote.specs.Beginning.{AreNew, IsNew}
use Rattle.coco_vote.specs.Taking.{AreApart, AreReady, AreVoting}
use Rattle.coco_settle.specs.Settling.{MarkStops}

-- an element within a list
pub at_place : {X : Type 0} (xs : List X) (n : ℕ) → n < length xs → (x : X) × (slice_get xs n ≡ Some x)
at_place xs n lt = elim (slice_get_cases xs n).1 [
  | inl inside ↦ (inside.0, inside.2)
  | inr past ↦ absurd (omega (arith, past.0, lt))
]

-- ---- cores

-- a node that finishes an epoch is as new to the next one as before
pub new_finish : (e next : ℕ) (cores cores_new : List Node) (old new : NodeTables) → Finish e cores cores_new old new → AreNew next cores → AreNew next cores_new
new_finish e next cores cores_new old new finish are n core at = elim (finish.nodes n) [
  | inl stays ↦ are n core (sym stays.core ∙ at)
  | inr promotes ↦
      (let was : IsNew next promotes.core = are n promotes.core promotes.there in
      subst (IsNew next) (same_Some (record promotes.core { decision = Committed }) core (sym promotes.heard ∙ at)) (record { idle = was.idle; kept = was.kept; older = was.older }))
]

-- nodes that have voted can finish, and have heard nothing
pub yet_voted : (e : ℕ) (cores : List Node) → AreVoting e cores → AllHaveNewest e cores → (n : ℕ) (core : Node) → slice_get cores n ≡ Some core → HasYetToHear e core
yet_voted e cores voting newest n core at =
    let is : core.durable ≡ e = newest n core at in
    elim (voting n core at).stands [
      | inl older ↦ absurd (omega (arith, older, is))
      | inr stands ↦ record { newest = is; unknown = stands.1 }
    ]

unknown_not : ◌≡◌ {A = Decision} Unknown Aborted → ⊥
unknown_not is = absurd cc

pub can_voted : (e : ℕ) (cores : List Node) → ((n : ℕ) (core : Node) → slice_get cores n ≡ Some core → HasYetToHear e core) → AllCanFinish e cores
can_voted e cores yet n core at = record { has = (let is : core.durable ≡ e = (yet n core at).newest in omega (arith, is)); stands = λ _ aborted. unknown_not (sym (yet n core at).unknown ∙ aborted) }

pub new_voted : (e : ℕ) (cores : List Node) → AreVoting e cores → AllHaveNewest e cores → AreNew (e + 1) cores
new_voted e cores voting newest n core at =
    let is : core.durable ≡ e = newest n core at in
    let kept : core.lost < e = (voting n core at).kept in
    record { idle = (voting n core at).idle; kept = omega (arith, kept); older = omega (arith, is) }

new_restarted : (e n : ℕ) → IsNew (e + 1) (restarted n (e ∷ []) None)
new_restarted e n = record { idle = refl; kept = omega arith; older = (let is : max e 0 ≡ e = max_none e in omega (arith, is)) }

-- ---- stops

module _ (e : ℕ) (stopped stopped_new : ℕ → ℕ) (cores : List Node) (voters : List Voter) (sent : List Posted) (cores_new : List Node) (voters_new : List Voter) (sent_new : List Posted)
    (some : StopSome e (length cores) stopped stopped_new cores voters sent cores_new voters_new sent_new) (many : length voters ≡ length cores) (cores_many : length cores_new ≡ length cores) (voters_many : length voters_new ≡ length voters) where
  pub new_stopped : AreNew (e + 1) cores → AreNew (e + 1) cores_new
  new_stopped are n core at =
      let inside : n < length cores_new = slice_get_within cores_new n core at in
      let within : n < length cores = omega (arith, inside, cores_many) in
      let was = at_place cores n within in
      let voter = at_place voters n (omega (arith, within, many)) in
      elim (some.nodes n was.0 voter.0 within was.1 voter.1) [
        | inl stops ↦ subst (IsNew (e + 1)) (same_Some (restarted n (e ∷ []) None) core (sym stops.1.core_is ∙ at)) (new_restarted e n)
        | inr goes ↦ are n core (was.1 ∙ sym goes.1.core_is ∙ at)
      ]

  pub marks_stopped : MarkStops stopped stopped_new voters voters_new
  marks_stopped n voter at =
      let inside : n < length voters = slice_get_within voters n voter at in
      let within : n < length cores = omega (arith, inside, many) in
      let was = at_place cores n within in
      elim (some.nodes n was.0 voter within was.1 at) [ inl stops ↦ inl (stops.0, stops.1.voter_is) | inr goes ↦ inr (goes.0, goes.1.voter_is) ]

-- ---- what is in hand of nodes

-- a log of a node is that of before
record HadLog (voters : List Voter) (n : ℕ) (now : Voter) : Type 0 where
  was : Voter
  there : slice_get voters n ≡ Some was
  log : now.log ≡ was.log

module _ (stopped stopped_new : ℕ → ℕ) (voters voters_new : List Voter) (marks : MarkStops stopped stopped_new voters voters_new) (many : length voters_new ≡ length voters) where
  had_log : (n : ℕ) (now : Voter) → slice_get voters_new n ≡ Some now → HadLog voters n now
  had_log n now at =
      let inside : n < length voters_new = slice_get_within voters_new n now at in
      let was = at_place voters n (omega (arith, inside, many)) in
      elim (marks n was.0 was.1) [
        | inl stops ↦ record { was = was.0; there = was.1; log = ap (λ (v : Voter). v.log) (same_Some now (record was.0 { is_lost = true }) (sym at ∙ stops.1)) }
        | inr goes ↦ record { was = was.0; there = was.1; log = ap (λ (v : Voter). v.log) (same_Some now was.0 (sym at ∙ goes.1)) }
      ]

  pub apart_stopped : AreApart voters → AreApart voters_new
  apart_stopped apart n m now other at there distinct same =
      let first = had_log n now at in
      let second = had_log m other there in
      apart n m first.was second.was first.there second.there distinct (sym (ap (λ (l : LogState). l.file) first.log) ∙ same ∙ ap (λ (l : LogState). l.file) second.log)

  pub elsewhere_stopped : (file : ℕ) → ((n : ℕ) (voter : Voter) → slice_get voters n ≡ Some voter → voter.log.file ≢ file) → (n : ℕ) (voter : Voter) → slice_get voters_new n ≡ Some voter → voter.log.file ≢ file
  elsewhere_stopped file apart n now at same =
      let first = had_log n now at in
      apart n first.was first.there (sym (ap (λ (l : LogState). l.file) first.log) ∙ same)

  pub ready_stopped : (reads reads_new : Option Files) (may_leave may_leave_new : Files → Type 0)
      → ((n : ℕ) (voter : Voter) → slice_get voters n ≡ Some voter → Stands voter.log reads may_leave → Stands voter.log reads_new may_leave_new) → AreReady voters reads may_leave → AreReady voters_new reads_new may_leave_new
  ready_stopped reads reads_new may_leave may_leave_new still ready n now at =
      let first = had_log n now at in
      let was = ready n first.was first.there in
      subst (λ (log : LogState). (log.spent ≡ false) × Stands log reads_new may_leave_new) (sym first.log) (was.0, still n first.was first.there was.1)
