-- What is in hand of nodes, of which one changes at a time.
use Rattle.std.proofs.Common.{◌≡◌, ◌≢◌, ◌⊎◌, inl, inr, ℕ, ◌+◌, ◌<◌, ◌≤◌, Bool, true, false, eqb, List, length, Option, Some, refl, sym, ap, subst, ◌∙◌, arith}
use Rattle.std.specs.List.{slice_get, Contains}
use Rattle.std.proofs.Math.ListN.{set}
use Rattle.std.proofs.lemmas.Bool.{eqb-true, eqb-false}
use Rattle.std.proofs.lemmas.Option.{same_Some, slice_get_within}
use Rattle.coco_host.specs.Files.{Files}
use Rattle.coco_log.specs.LogState.{LogState}
use Rattle.coco_store.specs.Contents.{Contents}
use Rattle.coco_append.specs.Gaining.{IsNodeLog, Stands}
use Rattle.coco_net.specs.declared.letter.Letter.{Letter}
use Rattle.coco_net.specs.declared.letter.Posted.{Posted}
use Rattle.coco_letters.specs.Turns.{AreFresh}
use Rattle.coco_letters.specs.declared.voter.Voter.{Voter}
use Rattle.coco_vote.specs.Taking.{vote_of, AreApart, AreHeld, AreMarked, AreReady, HasGiven, HaveLogs, IsElsewhere, IsMarked, KeepPlaces, KeepsPlace}
use Rattle.coco_vote.proofs.PlaceLemmas.{get_set_other, get_set_same, held_items}
use Rattle.coco_vote.proofs.TakingLemmas.{fresh_still}

pub places_same : (voters : List Voter) → KeepPlaces voters voters
places_same voters n now there = (now, there, record { held = refl; file = refl; kind = refl })

pub places_then : (a b c : List Voter) → KeepPlaces a b → KeepPlaces b c → KeepPlaces a c
places_then a b c one two n now there =
    let mid = two n now there in
    let was = one n mid.0 mid.1 in
    (was.0, was.1, record { held = mid.2.held ∙ was.2.held; file = mid.2.file ∙ was.2.file; kind = mid.2.kind ∙ was.2.kind })

pub apart_still : (a b : List Voter) → KeepPlaces a b → AreApart a → AreApart b
apart_still a b keep apart n m voter other here there differ same =
    let one = keep n voter here in
    let two = keep m other there in
    apart n m one.0 two.0 one.1 two.1 differ (sym one.2.file ∙ same ∙ two.2.file)

pub elsewhere_still : (a b : List Voter) (log : LogState) → KeepPlaces a b → IsElsewhere log a → IsElsewhere log b
elsewhere_still a b log keep away n voter here same = let was = keep n voter here in away n was.0 was.1 (same ∙ was.2.file)

-- a node holds what it held at first, and its log is that of the contents
pub held_still : (hold : ℕ → List Bool) (a b : List Voter) → KeepPlaces a b → AreHeld hold a → AreHeld hold b
held_still hold a b keep held n voter here = let was = keep n voter here in held n was.0 was.1 ∙ sym (held_items voter was.0 was.2.held)

pub log_is_still : (c : Contents) (a b : List Voter) (n : ℕ) (voter : Voter) → KeepPlaces a b → HaveLogs c a → slice_get b n ≡ Some voter → IsNodeLog c n voter.log
log_is_still c a b n voter keep logs here =
    let was = keep n voter here in
    let log = logs n was.0 was.1 in
    record { file = was.2.file ∙ log.file; kind = was.2.kind ∙ log.kind }

pub logs_still : (c : Contents) (a b : List Voter) → KeepPlaces a b → HaveLogs c a → HaveLogs c b
logs_still c a b keep logs n voter here = log_is_still c a b n voter keep logs here

-- one node's are others
module _ (voters : List Voter) (n : ℕ) (voter now : Voter) (there : slice_get voters n ≡ Some voter) where
  pub at_place : (k : ℕ) (x : Voter) → slice_get (set voters n now) k ≡ Some x → ((k ≡ n) × (now ≡ x)) ⊎ ((k ≢ n) × (slice_get voters k ≡ Some x))
  at_place k x here = by_place (eqb k n) refl
    where
      by_place : (b : Bool) → eqb k n ≡ b → ((k ≡ n) × (now ≡ x)) ⊎ ((k ≢ n) × (slice_get voters k ≡ Some x))
      by_place true at = let same : k ≡ n = eqb-true k n at in
          inl (same, same_Some now x (sym (get_set_same voters n now (slice_get_within voters n voter there)) ∙ ap (slice_get (set voters n now)) (sym same) ∙ here))
      by_place false at = inr (eqb-false k n at, sym (get_set_other voters n k now (eqb-false k n at)) ∙ here)

  pub places_set : KeepsPlace voter now → KeepPlaces voters (set voters n now)
  places_set keeps k x here = elim (at_place k x here) [
    | inl at ↦ (voter, ap (slice_get voters) at.0 ∙ there, subst (KeepsPlace voter) at.1 keeps)
    | inr other ↦ (x, other.1, record { held = refl; file = refl; kind = refl })
  ]

  pub marked_set : (asked asked_new : ℕ → ℕ → Bool) → length voters ≤ 8 → ((m p : ℕ) → m < 8 → p ≤ 6 → asked m p ≡ true → asked_new m p ≡ true) → AreMarked voters asked → IsMarked n now asked_new → AreMarked (set voters n now) asked_new
  marked_set asked asked_new few later marked here_is k x here mark = elim (at_place k x here) [
    | inl at ↦ (ap (λ (m : ℕ). asked_new m 5) at.0 ∙ here_is (ap (λ (v : Voter). v.asked_after_vote) at.1 ∙ mark))
    | inr other ↦ (let within : k < length voters = slice_get_within voters k x other.1 in later k 5 (omega arith) (omega arith) (marked k x other.1 mark))
  ]

  pub ready_set : (reads after : Option Files) (may_leave leaves : Files → Type 0) → AreApart voters → AreReady voters reads may_leave
      → ((log : LogState) → log.file ≢ voter.log.file → Stands log reads may_leave → Stands log after leaves) → now.log.spent ≡ false → Stands now.log after leaves → AreReady (set voters n now) after leaves
  ready_set reads after may_leave leaves apart ready others unspent stands k x here = elim (at_place k x here) [
    | inl at ↦ subst (λ (v : Voter). (v.log.spent ≡ false) × Stands v.log after leaves) at.1 (unspent, stands)
    | inr other ↦ (let was = ready k x other.1 in (was.0, others x.log (apart k n x voter other.1 there other.0) was.1))
  ]

-- ---- votes of one node more

pub given_more : (e n : ℕ) (first waiting : ℕ → List Letter) (sent fresh after fresh_new : List Posted) → ((p : ℕ) → n ≤ p → waiting p ≡ first p) → ((m : ℕ) → m < n → HasGiven e m (first m) fresh) → HasGiven e n (waiting n) fresh_new
    → AreFresh sent fresh after fresh_new → (m : ℕ) → m < n + 1 → HasGiven e m (first m) fresh_new
given_more e n first waiting sent fresh after fresh_new waits before here new m less letter among from = by_place (eqb m n) refl
  where
    by_place : (b : Bool) → eqb m n ≡ b → Contains fresh_new (vote_of m e true)
    by_place true at = let same : m ≡ n = eqb-true m n at in
        subst (λ (k : ℕ). Contains fresh_new (vote_of k e true)) (sym same)
        (here letter (subst (λ (ls : List Letter). Contains ls letter) (ap first same ∙ sym (waits n (let le : n ≤ n = omega arith in le))) among) from)
    by_place false at = let other : m ≢ n = eqb-false m n at in
        fresh_still sent fresh after fresh_new (vote_of m e true) new (before m (omega (arith, less, other)) letter among from)
