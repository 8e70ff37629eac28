-- Conflicts as the journals show them, and the places of the tail: those at which every attempt that is allowed conflicted.
use Rattle.std.specs.Prelude.{◌≡◌, ◌≢◌, ◌⊎◌, ℕ, ◌<◌, ◌≤◌, false, nat_eq, List, [], ◌∷◌, length, Option, Some}
use Rattle.std.specs.List.{filter, AllByRecursion, slice_get}
use Rattle.coco_types.specs.Limits.{most_time}
use Rattle.coco_types.specs.RowKey.{RowKey}
use Rattle.coco_types.specs.declared.value.Value.{Value}
use Rattle.coco_types.specs.declared.call.AttemptId.{AttemptId}
use Rattle.coco_types.specs.declared.call.Request.{Request}
use Rattle.coco_shard.specs.declared.ops.Op.{Op}
use Rattle.coco_shard.specs.declared.ops.Op.TheVariants.{Read, Lock, Extend}
use Rattle.coco_shard.specs.declared.ops.Answer.{Answer}
use Rattle.coco_shard.specs.declared.ops.Answer.TheVariants.{Got, Locked, Marked, Changed}
use Rattle.coco_occ.specs.declared.outcome.Outcome.TheVariants.{Conflict}
use Rattle.coco_occ.specs.declared.outcome.Tried.{Tried}
use Rattle.coco_occ.specs.declared.outcome.Why.{Why}
use Rattle.coco_occ.specs.declared.outcome.Why.TheVariants as why
use Rattle.coco_order.specs.OneKey.{Among, step}
use Rattle.coco_order.specs.Execution.{AreWorkedOff, Beginning, Execution, Tries, all_tries, concat, journal_on}
use Rattle.coco_order.specs.Outcome.{is_commit, is_committed, tail_requests}

-- ---- conflicts

-- the first is one of the items of a list, and the other is one behind it
abbrev pub InOrder : {X : Type 0} → List X → X → X → Type 0
InOrder [] first other = ⊥
InOrder (x ∷ xs) first other = ((x ≡ first) × Among xs other) ⊎ InOrder xs first other

-- The journal of the key's shard has a step of the attempt, a lock or an extension of the key, that was answered with the
-- mark of another attempt.
pub record ShowsMark (b : Beginning) (x : Execution) (by : AttemptId) (key : RowKey) (holder : AttemptId) : Type 0 where
  pub op : Op
  pub asked : (op ≡ Lock key) ⊎ ((wts : ℕ) × (time : ℕ) × (op ≡ Extend key wts time))
  pub stands : Among (journal_on b x key) (step by op (Marked holder))
  pub another : holder ≢ by

-- a lock of the key that found it at this write time, or an extension of the version that was read, which found the key
-- changed to it
abbrev pub Finds : RowKey → ℕ → ℕ → Op → Answer → Type 0
Finds key read found op answer =
    ((rts : ℕ) × (op ≡ Lock key) × (answer ≡ Locked found rts))
    ⊎ ((time : ℕ) × (op ≡ Extend key read time) × (answer ≡ Changed found))

-- The journal of the key's shard has the attempt's read of the key, which showed the one write time, and behind it a step
-- of the attempt that found the other.
pub record ShowsChange (b : Beginning) (x : Execution) (by : AttemptId) (key : RowKey) (read found : ℕ) : Type 0 where
  pub rts : ℕ
  pub value : Option Value
  pub op : Op
  pub answer : Answer
  pub finds : Finds key read found op answer
  pub stand : InOrder (journal_on b x key) (step by (Read key) (Got read rts value)) (step by op answer)
  pub another : found ≢ read

abbrev pub ShowsWhy : Beginning → Execution → AttemptId → Why → Type 0
ShowsWhy b x by (why.Marked key holder) = ShowsMark b x by key holder
ShowsWhy b x by (why.Changed key read found) = ShowsChange b x by key read found

-- the attempt ended in a conflict that a journal shows
pub record ShowsConflict (b : Beginning) (x : Execution) (t : Tried) : Type 0 where
  pub reason : Why
  pub outcome_is : t.outcome ≡ Conflict reason
  pub shown : ShowsWhy b x t.by reason

-- ---- the tail

-- the scripts of a place
abbrev pub tried_at : Execution → ℕ → List Tried
tried_at x place = filter (λ t. nat_eq t.place place) (concat x.transcripts)

-- as many attempts were made at the place as are allowed, and each ended in a conflict that a journal shows
pub record HasConflicted (b : Beginning) (x : Execution) (place : ℕ) : Type 0 where
  pub used_up : length (tried_at x place) ≡ b.attempts
  pub each : AllByRecursion (ShowsConflict b x) (tried_at x place)

-- Where the scripts are no more than the greatest time, each place at which none committed has conflicted, and each
-- request of the tail is that of such a place.
pub record HaveConflicted (b : Beginning) (x : Execution) : Type 0 where
  pub places : (place : ℕ) → place < length b.requests → is_committed x place ≡ false → HasConflicted b x place
  pub requests : (r : Request) → Among (tail_requests b x) r → (place : ℕ) × (slice_get b.requests place ≡ Some r) × (is_committed x place ≡ false) × HasConflicted b x place

abbrev pub TailsConflicted : Beginning → Execution → Type 0
TailsConflicted b x = length (concat x.transcripts) ≤ most_time → HaveConflicted b x

-- whichever tries work the requests off, those of a request are the scripts of its place, and one of these committed
-- exactly where the last one did
pub record AreItsScripts (b : Beginning) (x : Execution) (r : Tries) : Type 0 where
  pub within : r.place < length b.requests
  pub scripts : tried_at x r.place ≡ all_tries r
  pub committed : is_committed x r.place ≡ is_commit r.last.outcome

abbrev pub TriesAreScripts : Beginning → Execution → Type 0
TriesAreScripts b x = (worked : AreWorkedOff b x.transcripts) (r : Tries) → Among (concat worked.tries) r → AreItsScripts b x r
