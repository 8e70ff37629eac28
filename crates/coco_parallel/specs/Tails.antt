-- The tail of an execution: the requests that no attempt committed, each with the ends of the attempts at it.
use Rattle.std.specs.Prelude.{◌≡◌, ◌≢◌, ℕ, suc, ◌<◌, ◌≤◌, ◌^◌, false, if◌then◌else◌, List, [], ◌∷◌, length, Some}
use Rattle.std.specs.List.{AllByRecursion, slice_get}
use Rattle.coco_types.specs.Limits.{most_batch_lines}
use Rattle.coco_types.specs.declared.call.Request.{Request}
use Rattle.coco_occ.specs.declared.outcome.Outcome.TheVariants.{OverTime}
use Rattle.coco_occ.specs.declared.outcome.Tailed.{Tailed}
use Rattle.coco_occ.specs.declared.outcome.Tried.{Tried}
use Rattle.coco_order.specs.Conflicts.{HasConflicted, tried_at}
use Rattle.coco_order.specs.Execution.{Beginning, Execution, IsExecution, concat}
use Rattle.coco_order.specs.Outcome.{is_committed}
use Rattle.coco_worker.specs.Trying.{ends_of}

-- the id of a place's request, with the ends of the attempts at the place, in order
abbrev pub entry_at : Execution → ℕ → Request → Tailed
entry_at x place r = record { id = r.id; ends = ends_of (tried_at x place) }

-- those of the requests from a place on that no attempt committed, in input order
abbrev pub tail_from : Execution → ℕ → List Request → List Tailed
tail_from x place [] = []
tail_from x place (r ∷ rs) = if is_committed x place then tail_from x (suc place) rs else entry_at x place r ∷ tail_from x (suc place) rs

-- the tail is those of all requests
abbrev pub IsTail : Beginning → Execution → List Tailed → Type 0
IsTail b x tail = tail ≡ tail_from x 0 b.requests

-- The request of a place at which no attempt committed, with the ends of the attempts at it in order. They are as many as
-- are allowed, and each is a conflict that a journal shows.
pub record IsLeftOver (b : Beginning) (x : Execution) (d : Tailed) : Type 0 where
  pub place : ℕ
  pub request : Request
  pub placed : slice_get b.requests place ≡ Some request
  pub none : is_committed x place ≡ false
  pub is : d ≡ entry_at x place request
  pub conflicted : HasConflicted b x place

-- each entry of the tail is such a request, and no attempt was over time
pub record AreLeftOver (b : Beginning) (x : Execution) (tail : List Tailed) : Type 0 where
  pub each : AllByRecursion (IsLeftOver b x) tail
  pub in_time : AllByRecursion (λ (t : Tried). t.outcome ≢ OverTime) (concat x.transcripts)

-- in every execution of an epoch's size: there are no more requests than an epoch may have, and the attempts at each fit a
-- byte
abbrev pub TailsAreLeft : Type 0
TailsAreLeft = (b : Beginning) (x : Execution) (tail : List Tailed) → IsExecution b x → IsTail b x tail → length b.requests ≤ most_batch_lines → b.attempts < 2 ^ 8 → AreLeftOver b x tail
