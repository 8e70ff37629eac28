-- The attempts of a worker at one request.
use Rattle.std.specs.Prelude.{◌≡◌, ⊤, ℕ, suc, ◌<◌, ◌≤◌, true, List, [], ◌∷◌, ◌++◌, length, Option, None, Some, if◌then◌else◌}
use Rattle.std.specs.List.{filter_map, flat_map, AllByRecursion}
use Rattle.coco_types.specs.Limits.{most_partitions}
use Rattle.coco_types.specs.declared.call.AttemptId.{AttemptId}
use Rattle.coco_types.specs.declared.call.Call.{Call}
use Rattle.coco_types.specs.declared.call.Request.{Request}
use Rattle.coco_types.specs.declared.call.Write.{Write}
use Rattle.coco_ast.specs.Fitting.{Fits}
use Rattle.coco_ast.specs.Tree.{Procedures}
use Rattle.coco_gate.specs.declared.passes.Passage.{Passage}
use Rattle.coco_occ.specs.Script.{IsScript}
use Rattle.coco_occ.specs.Steps.{at_shard}
use Rattle.coco_occ.specs.Trying.{Trying, Standing, Ready, Ended, has_ended}
use Rattle.coco_occ.specs.declared.outcome.Ended.{Ended as Unmade}
use Rattle.coco_occ.specs.declared.outcome.Ended.TheVariants as unmade
use Rattle.coco_occ.specs.declared.outcome.Outcome.{Outcome}
use Rattle.coco_occ.specs.declared.outcome.Outcome.TheVariants.{Committed, Conflict, OverTime}
use Rattle.coco_occ.specs.declared.outcome.Tried.{Tried}
use Rattle.coco_occ.specs.declared.script.Step.{Step}
use Rattle.coco_order.specs.Execution.{Tries, AreTries, all_tries, all_at_shard}
use Rattle.coco_order.specs.Outcome.{is_commit}
use Rattle.coco_worker.specs.Gains.{Make, ShardPass}
use Rattle.coco_worker.specs.declared.slot.Slot.{Slot}

-- ---- the room of an attempt

-- there is none yet, or its attempt has ended, so that the next one may use it
abbrev pub IsOver : Option Trying → Type 0
IsOver None = ⊤
IsOver (Some a) = has_ended a.standing ≡ true

-- an attempt at its start
abbrev pub at_start : Procedures → Call → AttemptId → ℕ → Trying
at_start procs call by partitions = record { procs = procs; call = call; by = by; partitions = partitions; script = []; standing = Ready }

-- the room has one at its start
abbrev pub IsReady : Procedures → Call → AttemptId → ℕ → Option Trying → Type 0
IsReady procs call by partitions room = room ≡ Some (at_start procs call by partitions)

-- it has an attempt that has ended so
abbrev pub HasEnded : Outcome → List Write → Option Trying → Type 0
HasEnded outcome writes None = ⊥
HasEnded outcome writes (Some a) = a.standing ≡ Ended outcome writes

-- ---- how an attempt ended

-- the time of a commit
abbrev pub time_of : Outcome → Option ℕ
time_of (Committed time reply) = Some time
time_of (Conflict why) = None
time_of OverTime = None

-- the end of one that didn't commit
abbrev pub unmade_of : Outcome → Option Unmade
unmade_of (Committed time reply) = None
unmade_of (Conflict why) = Some (unmade.Conflict why)
unmade_of OverTime = Some unmade.OverTime

abbrev pub ends_of : List Tried → List Unmade
ends_of ts = filter_map (λ t. unmade_of t.outcome) ts

-- ---- scripts

-- each attempt's number is its script's place in the transcript, from this place on
abbrev pub AreNumbered : ℕ → List Tried → Type 0
AreNumbered n [] = ⊤
AreNumbered n (t ∷ ts) = (t.by.number ≡ n) × AreNumbered (suc n) ts

-- the script is a whole one of the call at its place, by an attempt of the worker, with these writes
pub record IsAt (procs : Procedures) (request : Request) (worker place partitions : ℕ) (t : Tried) (writes : List Write) : Type 0 where
  pub at : t.place ≡ place
  pub by_worker : t.by.worker ≡ worker
  pub script : IsScript procs request.call t.by partitions t.script t.outcome writes

abbrev pub IsTriedAt : Procedures → Request → ℕ → ℕ → ℕ → Tried → Type 0
IsTriedAt procs request worker place partitions t = (writes : List Write) × IsAt procs request worker place partitions t writes

-- The transcript has these scripts more, of each of which P holds, and each pass of a shard made their steps there and no others.
pub record Adds (P : Tried → Type 0) (before after : Slot) (ts : List Tried) : Type 0 where
  pub transcript : after.transcript ≡ before.transcript ++ ts
  pub made : Make before.passes.items after.passes.items (λ shard. all_at_shard shard ts)
  pub whole : AllByRecursion P ts
  pub numbered : AreNumbered (length before.transcript) ts

-- ---- the gate

-- a point of a gate that a worker has passed
abbrev pub point : ℕ → ℕ → ℕ → Passage
point gate worker n = record { gate = gate; worker = worker; point = n }

-- the point that an attempt has passed once it has ended so
abbrev pub points_behind : ℕ → ℕ → Outcome → List Passage
points_behind gate worker outcome = if is_commit outcome then point gate worker 2 ∷ [] else []

-- the points of an attempt: 1 where it begins, and 2 where it has committed
abbrev pub points_of : ℕ → ℕ → Tried → List Passage
points_of gate worker t = point gate worker 1 ∷ points_behind gate worker t.outcome

-- the worker has passed the points of each attempt in its transcript, one after another, and no others
abbrev pub IsGated : ℕ → Slot → Type 0
IsGated gate s = s.passed ≡ flat_map (points_of gate s.worker) s.transcript

-- ---- one attempt

-- nothing of the slot has changed but its transcript, what its passes of shards did, and which points it passed
abbrev pub TriesOnly : Slot → Slot → Type 0
TriesOnly before after = after ≡ record before { passes = after.passes; transcript = after.transcript; passed = after.passed }

-- the call fits, and there are so many shards as there may be
pub record MayTry (procs : Procedures) (request : Request) (partitions : ℕ) : Type 0 where
  pub fits : Fits procs request.call
  pub some : 0 < partitions
  pub most : partitions ≤ most_partitions

-- An attempt that was so has ended in this room with a whole script, and nothing else of it has changed. Each pass of a
-- shard made its steps there.
pub record Runs (first : Trying) (room : Option Trying) (before after : List ShardPass) : Type 0 where
  pub script : List Step
  pub standing : Standing
  pub left : room ≡ Some (record first { script = script; standing = standing })
  pub ended : has_ended standing ≡ true
  pub whole : (outcome : Outcome) (writes : List Write) → standing ≡ Ended outcome writes → IsScript first.procs first.call first.by first.partitions script outcome writes
  pub made : Make before after (λ shard. at_shard shard script)

-- the transcript has the attempt's script more, which ended so, and the worker has passed the points behind its end
pub record AddsScript (gate place : ℕ) (by : AttemptId) (t : Trying) (before after : Slot) (outcome : Outcome) : Type 0 where
  pub writes : List Write
  pub ended : t.standing ≡ Ended outcome writes
  pub added : after.transcript ≡ before.transcript ++ record { place = place; by = by; script = t.script; outcome = outcome } ∷ []
  pub passed : after.passed ≡ before.passed ++ points_behind gate before.worker outcome

-- One script more at the request, with this outcome, whose attempt the room still has.
pub record TriesOnce (procs : Procedures) (request : Request) (place partitions : ℕ) (before after : Slot) (room : Option Trying) (outcome : Outcome) : Type 0 where
  pub tried : Tried
  pub writes : List Write
  pub adds : Adds (IsTriedAt procs request before.worker place partitions) before after (tried ∷ [])
  pub is : IsAt procs request before.worker place partitions tried writes
  pub outcome_is : tried.outcome ≡ outcome
  pub ended : HasEnded outcome writes room

-- ---- one after another

-- The scripts are as many as it takes. The ends of those that didn't commit are kept; the time is that of the commit.
pub record TriesOut (procs : Procedures) (request : Request) (place partitions attempts : ℕ) (before after : Slot) (ends : List Unmade) (room : Option Trying) (time : Option ℕ) : Type 0 where
  pub tries : Tries
  pub writes : List Write
  pub are : AreTries attempts tries
  pub at : tries.place ≡ place
  pub adds : Adds (IsTriedAt procs request before.worker place partitions) before after (all_tries tries)
  pub ends_are : ends ≡ ends_of (all_tries tries)
  pub time_is : time ≡ time_of tries.last.outcome
  pub ended : HasEnded tries.last.outcome writes room
  pub last : IsAt procs request before.worker place partitions tries.last writes
