-- What a worker's station needs to run, and what it leaves.
use Rattle.std.specs.Prelude.{◌≡◌, ℕ, ◌<◌, Bool, true, List, length, slice_index_or}
use Rattle.coco_types.specs.declared.call.Request.{Request}
use Rattle.coco_ast.specs.Tree.{Procedures}
use Rattle.coco_claim.specs.Seats.{Round}
use Rattle.coco_desks.specs.Gains.{AreOf, AreSame}
use Rattle.coco_seen.specs.Notes.{Lock}
use Rattle.coco_worker.specs.Working.{Job, Worked, Works, WorksDrawn}
use Rattle.coco_worker.specs.declared.slot.EpochConfig.{EpochConfig}
use Rattle.coco_parallel.specs.declared.workers.Station.{Station}

-- a pass of each lock, and a seat of the claims
pub record IsManned (shards copies : List Lock) (claims : Round) (station : Station) : Type 0 where
  pub locks : AreOf shards station.slot.passes.items
  pub copy_locks : AreOf copies station.slot.copy_passes.items
  pub seat : station.slot.seat.claims ≡ claims

-- The passes are the same, and a station that is done has worked off what its seat drew.
pub record Leaves (j : Job) (before after : Station) : Type 0 where
  pub same : AreSame before.slot.passes.items after.slot.passes.items
  pub same_copies : AreSame before.slot.copy_passes.items after.slot.copy_passes.items
  pub worker : after.slot.worker ≡ before.slot.worker
  pub worked : after.is_done ≡ true → (ws : List Worked) × Works j before.slot after.slot ws × WorksDrawn j before.slot after.slot ws

-- each station leaves so much, as the worker of its slot
abbrev pub LeavesEach : Procedures → List Request → ℕ → EpochConfig → (ℕ → ℕ → ℕ → ℕ → Bool) → List Station → List Station → Type 0
LeavesEach procs requests partitions config carries before after =
    (place : ℕ) (d : Station) → place < length before
    → Leaves (record { procs = procs; requests = requests; partitions = partitions; worker = (slice_index_or before place d).slot.worker; config = config; carries = carries }) (slice_index_or before place d) (slice_index_or after place d)
