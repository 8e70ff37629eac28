-- Who is started of the workers of an epoch, and what is noted of their time.
use Rattle.std.specs.Prelude.{◌≡◌, ◌⊎◌, ℕ, ◌≤◌, max, min, List, [], slice_index_or}
use Rattle.coco_order.specs.Execution.{Transcript}
use Rattle.coco_pace.specs.Choosing.{after_epoch, workers_of}
use Rattle.coco_pace.specs.declared.Pace.{Pace}
use Rattle.coco_worker.specs.declared.slot.EpochConfig.{EpochConfig}

-- how many of so many that are allowed find a request to draw, of whom there is one at least
abbrev pub busy_of : ℕ → ℕ → ℕ
busy_of allowed requests = max 1 (min allowed requests)

-- and how many of these are started
abbrev pub started_of : Pace → ℕ → ℕ → ℕ
started_of p allowed requests = workers_of p (busy_of allowed requests) requests

-- the workers of an epoch with so many requests are told who of them is started
abbrev pub told : Pace → EpochConfig → ℕ → EpochConfig
told p config requests = record config { started = started_of p config.workers requests }

-- nothing was noted, or how long an epoch of so many requests took by so many workers
abbrev pub HasTimed : ℕ → ℕ → Pace → Pace → Type 0
HasTimed workers requests old new = (new ≡ old) ⊎ ((nanos : ℕ) × (new ≡ after_epoch workers requests nanos old))

-- only so many workers tried anything
abbrev pub OthersAreIdle : ℕ → List Transcript → Type 0
OthersAreIdle workers transcripts = (worker : ℕ) → workers ≤ worker → slice_index_or transcripts worker [] ≡ []
