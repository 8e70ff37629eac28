-- What workers may run on the tables of a store, and what they leave.
use Rattle.std.specs.Prelude.{◌≡◌, ℕ, ◌<◌, ◌≤◌, List, map, length, nat_eq}
use Rattle.std.specs.List.{IsDistinct}
use Rattle.coco_types.specs.Limits.{most_batch_lines, most_partitions}
use Rattle.coco_types.specs.declared.call.Done.{Done}
use Rattle.coco_types.specs.declared.call.Piece.{Piece}
use Rattle.coco_types.specs.declared.call.Request.{Request}
use Rattle.coco_ast.specs.Keyed.{Rows}
use Rattle.coco_ast.specs.Tree.{Procedures}
use Rattle.coco_copy.specs.CopyState.{CopyState}
use Rattle.coco_early.specs.Runs.{HasCopied}
use Rattle.coco_tail.specs.Running.{FitAll}
use Rattle.coco_tail.specs.SerialEpoch.{IsSerialEpoch}
use Rattle.coco_tail.specs.Shards.{HoldMap}
use Rattle.coco_order.specs.Execution.{Beginning}
use Rattle.coco_parallel.specs.Ending.{Start}
use Rattle.coco_parallel.specs.Epochs.{beginning_with}
use Rattle.coco_parallel.specs.Traces.{IsTraceOf, Traced}
use Rattle.coco_parallel.specs.Worked.{CopyJournal}
use Rattle.coco_shard.specs.RowState.{ShardState}
use Rattle.coco_ship.specs.declared.ring.Ring.{Ring}
use Rattle.coco_worker.specs.declared.slot.EpochConfig.{EpochConfig}

-- workers who are told this may run requests on shards: these hold a map between two epochs, the requests fit, and each has an id of its own
pub record MayWork (procs : Procedures) (requests : List Request) (config : EpochConfig) (shards : List ShardState) : Type 0 where
  pub some : 0 < length shards
  pub most : length shards ≤ most_partitions
  pub holds : (m : Rows) × HoldMap m shards
  pub fit : FitAll procs requests
  pub few : length requests ≤ most_batch_lines
  pub distinct : IsDistinct nat_eq (map (λ (r : Request). r.id) requests)
  pub workers : 0 < config.workers
  pub attempts : 0 < config.attempts
  pub nodes : 0 < config.nodes

-- the Dones and pieces of an epoch that workers ran on shards, and what they left of how they ran it
pub record HasWorked (b : Beginning) (epoch : ℕ) (shards : List ShardState) (dones : List Done) (pieces : List Piece) (trace : Traced) : Type 0 where
  pub serial : IsSerialEpoch b.procs b.requests epoch b.opening shards dones pieces
  pub traced : IsTraceOf b epoch dones trace

-- whatever map the shards held, an epoch of these requests was run from it, as they have it behind that
abbrev pub HaveWorked : Procedures → List Request → EpochConfig → List ShardState → List ShardState → List Done → List Piece → Traced → Type 0
HaveWorked procs requests config before after dones pieces trace =
    (m : Rows) → HoldMap m before → HasWorked (beginning_with procs m requests before config) config.epoch after dones pieces trace

-- The copies began the epoch, and each took, by a journal, what the workers' commits write in its partition and the net
-- carries early to its node, and nothing else.
abbrev pub HaveCopied : Start → List CopyState → List CopyState → Traced → Type 0
HaveCopied s before after trace = (journals : List CopyJournal) × HasCopied s before after journals trace

-- a ring with so many partitions, and as many copies of each
pub record IsRingOn (partitions copies : ℕ) (ring : Ring) : Type 0 where
  pub partitions_are : ring.partitions ≡ partitions
  pub copies_are : ring.copies ≡ copies
