-- What an epoch comes to whose requests were worked off side by side, with the tail behind them.
use Rattle.std.specs.Prelude.{ℕ, List, length}
use Rattle.coco_types.specs.declared.call.Done.{Done}
use Rattle.coco_types.specs.declared.call.Piece.{Piece}
use Rattle.coco_types.specs.declared.call.Request.{Request}
use Rattle.coco_ast.specs.Keyed.{Rows}
use Rattle.coco_ast.specs.Tree.{Procedures}
use Rattle.coco_tail.specs.SerialEpoch.{IsSerialEpoch}
use Rattle.coco_order.specs.Execution.{Beginning, Execution, IsExecution, Journal, Transcript}
use Rattle.coco_order.specs.Outcome.{IsOutcome}
use Rattle.coco_shard.specs.RowState.{ShardState}
use Rattle.coco_worker.specs.declared.slot.EpochConfig.{EpochConfig}

-- what it begins with on shards that hold this map
abbrev pub beginning_with : Procedures → Rows → List Request → List ShardState → EpochConfig → Beginning
beginning_with procs opening requests shards config =
    record { procs = procs; opening = opening; requests = requests; partitions = length shards; workers = config.workers; attempts = config.attempts }

-- and what of it those begin with who are started
abbrev pub started_with : Procedures → Rows → List Request → List ShardState → EpochConfig → Beginning
started_with procs opening requests shards config = record (beginning_with procs opening requests shards config) { workers = config.started }

abbrev pub execution_with : List Journal → List Transcript → Execution
execution_with journals transcripts = record { journals = journals; transcripts = transcripts }

-- The journals of the shards' locks and the workers' transcripts are an execution, whose Dones these are; and with the tail they are a serial epoch.
pub record IsWorkedEpoch (b : Beginning) (epoch : ℕ) (journals : List Journal) (transcripts : List Transcript) (shards : List ShardState) (dones : List Done) (parts : List Piece) : Type 0 where
  pub execution : IsExecution b (execution_with journals transcripts)
  pub outcome : IsOutcome b epoch (execution_with journals transcripts) dones
  pub serial : IsSerialEpoch b.procs b.requests epoch b.opening shards dones parts
