-- What the run of an epoch leaves: Dones and pieces, and copies with what the early deliveries brought.
use Rattle.std.specs.Prelude.{◌≡◌, ◌*◌, List, length, map, nat_eq}
use Rattle.std.specs.List.{IsDistinct}
use Rattle.coco_types.specs.declared.call.Done.{Done}
use Rattle.coco_types.specs.declared.call.Piece.{Piece}
use Rattle.coco_types.specs.declared.call.Request.{Request}
use Rattle.coco_copy.specs.CopyState.{CopyState}
use Rattle.coco_tail.specs.SerialEpoch.{IsSerialEpoch}
use Rattle.coco_shard.specs.RowState.{ShardState}
use Rattle.coco_ship.specs.declared.ring.Ring.{Ring}
use Rattle.coco_parallel.specs.Ending.{Start}
use Rattle.coco_parallel.specs.Epochs.{beginning_with}
use Rattle.coco_parallel.specs.Traces.{IsTraceOf, Traced}
use Rattle.coco_parallel.specs.Worked.{AreReplayed, CopyJournal, HaveCommits, begun_all}

-- Each request has an id of its own. The Dones are the outcome of the trace's execution, and with these pieces and as
-- many shards a serial epoch.
pub record HasRun (s : Start) (shards : List ShardState) (dones : List Done) (pieces : List Piece) (trace : Traced) : Type 0 where
  pub distinct : IsDistinct nat_eq (map (λ (r : Request). r.id) s.requests)
  pub count : length shards ≡ length s.shards
  pub serial : IsSerialEpoch s.procs s.requests s.config.epoch s.opening shards dones pieces
  pub trace_is : IsTraceOf (beginning_with s.procs s.opening s.requests s.shards s.config) s.config.epoch dones trace

-- There are so many copies of each partition. From the beginning of the epoch on each took the entries of its journal,
-- which has the puts of the workers' commits and no others.
pub record HasCopied (s : Start) (before after : List CopyState) (journals : List CopyJournal) (trace : Traced) : Type 0 where
  pub tables : length before ≡ length s.shards * s.config.copies
  pub commits : HaveCommits s s.config.workers (length before) journals trace.transcripts
  pub replayed : AreReplayed (begun_all s.config.epoch before) journals after

-- the ring has the partitions of the shards, and as many copies of each
pub record IsRingOf (s : Start) (ring : Ring) : Type 0 where
  pub partitions : ring.partitions ≡ length s.shards
  pub copies : ring.copies ≡ s.config.copies
