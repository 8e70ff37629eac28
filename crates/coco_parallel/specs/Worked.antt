-- What the workers of an epoch came to.
use Rattle.std.specs.Prelude.{◌≡◌, ℕ, ◌<◌, Bool, List, [], All, map, length, slice_index_or}
use Rattle.std.specs.List.{AllByRecursion, filter_map, flat_map, slice_get}
use Rattle.std.specs.FinMap.{empty}
use Rattle.coco_types.specs.RowKey.{RowKey}
use Rattle.coco_types.specs.declared.call.Piece.{Piece}
use Rattle.coco_types.specs.declared.call.Request.{Request}
use Rattle.coco_ast.specs.Keyed.{Rows}
use Rattle.coco_ast.specs.Tree.{Procedures}
use Rattle.coco_copy.specs.CopyState.{CopyState, begun}
use Rattle.coco_copy.specs.Puts.{after_ask, answer_in}
use Rattle.coco_copy.specs.declared.ops.CopyAnswer.{CopyAnswer}
use Rattle.coco_copy.specs.declared.ops.CopyAsk.{CopyAsk}
use Rattle.coco_tail.specs.Shards.{shard_at}
use Rattle.coco_journaled.specs.declared.entry.Entry.{Entry}
use Rattle.coco_journaled.specs.Passes.{HasPasses, entries_of}
use Rattle.coco_journaled.specs.Replay.{Replays}
use Rattle.coco_order.specs.Execution.{Journal, Transcript}
use Rattle.coco_shard.specs.RowState.{ShardState, stable_at}
use Rattle.coco_worker.specs.Working.{Job, IsWorkedOff, Worked, copied, scripts_of}
use Rattle.coco_worker.specs.declared.slot.EpochConfig.{EpochConfig}
use Rattle.coco_worker.specs.declared.slot.Slot.{Slot}
use Rattle.coco_parallel.specs.Copies.{CopyPass}
use Rattle.coco_parallel.specs.Ending.{HasEnded, Start, job_of}

abbrev pub CopyJournal : Type 0
CopyJournal = List (Entry CopyAsk CopyAnswer)

-- ---- the copies

-- the workers' passes of one table's lock
abbrev pub copy_passes_at : ℕ → List Slot → List CopyPass
copy_passes_at table slots = filter_map (λ (slot : Slot). slice_get slot.copy_passes.items table) slots

abbrev pub table_at : List CopyState → ℕ → CopyState
table_at tables table = slice_index_or tables table (begun 0 empty)

-- what the lock of a table that was so at its start closed with, once all its passes were back
pub record IsCopied (root : CopyState) (passes : List CopyPass) (journal : CopyJournal) (machine : CopyState) : Type 0 where
  pub passes_are : HasPasses passes journal
  pub replays : Replays answer_in after_ask root journal machine

-- what a worker's puts are in the tables' journals: of the requests that it worked off, whose scripts are its transcript,
-- the writes of the commits on each table's partition, where the net carries them to the table's node, in order
pub record PutsItsCommits (j : Job) (tables : ℕ) (journals : List CopyJournal) (transcript : Transcript) : Type 0 where
  pub worked : List Worked
  pub each : AllByRecursion (IsWorkedOff j) worked
  pub scripts : transcript ≡ scripts_of worked
  pub puts : (table : ℕ) → table < tables → map (λ (e : Entry CopyAsk CopyAnswer). e.ask) (entries_of j.worker (slice_index_or journals table [])) ≡ flat_map (copied j table) worked

-- the tables' journals have the puts of these workers' commits, and no others
pub record HaveCommits (s : Start) (workers tables : ℕ) (journals : List CopyJournal) (transcripts : List Transcript) : Type 0 where
  pub count : length journals ≡ tables
  pub puts : (worker : ℕ) → worker < workers → PutsItsCommits (job_of s worker) tables journals (slice_index_or transcripts worker [])
  pub no_other : (table : ℕ) → table < tables → All (λ (e : Entry CopyAsk CopyAnswer). e.pass < workers) (slice_index_or journals table [])

-- each of these tables is, behind its lock, what its journal makes of it
pub record AreReplayed (tables : List CopyState) (journals : List CopyJournal) (copies : List CopyState) : Type 0 where
  pub count : length copies ≡ length tables
  pub each : (table : ℕ) → table < length tables → Replays answer_in after_ask (table_at tables table) (slice_index_or journals table []) (table_at copies table)

-- ---- all of it

-- The workers have worked off all requests, the shards and the tables are as their locks left them, and what the
-- workers kept is theirs.
pub record HaveWorked (s : Start) (tables : List CopyState) (shards : List ShardState) (journals : List Journal) (copies : List CopyState) (copy_journals : List CopyJournal) (transcripts : List Transcript) (pieces : List (List Piece)) : Type 0 where
  pub slots : List Slot
  pub ended : HasEnded s slots journals shards
  pub copies_are : length copies ≡ length tables
  pub commits : HaveCommits s s.config.started (length tables) copy_journals transcripts
  pub copied : (table : ℕ) → table < length tables → IsCopied (table_at tables table) (copy_passes_at table slots) (slice_index_or copy_journals table []) (table_at copies table)
  pub transcripts_are : transcripts ≡ map (λ (slot : Slot). slot.transcript) slots
  pub pieces_are : pieces ≡ map (λ (slot : Slot). slot.pieces) slots

-- ---- given up

-- as many shards, with the stable values that they had
pub record KeepValues (old new : List ShardState) : Type 0 where
  pub count : length new ≡ length old
  pub stable : (p : ℕ) (k : RowKey) → stable_at (shard_at new p) k ≡ stable_at (shard_at old p) k

-- the tables with nothing that pends
abbrev pub emptied : List CopyState → List CopyState
emptied tables = map (λ (t : CopyState). begun t.epoch t.stable) tables

-- the tables at the beginning of an epoch
abbrev pub begun_all : ℕ → List CopyState → List CopyState
begun_all epoch tables = map (λ (t : CopyState). begun epoch t.stable) tables

-- as the workers of an epoch begin
abbrev pub start_of : Procedures → Rows → List Request → List ShardState → EpochConfig → (ℕ → ℕ → ℕ → ℕ → Bool) → Start
start_of procs opening requests shards config carries = record { procs = procs; opening = opening; requests = requests; shards = shards; config = config; carries = carries }
