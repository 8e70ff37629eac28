-- A whole epoch, from what its workers leave to what the tail leaves behind them.
use Rattle.std.proofs.Common.{◌≡◌, ℕ, ◌<◌, ◌≤◌, ◌^◌, Bool, nat_eq, List, map, length, sym, ap, ◌∙◌, subst, arith}
use Rattle.std.specs.FinMap.{empty}
use Rattle.std.specs.List.{IsDistinct}
use Rattle.std.proofs.lemmas.List.{length-map}
use Rattle.coco_types.specs.Limits.{most_batch_lines, most_partitions}
use Rattle.coco_types.specs.declared.call.Done.{Done}
use Rattle.coco_types.specs.declared.call.Piece.{Piece}
use Rattle.coco_types.specs.declared.call.Request.{Request}
use Rattle.coco_ast.specs.Keyed.{Rows}
use Rattle.coco_ast.specs.Tree.{Procedures}
use Rattle.coco_copy.specs.CopyState.{CopyState}
use Rattle.coco_desks.proofs.StartingLemmas.{numbers_count}
use Rattle.coco_tail.specs.Running.{FitAll}
use Rattle.coco_tail.specs.Shards.{AreOfPartitions, AreSettled, HoldMap, KeepStable, SettleOn}
use Rattle.coco_order.specs.Execution.{Journal, Transcript}
use Rattle.coco_shard.specs.RowState.{ShardState, stable_at}
use Rattle.coco_worker.specs.declared.slot.EpochConfig.{EpochConfig}
use Rattle.coco_worker.specs.declared.slot.Slot.{Slot}
use Rattle.coco_parallel.specs.Ending.{Start, beginning_of, execution_of}
use Rattle.coco_parallel.specs.Ends.{EndsAreSerial, IsEnd, IsSmall, MayBeginTail, MayRunTail, TailMayBegin}
use Rattle.coco_parallel.specs.Epochs.{IsWorkedEpoch, started_with, execution_with}
use Rattle.coco_parallel.specs.Laws.{AtEachEnd, IsStart}
use Rattle.coco_parallel.specs.Worked.{HaveWorked, begun_all, emptied, start_of}
use Rattle.coco_parallel.specs.declared.side_by_side.WorkersEnd.{WorkersEnd}
use Rattle.coco_parallel.proofs.KeepingLemmas.{emptied_begun, emptied_copied, settled_same}
use Rattle.coco_parallel.proofs.OpeningLemmas.{hold_some_map}

module _ {procs : Procedures} {requests : List Request} {shards : List ShardState} {config : EpochConfig} {carries : ℕ → ℕ → ℕ → ℕ → Bool} (tables : List CopyState) (left : WorkersEnd)
    (worked : (opening : Rows) → HaveWorked (start_of procs opening requests shards config carries) (begun_all config.epoch tables) left.shards.items left.journals.items left.copies.items left.copy_journals.items left.transcripts.items left.pieces.items) where
  -- the copies as they were when the epoch began
  pub copies_back : emptied left.copies.items ≡ begun_all config.epoch tables
  copies_back =
      let w = worked empty in
      emptied_copied (begun_all config.epoch tables) left.copies.items left.copy_journals.items w.copies_are (λ table lt. (w.copied table lt).replays) ∙ emptied_begun config.epoch tables

  -- a transcript of each worker that was started
  pub as_many_transcripts : length left.transcripts.items ≡ config.started
  as_many_transcripts =
      let w = worked empty in
      ap length w.transcripts_are ∙ length-map w.slots (λ (slot : Slot). slot.transcript) ∙ sym (length-map w.slots (λ (slot : Slot). slot.worker)) ∙ ap length w.ended.workers ∙ numbers_count 0 config.started

  module _ (some : 0 < length shards) (fit : FitAll procs requests) (partitions : AreOfPartitions shards) (settled : AreSettled shards) (distinct : IsDistinct nat_eq (map (λ (r : Request). r.id) requests)) (few : length requests ≤ most_batch_lines)
      (attempts : config.attempts < 2 ^ 8) where
    abbrev start_at : Rows → Start
    start_at m = start_of procs m requests shards config carries

    starts : (m : Rows) → HoldMap m shards → IsStart (start_at m)
    starts m holds = record { some = some; fitting = fit; holds = holds }

    small : (m : Rows) → IsSmall (start_at m)
    small m = record { distinct = distinct; few = few; attempts = attempts }

    pub may_begin : AtEachEnd TailMayBegin → MayBeginTail shards left.shards.items left.transcripts.items
    may_begin law =
        let m = hold_some_map shards partitions settled in
        let w = worked m.0 in
        subst (MayBeginTail shards left.shards.items) (sym w.transcripts_are) (law (start_at m.0) w.slots left.journals.items left.shards.items (starts m.0 m.1) w.ended (small m.0))

    pub may_run : AtEachEnd TailMayBegin → length shards ≤ most_partitions → MayRunTail left.shards.items
    may_run law most =
        let begun = may_begin law in
        record { some = (let count = begun.kept.count in omega (arith, count, some)); most = subst (λ (n : ℕ). n ≤ most_partitions) (sym begun.kept.count) most; partitions = begun.kept.partitions; quiet = begun.quiet }

    -- out of memory behind the workers, the shards are as they were
    pub shards_back : AtEachEnd TailMayBegin → (after back : List ShardState) → KeepStable left.shards.items after → SettleOn stable_at after back → back ≡ shards
    shards_back law after back kept settle =
        let first = (may_begin law).kept in
        settled_same shards after back settled (record { count = kept.count ∙ first.count; stable = λ p k. kept.stable p k ∙ first.stable p k }) settle

    pub whole_epoch : AtEachEnd EndsAreSerial → (after : List ShardState) (dones : List Done) (parts : List Piece) → KeepStable left.shards.items after
        → ((opening : Rows) (js : List Journal) → IsEnd (started_with procs opening requests left.shards.items config) config.epoch (execution_with js left.transcripts.items) left.pieces.items left.shards.items after dones parts)
        → (m : Rows) → HoldMap m shards → IsWorkedEpoch (started_with procs m requests shards config) config.epoch left.journals.items left.transcripts.items after dones parts
    whole_epoch law after dones parts kept end m holds =
        let w = worked m in
        let by_machines : IsEnd (beginning_of (start_at m)) config.epoch (execution_with left.journals.items left.transcripts.items) left.pieces.items left.shards.items after dones parts =
        subst (λ (n : ℕ). IsEnd (record { procs = procs; opening = m; requests = requests; partitions = n; workers = config.started; attempts = config.attempts }) config.epoch (execution_with left.journals.items left.transcripts.items) left.pieces.items left.shards.items after dones parts) w.ended.machines_are (end m left.journals.items) in
        let by_slots : IsEnd (beginning_of (start_at m)) config.epoch (execution_of w.slots left.journals.items) left.pieces.items left.shards.items after dones parts =
        subst (λ (ts : List Transcript). IsEnd (beginning_of (start_at m)) config.epoch (execution_with left.journals.items ts) left.pieces.items left.shards.items after dones parts) w.transcripts_are by_machines in
        subst (λ (ts : List Transcript). IsWorkedEpoch (beginning_of (start_at m)) config.epoch left.journals.items ts after dones parts) (sym w.transcripts_are)
        (law (start_at m) w.slots left.journals.items left.shards.items (starts m holds) w.ended (small m) after dones parts kept
        (subst (λ (ls : List (List Piece)). IsEnd (beginning_of (start_at m)) config.epoch (execution_of w.slots left.journals.items) ls left.shards.items after dones parts) w.pieces_are by_slots))
