-- What an epoch's run leaves, in the words of what it began with.
use Rattle.std.proofs.Common.{◌≡◌, ◌*◌, ℕ, Bool, List, length, map, nat_eq, subst}
use Rattle.std.specs.List.{IsDistinct}
use Rattle.coco_types.specs.declared.call.Done.{Done}
use Rattle.coco_types.specs.declared.call.Piece.{Piece}
use Rattle.coco_types.specs.declared.call.Request.{Request}
use Rattle.coco_ast.specs.Keyed.{Rows}
use Rattle.coco_ast.specs.Tree.{Procedures}
use Rattle.coco_copy.specs.CopyState.{CopyState}
use Rattle.coco_early.specs.Laws.{EarlyRowsAreOfPieces, OfEachRun, PiecesAreShippable}
use Rattle.coco_early.specs.Runs.{HasCopied, HasRun, IsRingOf}
use Rattle.coco_tail.specs.SerialEpoch.{IsSerialEpoch}
use Rattle.coco_tail.specs.Shards.{HoldMap}
use Rattle.coco_parallel.specs.Ending.{Start}
use Rattle.coco_parallel.specs.Epochs.{beginning_with}
use Rattle.coco_parallel.specs.Traces.{IsTraceOf, traced}
use Rattle.coco_parallel.specs.Worked.{AreReplayed, CopyJournal, HaveCommits, begun_all, start_of}
use Rattle.coco_parallel.specs.declared.trace.Trace.{Trace}
use Rattle.coco_shard.specs.RowState.{ShardState}
use Rattle.coco_ship.specs.Pieces.{AreShippable}
use Rattle.coco_ship.specs.Shipping.{AreBegun}
use Rattle.coco_ship.specs.declared.ring.Ring.{Ring}
use Rattle.coco_worker.specs.declared.slot.EpochConfig.{EpochConfig}
use Rattle.coco_work.specs.Working.{HasWorked, HaveCopied, IsRingOn}

module _ (procs : Procedures) (config : EpochConfig) (carries : ℕ → ℕ → ℕ → ℕ → Bool) (after : List ShardState) (copies : List CopyState) (journals : List CopyJournal) (dones : List Done) (pieces : List Piece) (trace : Trace) where
  -- all that is said of it
  pub record Leaves (requests : List Request) (before : List ShardState) (tables : List CopyState) : Type 0 where
    pub count : length after ≡ length before
    pub serial : (m : Rows) → HoldMap m before → IsSerialEpoch procs requests config.epoch m after dones pieces
    pub trace_is : (m : Rows) → HoldMap m before → IsTraceOf (beginning_with procs m requests before config) config.epoch dones (traced trace)
    pub commits : (m : Rows) → HaveCommits (start_of procs m requests before config carries) config.workers (length tables) journals trace.transcripts.items
    pub replayed : AreReplayed (begun_all config.epoch tables) journals copies

  -- of what was taken in hand it is said of what was there
  pub leaves_so : (requests given : List Request) (before in_hand : List ShardState) (tables taken : List CopyState) → given ≡ requests → in_hand ≡ before → taken ≡ tables → Leaves given in_hand taken → Leaves requests before tables
  leaves_so requests given before in_hand tables taken same_requests same_shards same_tables left =
      subst (λ ts. Leaves requests before ts) same_tables (subst (λ ss. Leaves requests ss taken) same_shards (subst (λ rs. Leaves rs in_hand taken) same_requests left))

  module _ (requests : List Request) (before : List ShardState) (tables : List CopyState) (left : Leaves requests before tables) where
    pub worked_so : (m : Rows) → HoldMap m before → HasWorked (beginning_with procs m requests before config) config.epoch after dones pieces (traced trace)
    worked_so m holds = record { serial = left.serial m holds; traced = left.trace_is m holds }

    abbrev start : Rows → Start
    start m = start_of procs m requests before config carries

    module _ (as_many : length tables ≡ length before * config.copies) where
      has_copied : (m : Rows) → HasCopied (start m) tables copies journals (traced trace)
      has_copied m = record { tables = as_many; commits = left.commits m; replayed = left.replayed }

      pub copied_so : (m : Rows) → HaveCopied (start m) tables copies (traced trace)
      copied_so m = (journals, has_copied m)

    module _ (distinct : IsDistinct nat_eq (map (λ (r : Request). r.id) requests)) (m : Rows) (holds : HoldMap m before) (ring : Ring) (on : IsRingOn (length before) config.copies ring) where
      has_run : HasRun (start m) after dones pieces (traced trace)
      has_run = record { distinct = distinct; count = left.count; serial = left.serial m holds; trace_is = left.trace_is m holds }

      fits : IsRingOf (start m) ring
      fits = record { partitions = on.partitions_are; copies = on.copies_are }

      pub shippable_so : OfEachRun PiecesAreShippable → AreShippable ring pieces
      shippable_so law = law (start m) after dones pieces (traced trace) has_run ring fits

      pub begun_so : OfEachRun EarlyRowsAreOfPieces → length tables ≡ length before * config.copies → AreBegun ring config.epoch pieces copies
      begun_so law as_many = law (start m) after dones pieces (traced trace) has_run tables copies journals (has_copied as_many m) ring fits
