-- The shards at the end of an epoch are ready for its tail, and its Dones are the outcome of the execution.
use Rattle.std.proofs.Common.{◌≡◌, ◌⊎◌, inl, inr, ℕ, ◌<◌, ◌≤◌, List, [], ◌∷◌, ◌++◌, length, None, sym, ap, ◌∙◌, subst, arith}
use Rattle.std.specs.Option.{unwrap_or}
use Rattle.std.specs.FinMap.{empty}
use Rattle.std.specs.List.{AllByRecursion}
use Rattle.std.proofs.lemmas.List.Sorted.{IsPermutation-append_left, IsPermutation-trans}
use Rattle.std.proofs.lemmas.Option.{slice_get_past}
use Rattle.coco_types.specs.RowKey.{RowKey}
use Rattle.coco_types.specs.declared.call.Done.{Done}
use Rattle.coco_ast.specs.History.{rows_after}
use Rattle.coco_ast.specs.Keyed.{Rows}
use Rattle.coco_tail.specs.Shards.{KeepStable, row_in, shard_at}
use Rattle.coco_journaled.specs.Replay.{after}
use Rattle.coco_order.specs.Execution.{Execution, InEachExecution, IsExecution, Journal, journal_of, steps_of}
use Rattle.coco_order.specs.Laws.{ClosedIsLawful, CommitsAreSerial, OnEachKeyOfEach}
use Rattle.coco_order.specs.OneKey.{MarksAreOwn}
use Rattle.coco_order.specs.Outcome.{AreCommits, IsOutcome, commits, tail_dones, tail_requests}
use Rattle.coco_shard.proofs.Partitions.{asked_of, none_of}
use Rattle.coco_shard.specs.RowState.{IsOfPartition, RowState, ShardState, stable_at}
use Rattle.coco_shard.specs.Table.{after_ask}
use Rattle.coco_worker.specs.declared.slot.Slot.{Slot}
use Rattle.coco_parallel.specs.Ending.{HasEnded, Start, beginning_of, execution_of}
use Rattle.coco_parallel.specs.Laws.{AreAllDones, AreReady, AtEachEnd, DonesAreItsOutcome, IsStart, TailMayRun}
use Rattle.coco_parallel.proofs.EndLemmas.{are_an_execution, closed_rows, on_shard, shards_have_rows}
use Rattle.coco_parallel.proofs.LockLemmas.{IsOn}

-- ---- partitions

-- asks on keys of a partition leave a shard of it
still_of : (count p : ℕ) (s : ShardState) (journal : Journal) → IsOfPartition count p s → AllByRecursion (IsOn count p) (steps_of journal) → IsOfPartition count p (after after_ask s journal)
still_of count p s [] of on = of
still_of count p s (e ∷ es) of on = still_of count p (after_ask s e.ask) es (asked_of count p s e.ask on.0 of) on.1

pub past_end : (shards : List ShardState) (p : ℕ) → length shards ≤ p → shard_at shards p ≡ empty
past_end shards p le = ap (λ o. unwrap_or o empty) (slice_get_past shards p le)

pub within_or_past : (p n : ℕ) → (p < n) ⊎ (n ≤ p)
within_or_past p n = grind arith

module _ (law : ClosedIsLawful) (s : Start) (slots : List Slot) (journals : List Journal) (machines : List ShardState) (start : IsStart s) (ended : HasEnded s slots journals machines) where
  abbrev x : Execution
  x = execution_of slots journals

  partition_at : (p : ℕ) → (p < length s.shards) ⊎ (length s.shards ≤ p) → IsOfPartition (length s.shards) p (shard_at machines p)
  partition_at p (inl within) = subst (IsOfPartition (length s.shards) p) (sym (ended.closed p within).replays.machine_is)
      (still_of (length s.shards) p (shard_at s.shards p) (journal_of x p) (start.holds.partitions p) (on_shard law s slots journals machines start ended p within))
  partition_at p (inr past) = subst (IsOfPartition (length s.shards) p) (sym (past_end machines p (let n : length machines ≡ length s.shards = ended.machines_are in omega arith))) (none_of (length s.shards) p)

  stable_as : (p : ℕ) (k : RowKey) → (p < length s.shards) ⊎ (length s.shards ≤ p) → stable_at (shard_at machines p) k ≡ stable_at (shard_at s.shards p) k
  stable_as p k (inl within) = ap (λ (row : RowState). row.stable) ((closed_rows law s slots journals machines start ended p within).1 k)
  stable_as p k (inr past) =
      ap (λ (m : ShardState). stable_at m k) (past_end machines p (let n : length machines ≡ length s.shards = ended.machines_are in omega arith)) ∙ sym (ap (λ (m : ShardState). stable_at m k) (past_end s.shards p past))

  pub kept : KeepStable s.shards machines
  kept = record {
    count = ended.machines_are;
    stable = λ p k. stable_as p k (within_or_past p (length s.shards));
    partitions = λ p. subst (λ n. IsOfPartition n p (shard_at machines p)) (sym ended.machines_are) (partition_at p (within_or_past p (length s.shards)));
  }

  pub unmarked : OnEachKeyOfEach (λ opening k journal. MarksAreOwn k journal) → (k : RowKey) → (row_in machines k).mark ≡ None
  unmarked own k = ap (λ (row : RowState). row.mark) (shards_have_rows law s slots journals machines start ended k) ∙ (own (beginning_of s) x (are_an_execution law s slots journals machines start ended) k).none_stands

  ready : OnEachKeyOfEach (λ opening k journal. MarksAreOwn k journal) → InEachExecution CommitsAreSerial → (dones : List Done) → AreCommits (beginning_of s) s.config.epoch x dones → AreReady s.shards machines (rows_after s.procs s.opening dones)
  ready own serial dones are =
      let is : IsExecution (beginning_of s) x = are_an_execution law s slots journals machines start ended in
      let rows = shards_have_rows law s slots journals machines start ended in
      record {
        partitions = kept.partitions;
        newest = λ k. ap (λ (row : RowState). row.newest) (rows k) ∙ sym ((serial (beginning_of s) x is s.config.epoch dones are).newest k);
        stable = kept;
        unmarked = unmarked own;
      }

  abbrev pub outcome : InEachExecution CommitsAreSerial → (dones : List Done) → AreAllDones s slots journals machines dones → IsOutcome (beginning_of s) s.config.epoch x dones
  outcome serial dones all =
      let is : IsExecution (beginning_of s) x = are_an_execution law s slots journals machines start ended in
      let rows = shards_have_rows law s slots journals machines start ended in
      let left : Rows = rows_after s.procs s.opening all.commits in
      let tail : List Done = tail_dones s.procs s.config.epoch left all.most (tail_requests (beginning_of s) x) in
      record {
        rows = left;
        most = all.most;
        newest = (serial (beginning_of s) x is s.config.epoch all.commits all.commits_are).newest;
        greatest = record {
          bounds = λ k. subst (λ (row : RowState). row.rts ≤ all.most) (rows k) (all.greatest.bounds k);
          at = all.greatest.at;
          attained = ap (λ (row : RowState). row.rts) (sym (rows all.greatest.at)) ∙ all.greatest.attained;
        };
        same = IsPermutation-trans (commits (beginning_of s) s.config.epoch x ++ tail) (all.commits ++ tail) dones (IsPermutation-append_left tail (commits (beginning_of s) s.config.epoch x) all.commits all.commits_are.same) all.same;
        order = all.order;
      }

pub tail_may_run : ClosedIsLawful → OnEachKeyOfEach (λ opening k journal. MarksAreOwn k journal) → InEachExecution CommitsAreSerial → AtEachEnd TailMayRun
tail_may_run law own serial s slots journals machines start ended = ready law s slots journals machines start ended own serial

pub dones_are_its_outcome : ClosedIsLawful → InEachExecution CommitsAreSerial → AtEachEnd DonesAreItsOutcome
dones_are_its_outcome law serial s slots journals machines start ended = outcome law s slots journals machines start ended serial
