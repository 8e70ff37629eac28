-- An epoch that workers ran, with its tail behind them, from the end of either.
use Rattle.std.proofs.Common.{◌≡◌, ℕ, suc, ◌+◌, ◌*◌, ◌≤◌, ◌%◌, List, [], ◌∷◌, ◌++◌, map, length, Option, None, Some, refl, sym, ap, ◌∙◌, subst, arith, inl, inr}
use Rattle.std.specs.List.{AllByRecursion, cons_option, filter_map, slice_get}
use Rattle.std.specs.List.Sorted.{IsPermutation}
use Rattle.std.proofs.lemmas.List.Elements.{All-from_recursion, recursion_from_All}
use Rattle.std.proofs.lemmas.List.Sorted.{All-permutation}
use Rattle.std.proofs.lemmas.Nat.{mul-le}
use Rattle.std.proofs.lemmas.Option.{same_Some}
use Rattle.coco_types.specs.RowKey.{RowKey}
use Rattle.coco_types.specs.Limits.{most_time}
use Rattle.coco_types.specs.declared.call.Done.{Done}
use Rattle.coco_types.specs.declared.call.Piece.{Piece}
use Rattle.coco_types.specs.declared.call.Reply.{Reply}
use Rattle.coco_types.specs.declared.call.Request.{Request}
use Rattle.coco_ast.proofs.Lists.{all_append}
use Rattle.coco_ast.specs.History.{rows_after}
use Rattle.coco_ast.specs.Keyed.{Rows, put_over, value_at}
use Rattle.coco_ast.specs.Meaning.{run}
use Rattle.coco_ast.specs.Tree.{Procedures}
use Rattle.coco_tail.specs.Pieces.{pieces_of}
use Rattle.coco_tail.specs.Shards.{HaveNewest, HaveStable, KeepStable, row_in, shard_at}
use Rattle.coco_occ.specs.declared.outcome.Outcome.{Outcome}
use Rattle.coco_occ.specs.declared.outcome.Outcome.TheVariants.{Committed, Conflict, OverTime}
use Rattle.coco_occ.specs.declared.outcome.Tried.{Tried}
use Rattle.coco_order.specs.Execution.{Beginning, Execution, InEachExecution, IsExecution, Journal, concat}
use Rattle.coco_order.specs.Laws.{ClosedIsLawful, CommitsAreOnce, CommitsAreSerial, OnEachKeyOfEach, OutcomesAreEpochs, OutcomesAreSerial, ReadsAreFew, ScriptsAreFew, TimesAreFew}
use Rattle.coco_order.specs.OneKey.{Among, MarksAreOwn}
use Rattle.coco_order.specs.Outcome.{IsOutcome, commit_of, commits, done_of, newest_at_end, tail_dones, tail_requests}
use Rattle.coco_shard.specs.RowState.{RowState, ShardState, stable_at}
use Rattle.coco_worker.specs.declared.slot.Slot.{Slot}
use Rattle.coco_parallel.specs.Ending.{HasEnded, Start, beginning_of, execution_of}
use Rattle.coco_parallel.specs.Ends.{EndsAreSerial, HasTail, IsEnd, IsSmall, MayBeginTail, TailMayBegin}
use Rattle.coco_parallel.specs.Epochs.{IsWorkedEpoch}
use Rattle.coco_parallel.specs.Laws.{AreAllDones, AtEachEnd, IsStart}
use Rattle.coco_parallel.specs.PieceOrder.{PiecesAreOfDones}
use Rattle.coco_parallel.proofs.EndLemmas.{are_an_execution, shards_have_rows}
use Rattle.coco_parallel.proofs.OutcomeLemmas.{kept, dones_are_its_outcome, unmarked}
use Rattle.coco_parallel.proofs.TailLemmas.{few_left_over}

-- ---- times

module _ (b : Beginning) (epoch : ℕ) (most : ℕ) where
  abbrev Early : Done → Type 0
  Early d = d.time ≤ most

  -- the times of commits are those of their scripts
  early_commits : (ts : List Tried) → ((t : Tried) (time : ℕ) (reply : Reply) → Among ts t → t.outcome ≡ Committed time reply → time ≤ most) → AllByRecursion Early (filter_map (commit_of b epoch) ts)
  early_commits [] few = tt
  early_commits (t ∷ ts) few =
      with_one (commit_of b epoch t) (λ d is. one (slice_get b.requests t.place) t.outcome d refl is) (early_commits ts (λ u time reply among is. few u time reply (inr among) is))
    where
      one : (o : Option Request) (outcome : Outcome) (d : Done) → t.outcome ≡ outcome → done_of epoch o outcome ≡ Some d → Early d
      one None outcome d at is = absurd cc
      one (Some r) (Committed time reply) d at is = subst Early (same_Some _ d is) (few t time reply (inl refl) at)
      one (Some r) (Conflict why) d at is = absurd cc
      one (Some r) OverTime d at is = absurd cc

      with_one : (o : Option Done) → ((d : Done) → o ≡ Some d → Early d) → AllByRecursion Early (filter_map (commit_of b epoch) ts) → AllByRecursion Early (cons_option o (filter_map (commit_of b epoch) ts))
      with_one None early rest = rest
      with_one (Some d) early rest = (early d refl, rest)

early_tail : (ps : Procedures) (epoch : ℕ) (rows : Rows) (after most : ℕ) (rs : List Request) → after + length rs ≤ most → AllByRecursion (λ (d : Done). d.time ≤ most) (tail_dones ps epoch rows after rs)
early_tail ps epoch rows after most [] le = tt
early_tail ps epoch rows after most (r ∷ rs) le =
    (omega (arith, le), early_tail ps epoch (put_over rows (run ps r.call rows).writes) (suc after) most rs (omega (arith, le)))

all_moved : {X : Type 0} (P : X → Type 0) (xs ys : List X) → IsPermutation xs ys → AllByRecursion P xs → AllByRecursion P ys
all_moved P xs ys same all = recursion_from_All P ys (All-permutation P xs ys same (All-from_recursion P xs all))

-- ---- the end of the workers

module _ (law : ClosedIsLawful) (own : OnEachKeyOfEach (λ opening k journal. MarksAreOwn k journal)) (once : InEachExecution CommitsAreOnce) (reads : InEachExecution ReadsAreFew) (scripts : InEachExecution ScriptsAreFew) (s : Start) (slots : List Slot) (journals : List Journal)
    (machines : List ShardState) (start : IsStart s) (ended : HasEnded s slots journals machines) (small : IsSmall s) where
  abbrev b : Beginning
  b = beginning_of s

  abbrev x : Execution
  x = execution_of slots journals

  is : IsExecution b x
  is = are_an_execution law s slots journals machines start ended

  few_scripts : length (concat x.transcripts) ≤ 261120
  few_scripts =
      let most = scripts b x is in
      let attempts = small.attempts in
      let few = small.few in
      let times : s.config.attempts * length s.requests ≤ 255 * 1024 = mul-le s.config.attempts (length s.requests) 255 1024 (omega (arith, attempts)) few in
      omega (arith, most, times)

  few_reads : (k : RowKey) → (row_in machines k).rts ≤ 261120
  few_reads k = subst (λ (row : RowState). row.rts ≤ 261120) (sym (shards_have_rows law s slots journals machines start ended k)) (let le = reads b x is k in omega (arith, le, few_scripts))

  may_begin : MayBeginTail s.shards machines x.transcripts
  may_begin = record {
    kept = kept law s slots journals machines start ended;
    quiet = record { unmarked = unmarked law s slots journals machines start ended own; until = λ k. (let le = few_reads k in omega (arith, le)) };
    once = once b x is;
  }

  module _ (serial : InEachExecution CommitsAreSerial) (times : InEachExecution TimesAreFew) (outcomes : InEachExecution OutcomesAreSerial) (epochs : InEachExecution OutcomesAreEpochs) (after : List ShardState) (dones : List Done) (left : KeepStable machines after)
      (parts : List Piece) (end : IsEnd b s.config.epoch x (map (λ (slot : Slot). slot.pieces) slots) machines after dones parts) (pieces_law : AtEachEnd PiecesAreOfDones) where
    -- a map that has the newest values at the journals' ends is that of the shards
    held : (rows : Rows) → ((k : RowKey) → value_at rows k ≡ newest_at_end b x k) → HaveNewest rows machines
    held rows newest k = ap (λ (row : RowState). row.newest) (shards_have_rows law s slots journals machines start ended k) ∙ sym (newest k)

    tail_at : HasTail b s.config.epoch x end.commits end.most (map (λ (slot : Slot). slot.pieces) slots) (rows_after s.procs s.opening end.commits) after dones parts
    tail_at = end.tail (rows_after s.procs s.opening end.commits) (held (rows_after s.procs s.opening end.commits) (serial b x is s.config.epoch end.commits end.commits_are).newest)

    abbrev all_dones : AreAllDones s slots journals machines dones
    all_dones = record { commits = end.commits; most = end.most; commits_are = end.commits_are; greatest = end.greatest; same = tail_at.same; order = end.order }

    outcome : IsOutcome b s.config.epoch x dones
    outcome = dones_are_its_outcome law serial s slots journals machines start ended dones all_dones

    pieces : parts ≡ pieces_of s.procs (length after) s.requests s.opening dones
    pieces = pieces_law s slots journals machines start ended dones all_dones small.distinct parts tail_at.pieces end.pieces_order
        ∙ ap (λ (n : ℕ). pieces_of s.procs n s.requests s.opening dones) (sym (left.count ∙ ended.machines_are))

    early : AllByRecursion (λ (d : Done). d.time ≤ most_time) dones
    early =
        let tail : List Request = tail_requests b x in
        let rows : Rows = rows_after s.procs s.opening end.commits in
        let count : length tail ≤ length s.requests = few_left_over x 0 s.requests in
        let few = small.few in
        let reads_few = few_reads end.greatest.at in
        let attained = end.greatest.attained in
        let by_scripts : AllByRecursion (λ (d : Done). d.time ≤ most_time) (commits b s.config.epoch x) =
        early_commits b s.config.epoch most_time (concat x.transcripts) (λ t time reply among at. (let le = (times b x is).commits t time reply among at in omega (arith, le, few_scripts))) in
        all_moved (λ (d : Done). d.time ≤ most_time) (end.commits ++ tail_dones s.procs s.config.epoch rows end.most tail) dones tail_at.same
        (all_append (λ (d : Done). d.time ≤ most_time) end.commits (tail_dones s.procs s.config.epoch rows end.most tail)
        (all_moved (λ (d : Done). d.time ≤ most_time) (commits b s.config.epoch x) end.commits end.commits_are.same by_scripts)
        (early_tail s.procs s.config.epoch rows end.most most_time tail (omega (arith, count, few, reads_few, attained))))

    newest : HaveNewest (rows_after s.procs s.opening dones) after
    newest k = (end.tail outcome.rows (held outcome.rows outcome.newest)).newest k ∙ sym ((outcomes b x is s.config.epoch dones outcome).rows k)

    stable : HaveStable s.opening after
    stable k =
        ap (λ (n : ℕ). stable_at (shard_at after (k.row % n)) k) left.count
        ∙ left.stable (k.row % length machines) k
        ∙ ap (λ (n : ℕ). stable_at (shard_at machines (k.row % n)) k) ended.machines_are
        ∙ (kept law s slots journals machines start ended).stable (k.row % length s.shards) k
        ∙ start.holds.values k

    worked_epoch : IsWorkedEpoch b s.config.epoch journals x.transcripts after dones parts
    worked_epoch = record {
      execution = is;
      outcome = outcome;
      serial = record {
        each = epochs b x is s.config.epoch dones outcome small.distinct;
        early = early;
        replies = (outcomes b x is s.config.epoch dones outcome).replies;
        times = (outcomes b x is s.config.epoch dones outcome).times;
        pieces = pieces;
        partitions = left.partitions;
        newest = newest;
        stable = stable;
      };
    }

pub tail_may_begin : ClosedIsLawful → OnEachKeyOfEach (λ opening k journal. MarksAreOwn k journal) → InEachExecution CommitsAreOnce → InEachExecution ReadsAreFew → InEachExecution ScriptsAreFew → AtEachEnd TailMayBegin
tail_may_begin law own once reads scripts s slots journals machines start ended small = may_begin law own once reads scripts s slots journals machines start ended small

pub ends_are_serial : ClosedIsLawful → OnEachKeyOfEach (λ opening k journal. MarksAreOwn k journal) → InEachExecution CommitsAreOnce → InEachExecution ReadsAreFew → InEachExecution ScriptsAreFew → InEachExecution CommitsAreSerial → InEachExecution TimesAreFew
    → InEachExecution OutcomesAreSerial → InEachExecution OutcomesAreEpochs → AtEachEnd PiecesAreOfDones → AtEachEnd EndsAreSerial
ends_are_serial law own once reads scripts serial times outcomes epochs pieces s slots journals machines start ended small after dones parts left end =
    worked_epoch law own once reads scripts s slots journals machines start ended small serial times outcomes epochs after dones left parts end pieces
