-- What holds of every execution.
use Rattle.std.specs.Prelude.{◌≡◌, ℕ, suc, ◌+◌, ◌*◌, ◌<◌, ◌≤◌, List, [], ◌∷◌, ◌++◌, length, map, replicate, nat_eq, Option, Some}
use Rattle.std.specs.List.{IsDistinct, slice_get}
use Rattle.coco_types.specs.RowKey.{RowKey}
use Rattle.coco_types.specs.declared.value.Value.{Value}
use Rattle.coco_types.specs.Limits.{most_time}
use Rattle.coco_types.specs.declared.call.Done.{Done}
use Rattle.coco_types.specs.declared.call.Reply.{Reply}
use Rattle.coco_types.specs.declared.call.Request.{Request}
use Rattle.coco_types.specs.declared.call.Write.{Write}
use Rattle.coco_occ.specs.Exchange.{MayAnswer}
use Rattle.coco_occ.specs.Script.{IsScript}
use Rattle.coco_occ.specs.declared.outcome.Outcome.TheVariants.{Committed, OverTime}
use Rattle.coco_ast.specs.Growth.{IsEpochOf}
use Rattle.coco_ast.specs.History.{RepliesAreRuns, AreTimed, rows_after}
use Rattle.coco_ast.specs.Keyed.{Rows, value_at}
use Rattle.coco_ast.specs.Meaning.{run}
use Rattle.coco_shard.specs.Law.{Entry, IsLawful, law_row, read_time}
use Rattle.coco_shard.specs.RowState.{Holds, ShardState, row_at}
use Rattle.coco_shard.specs.Table.{after_ask, answer_in}
use Rattle.coco_journaled.specs.Replay.{Replays}
use Rattle.coco_order.specs.OneKey.{Among, on, Installs, IsMine}
use Rattle.coco_occ.specs.declared.outcome.Tried.{Tried}
use Rattle.coco_order.specs.Execution.{Beginning, Execution, Journal, IsExecution, InEachExecution, journal_on, concat, journal_of, steps_of}
use Rattle.coco_order.specs.Outcome.{AreCommits, AreOnce, IsOutcome, commit_of, newest_at_end, tail_requests, tail_rows}

-- of the journal of each key, in every execution
abbrev pub OnEachKeyOfEach : ((RowKey → Option Value) → RowKey → List Entry → Type 0) → Type 0
OnEachKeyOfEach P = InEachExecution (λ b x. (k : RowKey) → P (value_at b.opening) k (journal_on b x k))

-- no install and no release in any journal is answered otherwise than as such
abbrev pub StepsAreMine : Beginning → Execution → Type 0
StepsAreMine b x = (shard : ℕ) → shard < b.partitions → (e : Entry) → Among (steps_of (journal_of x shard)) e → IsMine e.ask.op e.answer

-- no two installs of one time are on one key
abbrev pub ApartInTime : RowKey → List Entry → Type 0
ApartInTime k journal = (e d : Entry) (time : ℕ) (v w : Option Value) → Among (on k journal) e → Among (on k journal) d → Installs e time v → Installs d time w → e ≡ d

-- no time is above the number of scripts; where these are no more than the greatest time no script is over time
pub record TimesAreFew (b : Beginning) (x : Execution) : Type 0 where
  pub commits : (t : Tried) (time : ℕ) (reply : Reply) → Among (concat x.transcripts) t → t.outcome ≡ Committed time reply → time ≤ length (concat x.transcripts)
  pub over : (t : Tried) → Among (concat x.transcripts) t → t.outcome ≡ OverTime → most_time < length (concat x.transcripts)

-- no request commits twice
abbrev pub CommitsAreOnce : Beginning → Execution → Type 0
CommitsAreOnce b x = AreOnce (concat x.transcripts)

-- the commits, by time and id, are a serial run from the opening map, and the map that it leaves has the newest values
pub record AreSerial (b : Beginning) (x : Execution) (dones : List Done) : Type 0 where
  pub replies : RepliesAreRuns b.procs b.opening dones
  pub times : AreTimed dones
  pub newest : (k : RowKey) → value_at (rows_after b.procs b.opening dones) k ≡ newest_at_end b x k

abbrev pub CommitsAreSerial : Beginning → Execution → Type 0
CommitsAreSerial b x = (epoch : ℕ) (dones : List Done) → AreCommits b epoch x dones → AreSerial b x dones

-- with the tail the Dones of the epoch are serial, and the map is the newest values with the tail's writes put over them
pub record OutcomeIsSerial (b : Beginning) (dones : List Done) (left : Rows) : Type 0 where
  pub replies : RepliesAreRuns b.procs b.opening dones
  pub times : AreTimed dones
  pub rows : (k : RowKey) → value_at (rows_after b.procs b.opening dones) k ≡ value_at left k

abbrev pub OutcomesAreSerial : Beginning → Execution → Type 0
OutcomesAreSerial b x = (epoch : ℕ) (dones : List Done) → (o : IsOutcome b epoch x dones) → OutcomeIsSerial b dones (tail_rows b.procs o.rows (tail_requests b x))

-- a journaled shard closes with a journal that is lawful from what the shard held at its start, and with the rows that the law says
abbrev pub ClosedIsLawful : Type 0
ClosedIsLawful = (opening : RowKey → Option Value) (root machine : ShardState) (journal : Journal) → Holds opening root → Replays answer_in after_ask root journal machine
    → IsLawful opening (steps_of journal) × ((k : RowKey) → row_at machine k ≡ law_row opening k (steps_of journal))

-- each answer of a lawful journal is one that some row gives to its ask
abbrev pub AnswersFit : Type 0
AnswersFit = (opening : RowKey → Option Value) (journal : List Entry) → IsLawful opening journal → (place : ℕ) (e : Entry) → slice_get journal place ≡ Some e → MayAnswer e.ask e.answer

-- the read time of each key at the journals' ends is at most the number of scripts
abbrev pub ReadsAreFew : Beginning → Execution → Type 0
ReadsAreFew b x = (k : RowKey) → read_time k (journal_on b x k) ≤ length (concat x.transcripts)

-- and these are no more than the allowed attempts at all requests
abbrev pub ScriptsAreFew : Beginning → Execution → Type 0
ScriptsAreFew b x = length (concat x.transcripts) ≤ b.attempts * length b.requests

-- what a script that committed wrote is what its call's run writes on the map that the Dones before its own leave
abbrev pub WritesAreRuns : Beginning → Execution → Type 0
WritesAreRuns b x = (epoch : ℕ) (dones : List Done) → IsOutcome b epoch x dones → IsDistinct nat_eq (map (λ (r : Request). r.id) b.requests)
    → (before behind : List Done) (d : Done) → dones ≡ before ++ d ∷ behind
    → (t : Tried) → Among (concat x.transcripts) t → commit_of b epoch t ≡ Some d
    → (request : Request) (writes : List Write) → slice_get b.requests t.place ≡ Some request → IsScript b.procs request.call t.by b.partitions t.script t.outcome writes
    → writes ≡ (run b.procs d.call (rows_after b.procs b.opening before)).writes

-- what the tail's run of a request wrote, on the map that the requests of the tail in front of it left, is what its
-- call's run writes on the map that the Dones before its own leave
abbrev pub TailWritesAreRuns : Beginning → Execution → Type 0
TailWritesAreRuns b x = (epoch : ℕ) (dones : List Done) → (o : IsOutcome b epoch x dones) → IsDistinct nat_eq (map (λ (r : Request). r.id) b.requests)
    → (before behind : List Done) (d : Done) → dones ≡ before ++ d ∷ behind
    → (first last : List Request) (r : Request) → tail_requests b x ≡ first ++ r ∷ last → d.id ≡ r.id → d.time ≡ suc (o.most + length first)
    → (run b.procs r.call (tail_rows b.procs o.rows first)).writes ≡ (run b.procs d.call (rows_after b.procs b.opening before)).writes

-- the Dones of the epoch are one for each request, in the order of commit
abbrev pub OutcomesAreEpochs : Beginning → Execution → Type 0
OutcomesAreEpochs b x = (epoch : ℕ) (dones : List Done) → IsOutcome b epoch x dones → IsDistinct nat_eq (map (λ (r : Request). r.id) b.requests)
    → IsEpochOf b.requests (record { number = epoch; dones = dones })

-- with so many workers more, who did nothing
abbrev pub wider : Beginning → ℕ → Beginning
wider b idle = record b { workers = b.workers + idle }

abbrev pub with_idle : Execution → ℕ → Execution
with_idle x idle = record x { transcripts = x.transcripts ++ replicate idle [] }

-- The journals and the transcripts of some workers, with empty transcripts of more behind them, are an execution of all
-- these workers, and what is the outcome of the one is that of the other.
pub record IdleWorkersFit (b : Beginning) (x : Execution) : Type 0 where
  pub execution : (idle : ℕ) → IsExecution (wider b idle) (with_idle x idle)
  pub outcome : (idle epoch : ℕ) (dones : List Done) → IsOutcome b epoch x dones → IsOutcome (wider b idle) epoch (with_idle x idle) dones
