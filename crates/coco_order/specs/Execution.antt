-- What an execution of an epoch's requests is: journals of shards and transcripts of workers that fit together. No order of all its steps is part of it.
use Rattle.std.specs.Prelude.{◌≡◌, ℕ, ◌<◌, ◌≤◌, Bool, true, false, nat_eq, List, [], ◌∷◌, ◌++◌, map, length, slice_index_or, Option, None, Some}
use Rattle.std.specs.List.{filter, AllByRecursion, slice_get}
use Rattle.coco_types.specs.RowKey.{RowKey, partition_of}
use Rattle.coco_types.specs.declared.call.Request.{Request}
use Rattle.coco_types.specs.declared.call.Write.{Write}
use Rattle.coco_ast.specs.Fitting.{Fits}
use Rattle.coco_ast.specs.Keyed.{Rows, value_at}
use Rattle.coco_ast.specs.Tree.{Procedures}
use Rattle.coco_shard.specs.declared.ops.Ask.{Ask}
use Rattle.coco_shard.specs.declared.ops.Answer.{Answer}
use Rattle.coco_shard.specs.Law.{Entry, IsLawful}
use Rattle.coco_journaled.specs.declared.entry.Entry.{Entry as Logged}
use Rattle.coco_occ.specs.Script.{IsScript}
use Rattle.coco_occ.specs.Steps.{at_shard}
use Rattle.coco_occ.specs.declared.script.Step.{Step}
use Rattle.coco_occ.specs.declared.outcome.Outcome.{Outcome}
use Rattle.coco_occ.specs.declared.outcome.Tried.{Tried}
use Rattle.coco_occ.specs.declared.outcome.Outcome.TheVariants.{Committed, Conflict, OverTime}

-- what an epoch begins with: the procedures, the opening map, the requests in input order, and how many partitions, workers and allowed attempts there are
pub record Beginning : Type 0 where
  pub procs : Procedures
  pub opening : Rows
  pub requests : List Request
  pub partitions : ℕ
  pub workers : ℕ
  pub attempts : ℕ

abbrev pub Journal : Type 0
Journal = List (Logged Ask Answer)

-- the attempts of a worker, each at the request of a place
abbrev pub Transcript : Type 0
Transcript = List Tried

-- a journal for each shard, and a transcript for each worker
pub record Execution : Type 0 where
  pub journals : List Journal
  pub transcripts : List Transcript

abbrev pub journal_of : Execution → ℕ → Journal
journal_of x shard = slice_index_or x.journals shard []

abbrev pub transcript_of : Execution → ℕ → Transcript
transcript_of x worker = slice_index_or x.transcripts worker []

-- ---- steps

-- without the pass
abbrev pub logged : Logged Ask Answer → Entry
logged e = record { ask = e.ask; answer = e.answer }

abbrev pub steps_of : Journal → List Entry
steps_of = map logged

-- the steps of the journal in which a key's stand
abbrev pub journal_on : Beginning → Execution → RowKey → List Entry
journal_on b x k = steps_of (journal_of x (partition_of b.partitions k))

abbrev pub of_pass : ℕ → Journal → List Entry
of_pass pass journal = steps_of (filter (λ e. nat_eq e.pass pass) journal)

abbrev pub all_at_shard : ℕ → Transcript → List Entry
all_at_shard shard [] = []
all_at_shard shard (t ∷ ts) = at_shard shard t.script ++ all_at_shard shard ts

-- ---- scripts

-- the script is one of the call at its place
pub record IsTried (b : Beginning) (t : Tried) : Type 0 where
  pub request : Request
  pub writes : List Write
  pub placed : slice_get b.requests t.place ≡ Some request
  pub script : IsScript b.procs request.call t.by b.partitions t.script t.outcome writes

abbrev pub RiseByNumber : Transcript → Type 0
RiseByNumber [] = Unit {0}
RiseByNumber (t ∷ ts) = AllByRecursion (λ u. t.by.number < u.by.number) ts × RiseByNumber ts

-- scripts of one worker, with rising numbers
pub record AreOf (worker : ℕ) (ts : Transcript) : Type 0 where
  pub by_worker : AllByRecursion (λ t. t.by.worker ≡ worker) ts
  pub rising : RiseByNumber ts

-- ---- tries of a request, one after another

abbrev pub is_conflict : Outcome → Bool
is_conflict (Committed time reply) = false
is_conflict (Conflict why) = true
is_conflict OverTime = false

-- those that ended in a conflict, and the last one
pub record Tries : Type 0 where
  pub place : ℕ
  pub conflicts : List Tried
  pub last : Tried

abbrev pub all_tries : Tries → List Tried
all_tries r = r.conflicts ++ r.last ∷ []

-- the last one ended in no conflict, or it is the last that is allowed
pub record AreTries (attempts : ℕ) (r : Tries) : Type 0 where
  pub placed : AllByRecursion (λ t. t.place ≡ r.place) (all_tries r)
  pub conflicts : AllByRecursion (λ t. is_conflict t.outcome ≡ true) r.conflicts
  pub allowed : length (all_tries r) ≤ attempts
  pub used_up : is_conflict r.last.outcome ≡ true → length (all_tries r) ≡ attempts

abbrev pub concat_tries : List Tries → Transcript
concat_tries [] = []
concat_tries (r ∷ rs) = all_tries r ++ concat_tries rs

abbrev pub concat : {X : Type 0} → List (List X) → List X
concat [] = []
concat (xs ∷ xss) = xs ++ concat xss

-- how many of the tries are of this place
abbrev pub how_many_at : ℕ → List Tries → ℕ
how_many_at place rs = length (filter (λ r. nat_eq r.place place) rs)

-- each request has its tries in one transcript, with none of another request between them, and nothing else is tried
pub record AreWorkedOff (b : Beginning) (transcripts : List Transcript) : Type 0 where
  pub tries : List (List Tries)
  pub transcripts_are : transcripts ≡ map concat_tries tries
  pub each : AllByRecursion (AllByRecursion (AreTries b.attempts)) tries
  pub once : (place : ℕ) → place < length b.requests → how_many_at place (concat tries) ≡ 1

-- ---- executions

pub record IsExecution (b : Beginning) (x : Execution) : Type 0 where
  pub some_partitions : 0 < b.partitions
  pub fitting : AllByRecursion (λ r. Fits b.procs r.call) b.requests
  pub shards : length x.journals ≡ b.partitions
  pub workers : length x.transcripts ≡ b.workers
  pub lawful : (shard : ℕ) → shard < b.partitions → IsLawful (value_at b.opening) (steps_of (journal_of x shard))
  pub scripts : (worker : ℕ) → worker < b.workers → AllByRecursion (IsTried b) (transcript_of x worker)
  pub attempts : (worker : ℕ) → worker < b.workers → AreOf worker (transcript_of x worker)
  pub passes : (shard worker : ℕ) → shard < b.partitions → worker < b.workers → of_pass worker (journal_of x shard) ≡ all_at_shard shard (transcript_of x worker)
  pub no_other_pass : (shard : ℕ) → shard < b.partitions → AllByRecursion (λ e. e.pass < b.workers) (journal_of x shard)
  pub worked_off : AreWorkedOff b x.transcripts

-- of every execution
abbrev pub InEachExecution : (Beginning → Execution → Type 0) → Type 0
InEachExecution P = (b : Beginning) (x : Execution) → IsExecution b x → P b x
