-- What readers of tables come to.
use Rattle.std.specs.Prelude.{◌≡◌, ℕ, ◌<◌, List, [], All, Some, length, map, slice_index_or, sum_by}
use Rattle.std.specs.List.{AllByRecursion, flat_map, slice_get}
use Rattle.coco_types.specs.RowKey.{partition_of}
use Rattle.coco_types.specs.declared.call.Reply.{Reply}
use Rattle.coco_types.specs.declared.call.Request.{Request}
use Rattle.coco_ast.specs.Keyed.{Rows}
use Rattle.coco_ast.specs.Meaning.{run}
use Rattle.coco_ast.specs.Tree.{Procedures}
use Rattle.coco_claim.specs.Numbers.{times}
use Rattle.coco_eval.specs.declared.machine.Given.{Given}
use Rattle.coco_journaled.specs.declared.entry.Entry.{Entry}
use Rattle.coco_journaled.specs.Passes.{entries_of}
use Rattle.coco_query.specs.Frozen.{HoldsFrozen, had, table_at}
use Rattle.coco_query.specs.Reading.{gets_at, given_in}
use Rattle.coco_query.specs.Readers.{IsReading, had_by, places_of, points_of}
use Rattle.coco_query.specs.declared.answering.Answered.{Answered}
use Rattle.coco_query.specs.declared.frozen.Frozen.{Frozen}
use Rattle.coco_query.specs.declared.frozen.FrozenAnswer.{FrozenAnswer}
use Rattle.coco_query.specs.declared.frozen.FrozenAsk.{FrozenAsk}
use Rattle.coco_query.specs.declared.readers.Reading.{Reading}
use Rattle.coco_query.specs.declared.readers.Transcript.{Transcript}

-- the journal of a table
abbrev pub FrozenJournal : Type 0
FrozenJournal = List (Entry FrozenAsk FrozenAnswer)

abbrev pub journal_at : List FrozenJournal → ℕ → FrozenJournal
journal_at journals p = slice_index_or journals p []

-- what an entry says was asked for and got
abbrev pub entered : Entry FrozenAsk FrozenAnswer → Given
entered e = given_in e.ask e.answer

-- the value is the one that the key has in its table
abbrev pub IsIn : List Frozen → Given → Type 0
IsIn tables g = g.value ≡ had (table_at tables (partition_of (length tables) g.key)) g.key

-- the reply that stands at the reading's place is the one of its call
abbrev pub IsReplied : Procedures → List Request → List Reply → Reading → Type 0
IsReplied procs requests replies r = (reply : Reply) × (slice_get replies r.place ≡ Some reply) × IsReading procs requests r reply

-- what one reader says that it did, by its number: each table's journal has just what it read there, in order, with the
-- values that the table has; these values alone make the replies; and it passed the gate before each request and behind it
pub record IsTold (procs : Procedures) (requests : List Request) (gate : ℕ) (tables : List Frozen) (a : Answered) (reader : ℕ) (t : Transcript) : Type 0 where
  pub replied : AllByRecursion (IsReplied procs requests a.replies.items) t.readings
  pub values : AllByRecursion (IsIn tables) (had_by t.readings)
  pub entries : (p : ℕ) → p < length tables → map entered (entries_of reader (journal_at a.journals.items p)) ≡ gets_at (length tables) p (had_by t.readings)
  pub passed : t.passed ≡ flat_map (points_of gate reader) t.readings

-- So many readers have read for each request once, the journals have no other entries, and the tables are as they were.
pub record HaveRead (procs : Procedures) (requests : List Request) (gate readers : ℕ) (tables : List Frozen) (a : Answered) : Type 0 where
  pub back : a.tables.items ≡ tables
  pub journals : length a.journals.items ≡ length tables
  pub replies : length a.replies.items ≡ length requests
  pub count : length a.transcripts.items ≡ readers
  pub told : (reader : ℕ) (d : Transcript) → reader < readers → IsTold procs requests gate tables a reader (slice_index_or a.transcripts.items reader d)
  pub once : (place : ℕ) → place < length requests → sum_by (λ (t : Transcript). times place (places_of t.readings)) a.transcripts.items ≡ 1
  pub no_other : (p : ℕ) → p < length tables → All (λ (e : Entry FrozenAsk FrozenAnswer). e.pass < readers) (journal_at a.journals.items p)

-- where the tables hold a map, the replies are those of the calls' runs on it
abbrev pub RepliesAreRuns : Type 0
RepliesAreRuns = (procs : Procedures) (requests : List Request) (gate readers : ℕ) (tables : List Frozen) (a : Answered) (m : Rows) → 0 < length tables
    → HaveRead procs requests gate readers tables a → HoldsFrozen m tables → a.replies.items ≡ map (λ (q : Request). (run procs q.call m).reply) requests
