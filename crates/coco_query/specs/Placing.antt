-- What readers leave before their replies stand in order, and the order.
use Rattle.std.specs.Prelude.{◌≡◌, ℕ, ◌<◌, List, [], ◌∷◌, All, None, length, map, replicate, slice_index_or, slice_set, sum_by}
use Rattle.std.specs.List.{AllByRecursion, flat_map}
use Rattle.coco_types.specs.declared.call.Reply.{Reply}
use Rattle.coco_types.specs.declared.call.Reply.TheVariants.{Ok}
use Rattle.coco_types.specs.declared.call.Request.{Request}
use Rattle.coco_ast.specs.Tree.{Procedures}
use Rattle.coco_claim.specs.Numbers.{times}
use Rattle.coco_journaled.specs.declared.entry.Entry.{Entry}
use Rattle.coco_journaled.specs.Passes.{entries_of}
use Rattle.coco_query.specs.Answers.{IsIn, entered, journal_at}
use Rattle.coco_query.specs.Reading.{gets_at}
use Rattle.coco_query.specs.Readers.{IsServed, Served, had_by, places_of, points_of, reading_of, replied}
use Rattle.coco_query.specs.declared.answering.ReadersEnd.{ReadersEnd}
use Rattle.coco_query.specs.declared.frozen.Frozen.{Frozen}
use Rattle.coco_query.specs.declared.frozen.FrozenAnswer.{FrozenAnswer}
use Rattle.coco_query.specs.declared.frozen.FrozenAsk.{FrozenAsk}
use Rattle.coco_query.specs.declared.readers.Replied.{Replied}
use Rattle.coco_query.specs.declared.readers.Transcript.{Transcript}

-- ---- what readers leave

-- what one reader left: its readings with their replies
pub record HasRun (procs : Procedures) (requests : List Request) (gate : ℕ) (tables : List Frozen) (r : ReadersEnd) (reader : ℕ) (t : Transcript) (kept : List Replied) : Type 0 where
  pub served : List Served
  pub each : AllByRecursion (IsServed procs requests) served
  pub readings : t.readings ≡ map reading_of served
  pub replies : kept ≡ map replied served
  pub values : AllByRecursion (IsIn tables) (had_by t.readings)
  pub entries : (p : ℕ) → p < length tables → map entered (entries_of reader (journal_at r.journals.items p)) ≡ gets_at (length tables) p (had_by t.readings)
  pub passed : t.passed ≡ flat_map (points_of gate reader) t.readings

pub record HaveRun (procs : Procedures) (requests : List Request) (gate readers : ℕ) (tables : List Frozen) (r : ReadersEnd) : Type 0 where
  pub journals : length r.journals.items ≡ length tables
  pub count : length r.transcripts.items ≡ readers
  pub as_many : length r.replies.items ≡ readers
  pub run : (reader : ℕ) (d : Transcript) (none : List Replied) → reader < readers → HasRun procs requests gate tables r reader (slice_index_or r.transcripts.items reader d) (slice_index_or r.replies.items reader none)
  pub once : (place : ℕ) → place < length requests → sum_by (λ (t : Transcript). times place (places_of t.readings)) r.transcripts.items ≡ 1
  pub no_other : (p : ℕ) → p < length tables → All (λ (e : Entry FrozenAsk FrozenAnswer). e.pass < readers) (journal_at r.journals.items p)

-- ---- in order

-- so many replies that nobody has given yet
abbrev pub blanks : ℕ → List Reply
blanks count = replicate count (Ok None)

-- each put at its place, one after another
abbrev pub put_all : List Reply → List Replied → List Reply
put_all replies [] = replies
put_all replies (r ∷ rs) = put_all (slice_set replies r.place r.reply) rs

-- and those of one list after another
abbrev pub put_lists : List Reply → List (List Replied) → List Reply
put_lists replies [] = replies
put_lists replies (rs ∷ lists) = put_lists (put_all replies rs) lists
