-- What answering lines at an epoch makes of the bytes that a source gives, how it ends, and what is seen of the host meanwhile.
use Rattle.std.specs.Prelude.{◌≡◌, ◌⊎◌, ℕ, ◌*◌, ◌<◌, List, ◌++◌, length, take, Option}
use Rattle.std.specs.Io.KnownBytes.{append_known}
use Rattle.coco_types.specs.Limits.{most_batch_lines, most_input_bytes}
use Rattle.coco_ast.specs.Keyed.{Rows}
use Rattle.coco_ast.specs.Tree.{Procedures}
use Rattle.coco_host.specs.Files.{Files, NoMore}
use Rattle.coco_host.specs.Moments.{IsNew, Observation, SeesOnly}
use Rattle.coco_host.specs.declared.host.Host.{Ghosts as HostGhosts}
use Rattle.coco_io.specs.Counts.{Rose}
use Rattle.coco_lines.specs.Lines.{Line, ended_lines_of, lines_of}
use Rattle.coco_lines.specs.Reads.{Gives, IsSpent, SourceMoment}
use Rattle.coco_query.specs.Frozen.{HoldsFrozen}
use Rattle.coco_query.specs.declared.frozen.Frozen.{Frozen}
use Rattle.coco_asks.specs.Asking.{answers_from}
use Rattle.coco_asks.specs.declared.ending.Asked.{Asked}
use Rattle.coco_asks.specs.declared.ending.Asked.TheVariants.{Finished, ReadFault, SayFault, NoMemory}

-- the source of lines, and the counts of its faults and of those of the replies, at one moment
pub record Streams : Type 0 where
  pub source : SourceMoment
  pub source_faults : ℕ
  pub say_faults : ℕ

abbrev pub IsUnread : Streams → Streams → Type 0
IsUnread before after = after.source_faults ≡ before.source_faults

abbrev pub IsUnsaid : Streams → Streams → Type 0
IsUnsaid before after = after.say_faults ≡ before.say_faults

-- why it ended so, by the bytes that the source gave; no other count of faults moved
abbrev pub HasCause : List ℕ → Streams → Streams → Asked → Type 0
HasCause bytes before after Finished = IsSpent after.source × IsUnread before after × IsUnsaid before after
HasCause bytes before after ReadFault = (Rose before.source_faults after.source_faults ⊎ (length bytes ≡ most_input_bytes)) × IsUnsaid before after
HasCause bytes before after SayFault = Rose before.say_faults after.say_faults × IsUnread before after
HasCause bytes before after NoMemory = IsUnread before after × IsUnsaid before after

-- so many lines make whole batches
abbrev pub AreWhole : List Line → Type 0
AreWhole lines = (count : ℕ) × (length lines ≡ count * most_batch_lines)

-- of the lines that each end in a byte 10, these are all that make whole batches
pub record AreAllWhole (bytes : List ℕ) (lines : List Line) : Type 0 where
  pub whole : AreWhole lines
  pub others : List Line
  pub ended : ended_lines_of bytes ≡ lines ++ others
  pub few : length others < most_batch_lines

-- what was said, by the ending: the answers of all lines; after a fault of reading those of all whole batches; else a front of the answers
abbrev pub SaysAnswers : (List Line → List ℕ) → List ℕ → Option (List ℕ) → Option (List ℕ) → Asked → Type 0
SaysAnswers answers bytes before now Finished = now ≡ append_known before (answers (lines_of bytes))
SaysAnswers answers bytes before now ReadFault = (lines : List Line) × AreAllWhole bytes lines × (now ≡ append_known before (answers lines))
SaysAnswers answers bytes before now SayFault = (k : ℕ) × (now ≡ append_known before (take k (answers (lines_of bytes))))
SaysAnswers answers bytes before now NoMemory = (k : ℕ) × (now ≡ append_known before (take k (answers (lines_of bytes))))

-- the bytes that the source gave, why it ended so, and what it said of every map that the tables hold. No file changes, and what is seen is what a crash
-- might have left at entry
pub record Answers {H : Type 0} (frame : HostGhosts H)
    (procs : Procedures) (tables : List Frozen) (epoch : ℕ) (before after : Streams) (how : Asked) (old new : H) : Type 0 where
  pub bytes : List ℕ
  pub gives : Gives before.source after.source bytes
  pub cause : HasCause bytes before after how
  pub says : (m : Rows) → HoldsFrozen m tables → SaysAnswers (answers_from (record { procs = procs; rows = m; epoch = epoch }) 1) bytes (frame.said old) (frame.said new) how
  pub same : frame.reads new ≡ frame.reads old
  pub crash : NoMore (frame.may_leave old) (frame.may_leave new)
  pub sees : SeesOnly frame.moment frame.observed old new (IsNew (frame.may_leave old) (frame.said old) (frame.said new))
