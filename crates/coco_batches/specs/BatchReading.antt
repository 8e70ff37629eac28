-- What reading a batch of lines gives, by the bytes that were pending and those that the source gave.
use Rattle.std.specs.Prelude.{◌≡◌, ⊤, ℕ, ◌+◌, ◌<◌, ◌≤◌, List, [], ◌∷◌, ◌++◌, length, Bool, true, false}
use Rattle.coco_ast.specs.Tree.{Procedures}
use Rattle.coco_kept.specs.Keeping.{Keeping}
use Rattle.coco_lines.specs.Classes.{AreClasses, new_of}
use Rattle.coco_lines.specs.Lines.{Line}
use Rattle.coco_lines.specs.ReaderState.{ReaderState}
use Rattle.coco_lines.specs.Reads.{AreFirstLines, Gives, HasNoFeed, SourceMoment, body_of}
use Rattle.coco_lines.specs.declared.class.Class.{Class}
use Rattle.coco_lines.specs.declared.error.LineFault.{LineFault}
use Rattle.coco_lines.specs.declared.error.LineFault.TheVariants as fault
use Rattle.coco_lines.specs.declared.reader.Line.{Line as Given}
use Rattle.coco_batches.specs.declared.batch.Batch.{Batch}
use Rattle.coco_batches.specs.Answering.{answers_from}
use Rattle.coco_batches.specs.Asking.{known_of}

-- a reader took bytes that its source gave; these lines are the first of what was pending and they
pub record TakesLines (old new : ReaderState) (before after : SourceMoment) (lines : List Line) (behind : List ℕ) : Type 0 where
  pub bytes : List ℕ
  pub gives : Gives before after bytes
  pub taken : new.taken ≡ old.taken + length bytes
  pub none_behind : old.ended ≡ true → (bytes ≡ []) × (new.ended ≡ true)
  pub text : AreFirstLines lines (old.pending ++ bytes) behind new.ended

-- the lines so far are taken in by their classes
pub record Taking (procs : Procedures) (kept : Keeping) (old new : ReaderState) (before after : SourceMoment) (batch : Batch) : Type 0 where
  pub lines : List Line
  pub classes : List Class
  pub takes : TakesLines old new before after lines new.pending
  pub as_many : length lines ≡ length batch.answers.items
  pub are : AreClasses procs (known_of kept []) lines classes
  pub answers : batch.answers.items ≡ answers_from kept.dones (old.given + 1) classes
  pub fresh : batch.fresh ≡ new_of classes

-- at most so many lines; fewer only where the input ends
pub record ReadsBatch (procs : Procedures) (kept : Keeping) (old new : ReaderState) (before after : SourceMoment) (size : ℕ) (batch : Batch) : Type 0 where
  pub taking : Taking procs kept old new before after batch
  pub few : length batch.answers.items ≤ size
  pub ends : length batch.answers.items < size → (new.ended ≡ true) × (new.pending ≡ [])

-- these lines as a reader gives them, numbered from n on
abbrev pub numbered : ℕ → List Line → List Given
numbered n [] = []
numbered n (line ∷ lines) = record { number = n; body = body_of line } ∷ numbered (n + 1) lines

-- the lines so far are given with their numbers
pub record AreGiven (old new : ReaderState) (before after : SourceMoment) (given : List Given) : Type 0 where
  pub lines : List Line
  pub takes : TakesLines old new before after lines new.pending
  pub are : given ≡ numbered (old.given + 1) lines

-- at most so many lines; fewer only where the input ends
pub record ReadsLines (old new : ReaderState) (before after : SourceMoment) (size : ℕ) (given : List Given) : Type 0 where
  pub reading : AreGiven old new before after given
  pub few : length given ≤ size
  pub ends : length given < size → (new.ended ≡ true) × (new.pending ≡ [])

-- at a fault of reading no whole line is left, and there are too few for a batch
abbrev pub IsCutOff : LineFault → ℕ → List Line → List ℕ → Bool → Type 0
IsCutOff fault.Failed size lines rest ended = (length lines < size) × HasNoFeed rest × (ended ≡ false)
IsCutOff fault.TooMuch size lines rest ended = (length lines < size) × HasNoFeed rest × (ended ≡ false)
IsCutOff fault.NoMemory size lines rest ended = ⊤

-- the lines of a batch that breaks off, and what is behind them
pub record BreaksOff (old new : ReaderState) (before after : SourceMoment) (size : ℕ) (e : LineFault) : Type 0 where
  pub lines : List Line
  pub rest : List ℕ
  pub takes : TakesLines old new before after lines rest
  pub cut_off : IsCutOff e size lines rest new.ended
