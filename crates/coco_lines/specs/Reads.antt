-- What one call of a reader gives, by the bytes that were pending and those that its source gave.
use Rattle.std.specs.Prelude.{◌≡◌, ℕ, ◌+◌, ◌<◌, List, [], ◌∷◌, ◌++◌, length, ◌==◌, Bool, true, false, nat_le, if◌then◌else◌, Option, Some, None, Result, Ok, Err, All, MatchOption, ⊤}
use Rattle.std.specs.List.{AllByRecursion}
use Rattle.std.specs.Io.KnownBytes.{prepend_known, IsAtEnd}
use Rattle.coco_types.specs.Limits.{most_input_bytes}
use Rattle.coco_types.specs.declared.limits.TheConstants.{MOST_LINE_BYTES}
use Rattle.coco_io.specs.Counts.{Rose}
use Rattle.coco_io.specs.Giving.{Gave}
use Rattle.coco_lines.specs.Lines.{Line as Bytes}
use Rattle.coco_lines.specs.ReaderState.{ReaderState}
use Rattle.coco_lines.specs.declared.reader.Body.{Body}
use Rattle.coco_lines.specs.declared.reader.Body.TheVariants.{Long, Whole}
use Rattle.coco_lines.specs.declared.reader.Line.{Line}
use Rattle.coco_lines.specs.declared.error.LineFault.{LineFault}
use Rattle.coco_lines.specs.declared.error.LineFault.TheVariants as fault
use Rattle.coco_io.specs.declared.source.Source.{Ghosts as SourceGhosts}

-- ---- sources

-- what contracts see of a source at one moment: the bytes given so far, those that are left, where it tells them, and whether it is at its end
pub record SourceMoment : Type 0 where
  pub given : List ℕ
  pub left : Option (List ℕ)
  pub at_end : Bool

-- what a source tells of its bytes
abbrev pub source_moment : {S : Type 0} → SourceGhosts S → S → SourceMoment
source_moment sources s = record { given = sources.given s; left = sources.remaining s; at_end = sources.at_end s }

-- between two moments it gave these bytes, the first of those that were left
pub record Gives (before after : SourceMoment) (bytes : List ℕ) : Type 0 where
  pub given : Gave before.given after.given bytes
  pub left : before.left ≡ prepend_known bytes after.left

-- nothing happened between them
abbrev pub IsSameMoment : SourceMoment → SourceMoment → Type 0
IsSameMoment before after = after ≡ before

-- it gave all its bytes, and has said so
pub record IsSpent (s : SourceMoment) : Type 0 where
  pub at_end : s.at_end ≡ true
  pub left : IsAtEnd s.left

-- ---- lines

-- no byte is a line feed
abbrev pub HasNoFeed : List ℕ → Type 0
HasNoFeed bytes = All (λ b. (b == 10) ≡ false) bytes

-- a line's bytes, where there aren't too many of them
abbrev pub body_of : List ℕ → Body
body_of bytes = if nat_le (length bytes) MOST_LINE_BYTES then Whole bytes else Long

-- the bytes are the text's first line, and these are behind it: a line ends before a byte 10, or with the input
pub data IsFirstLine (line text behind : List ℕ) (ended : Bool) : Type 0 where
  Fed : HasNoFeed line → text ≡ line ++ 10 ∷ behind → IsFirstLine line text behind ended
  Last : HasNoFeed line → 0 < length line → text ≡ line → behind ≡ [] → ended ≡ true → IsFirstLine line text behind ended

-- these lines, each with the byte 10 behind it
abbrev pub fed : List Bytes → List ℕ
fed [] = []
fed (l ∷ ls) = l ++ 10 ∷ fed ls

-- the lines are the first of the text, and these bytes are behind them; the last line may have ended with the input
pub data AreFirstLines (lines : List Bytes) (text behind : List ℕ) (ended : Bool) : Type 0 where
  AllFed : AllByRecursion HasNoFeed lines → text ≡ fed lines ++ behind → AreFirstLines lines text behind ended
  LastEnded : (front : List Bytes) (last : Bytes) → AllByRecursion HasNoFeed front → HasNoFeed last → 0 < length last → lines ≡ front ++ last ∷ [] → text ≡ fed front ++ last
      → behind ≡ [] → ended ≡ true → AreFirstLines lines text behind ended

-- with so many lines given before: the first line of the text, or the end of the input; after a fault no whole line was lost
abbrev pub IsNext : ℕ → List ℕ → Result (Option Line) LineFault → List ℕ → Bool → Type 0
IsNext given text (Ok None) behind ended = (text ≡ []) × (behind ≡ []) × (ended ≡ true)
IsNext given text (Ok (Some line)) behind ended = (bytes : Bytes) × IsFirstLine bytes text behind ended × (line ≡ record { number = given + 1; body = body_of bytes })
IsNext given text (Err e) behind ended = (held : List ℕ) × HasNoFeed held × (text ≡ held ++ behind)

-- a call took the bytes that the source gave, and gives the next line of what was pending and these
pub record Reads (old new : ReaderState) (before after : SourceMoment) (result : Result (Option Line) LineFault) : Type 0 where
  pub bytes : List ℕ
  pub gives : Gives before after bytes
  pub taken : new.taken ≡ old.taken + length bytes
  pub none_behind : old.ended ≡ true → (bytes ≡ []) × (new.ended ≡ true)
  pub next : IsNext old.given (old.pending ++ bytes) result new.pending new.ended

-- a line has the next number
abbrev pub Numbers : Option Line → ReaderState → ReaderState → Type 0
Numbers o old new = MatchOption o (new.given ≡ old.given) (λ line. (line.number ≡ old.given + 1) × (new.given ≡ old.given + 1))

-- it has to read: there is no whole line, and the end wasn't met
abbrev pub MustRead : ReaderState → Type 0
MustRead s = HasNoFeed s.pending × (s.ended ≡ false)

-- a read fault or the limit comes only where it has to read, and then all that was taken is of the line begun
abbrev pub Stops : LineFault → ReaderState → ReaderState → Type 0
Stops fault.Failed old new = MustRead old × (new.pending ≡ []) × (new.ended ≡ false) × (new.taken < most_input_bytes)
Stops fault.TooMuch old new = MustRead old × (new.pending ≡ []) × (new.ended ≡ false) × (new.taken ≡ most_input_bytes)
Stops fault.NoMemory old new = ⊤

-- the count of faults rises with a read fault, and stays otherwise
abbrev pub Counts : {T : Type 0} → Result T LineFault → ℕ → ℕ → Type 0
Counts (Ok x) old new = new ≡ old
Counts (Err fault.Failed) old new = Rose old new
Counts (Err fault.TooMuch) old new = new ≡ old
Counts (Err fault.NoMemory) old new = new ≡ old
