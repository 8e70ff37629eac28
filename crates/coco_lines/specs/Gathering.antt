-- How a line is gathered from a buffer and a source; for private clauses.
use Rattle.std.specs.Prelude.{◌≡◌, ℕ, ◌+◌, ◌-◌, ◌<◌, ◌⊎◌, List, [], ◌∷◌, ◌++◌, length, Bool, true, false, if◌then◌else◌, ⊤}
use Rattle.std.specs.Bool.{MatchBool}
use Rattle.coco_types.specs.Limits.{most_input_bytes}
use Rattle.coco_lines.specs.ReaderState.{ReaderState}
use Rattle.coco_lines.specs.Reads.{Gives, HasNoFeed, IsSpent, SourceMoment, body_of}
use Rattle.coco_lines.specs.declared.reader.Body.{Body}
use Rattle.coco_lines.specs.declared.error.LineFault.{LineFault}
use Rattle.coco_lines.specs.declared.error.LineFault.TheVariants as fault

-- the body of a line gets more bytes
abbrev pub Extends : Body → Body → List ℕ → Type 0
Extends body longer piece = (bytes : List ℕ) → body ≡ body_of bytes → longer ≡ body_of (bytes ++ piece)

-- the bytes that are held up to the next byte 10 go to a body; all of them, where there is none
abbrev pub Cuts : List ℕ → List ℕ → Body → Body → Bool → Type 0
Cuts old new body longer fed =
    MatchBool fed ((piece : List ℕ) × (old ≡ piece ++ 10 ∷ new) × HasNoFeed piece × Extends body longer piece) ((new ≡ []) × HasNoFeed old × Extends body longer old)

-- of the bytes that were pending and those that the source gave, the first are the line's, and the rest stand behind them
pub record Gathering (old new : ReaderState) (before after : SourceMoment) (body : Body) (rest : List ℕ) : Type 0 where
  pub gave : List ℕ
  pub line : List ℕ
  pub gives : Gives before after gave
  pub text : old.pending ++ gave ≡ line ++ rest
  pub body_is : body ≡ body_of line
  pub no_feed : HasNoFeed line
  pub taken : new.taken ≡ old.taken + length gave
  pub given : new.given ≡ old.given
  pub none_behind : old.ended ≡ true → (gave ≡ []) × (new.ended ≡ true) × (after ≡ before)
  pub at_end : new.ended ≡ true → (old.ended ≡ true) ⊎ (IsSpent after × (new.taken < most_input_bytes))

-- how often a reader can still read
abbrev pub reads_left : ReaderState → ℕ
reads_left s = if s.ended then 0 else 1 + (most_input_bytes - s.taken)

-- a read fault or the limit comes where nothing is pending and the end wasn't met
abbrev pub Halts : LineFault → ReaderState → Type 0
Halts fault.Failed s = (s.pending ≡ []) × (s.ended ≡ false) × (s.taken < most_input_bytes)
Halts fault.TooMuch s = (s.pending ≡ []) × (s.ended ≡ false) × (s.taken ≡ most_input_bytes)
Halts fault.NoMemory s = ⊤
