-- What is read of an input that is to be a text of procedures.
use Rattle.std.specs.Prelude.{◌≡◌, ⊤, ℕ, ◌<◌, ◌≤◌, List, length, Result, Ok, Err}
use Rattle.coco_types.specs.Limits.{most_procedure_bytes}
use Rattle.coco_lines.specs.Reads.{Gives, IsSpent, SourceMoment}
use Rattle.coco_ending.specs.declared.ending.Ending.{Ending}
use Rattle.coco_ending.specs.declared.ending.Ending.TheVariants as ending
use Rattle.coco_ending.specs.declared.error.TextError.{TextError}
use Rattle.coco_ending.specs.declared.error.TextError.TheVariants.{Long, Lex, Parse, Check}

-- the input was read to its end, unless it is too long
abbrev pub IsReadFor : TextError → SourceMoment → Type 0
IsReadFor Long after = ⊤
IsReadFor (Lex e) after = IsSpent after
IsReadFor (Parse e) after = IsSpent after
IsReadFor (Check e) after = IsSpent after

-- with these bytes given: they are the whole input, or there are too many of them, or reading was broken off
abbrev pub ReadsText : Result (List ℕ) Ending → List ℕ → SourceMoment → Type 0
ReadsText (Ok text) bytes after = (text ≡ bytes) × (length bytes ≤ most_procedure_bytes) × IsSpent after
ReadsText (Err (ending.Refused Long)) bytes after = most_procedure_bytes < length bytes
ReadsText (Err ending.ReadFault) bytes after = ⊤
ReadsText (Err ending.NoMemory) bytes after = ⊤
ReadsText (Err _) bytes after = ⊥

-- the source gave these bytes, and that was made of them
pub record Takes (before after : SourceMoment) (result : Result (List ℕ) Ending) : Type 0 where
  pub bytes : List ℕ
  pub gives : Gives before after bytes
  pub reads : ReadsText result bytes after
