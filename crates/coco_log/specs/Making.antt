-- What is seen while bytes are written into a file, and while a log is made there.
use Rattle.std.specs.Prelude.{◌≡◌, ℕ, List, Option, Some}
use Rattle.coco_host.specs.Files.{Files, TornIn}
use Rattle.coco_host.specs.Moments.{Observation}

-- seen while so many bytes are written into a file and synced: of what a crash might have left before, those alone are torn, and nothing more is said
pub record TearsOne (file at count : ℕ) (may_leave : Files → Type 0) (bytes : Option (List ℕ)) (seen : Observation) : Type 0 where
  pub before : Files
  pub was_left : may_leave before
  pub torn : TornIn file at count before seen.image
  pub said : bytes ≡ Some seen.said

-- how many bytes the header and a closed gate are
abbrev pub made_count : ℕ
made_count = 9

-- seen while a log is made in a file: its first bytes are written
abbrev pub MakesLog : ℕ → (Files → Type 0) → Option (List ℕ) → Observation → Type 0
MakesLog file may_leave bytes = TearsOne file 0 made_count may_leave bytes
