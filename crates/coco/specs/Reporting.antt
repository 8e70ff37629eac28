-- What is left of an ending: the status, and its line on the error stream.
use Rattle.std.specs.Prelude.{◌≡◌, ℕ, List, Option, OnOk, OnErr, take}
use Rattle.std.specs.Io.KnownBytes.{append_known}
use Rattle.coco_ending.specs.Endings.{line_of, status_of}
use Rattle.coco_ending.specs.declared.ending.Ending.{Ending}
use Rattle.coco_io.specs.Counts.{CountsWrite}
use Rattle.coco.specs.declared.top.Reported.{Reported}

-- the status is the ending's, and its line was added to what the error stream holds: the whole line, unless the stream's count
-- of faults rose or memory ran out; then its front
pub record IsReported (how : Ending) (reported : Reported) (before after : Option (List ℕ)) (old new : ℕ) : Type 0 where
  pub status : reported.status ≡ status_of how
  pub whole : OnOk reported.line (after ≡ append_known before (line_of how))
  pub front : OnErr reported.line ((count : ℕ) × (after ≡ append_known before (take count (line_of how))))
  pub counts : CountsWrite reported.line old new
