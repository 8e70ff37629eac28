-- What is seen of a host while some of its files change, and no others.
use Rattle.std.specs.Prelude.{◌≡◌, ℕ, false, List, Option, Some, ◌==◌}
use Rattle.std.specs.List.{list_any}
use Rattle.coco_host.specs.Files.{Files, Become, Follows}
use Rattle.coco_host.specs.Moments.{Observation, SeesOnly}
use Rattle.coco_host.specs.declared.host.Host.{Ghosts as HostGhosts}

-- all files but those named are as they were
abbrev pub SameBesides : List ℕ → Files → Files → Type 0
SameBesides named old new = (n : ℕ) → list_any (λ file. file == n) named ≡ false → new n ≡ old n

-- seen at a moment: of what a crash might have left before, no file changed but those named, and no more is said
pub record ChangesNamed (named : List ℕ) (may_leave : Files → Type 0) (bytes : Option (List ℕ)) (seen : Observation) : Type 0 where
  pub before : Files
  pub was_left : may_leave before
  pub others : SameBesides named before seen.image
  pub said : bytes ≡ Some seen.said

-- no file changes but those named, in what is read, in what a crash may leave and, where the files are told, at each moment; and nothing is said
pub record ChangesOnly {H : Type 0} (frame : HostGhosts H)
    (named : List ℕ) (old new : H) : Type 0 where
  pub moments : (files : Files) → frame.reads old ≡ Some files → SeesOnly frame.moment frame.observed old new (ChangesNamed named (frame.may_leave old) (frame.said old))
  pub files : Become (SameBesides named) (frame.reads old) (frame.reads new)
  pub crash : Follows (SameBesides named) (frame.may_leave old) (frame.may_leave new)
  pub quiet : frame.said new ≡ frame.said old
