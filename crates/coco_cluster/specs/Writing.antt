-- Which files a turn writes.
use Rattle.std.specs.Prelude.{ℕ, List, ◌∷◌, Option}
use Rattle.coco_host.specs.Files.{Files, Become, Follows}
use Rattle.coco_log.specs.Changes.{SameBesides}
use Rattle.coco_store.specs.Contents.{chief_of}
use Rattle.coco_store.specs.Rules.{Setting}

-- the coordinator's and those of the nodes
abbrev pub written_files : Setting → List ℕ
written_files s = chief_of s ∷ s.entry.layout.node_files

-- no file but these is written: each other one reads as before, and a crash leaves it as one might have before
pub record WritesLogs (s : Setting) (was reads : Option Files) (might_leave may_leave : Files → Type 0) : Type 0 where
  pub files : Become (SameBesides (written_files s)) was reads
  pub crash : Follows (SameBesides (written_files s)) might_leave may_leave
