-- What is seen of a host while a store is made in its files.
use Rattle.std.specs.Prelude.{◌≡◌, ℕ, List, [], ◌∷◌, Option, Some}
use Rattle.coco_host.specs.Files.{Files}
use Rattle.coco_host.specs.Moments.{Observation, SeesOnly}
use Rattle.coco_host.specs.declared.host.Host.{Ghosts as HostGhosts}
use Rattle.coco_ast.specs.Tree.{Procedures}
use Rattle.coco_entry.specs.declared.layout.Layout.{Layout}
use Rattle.coco_log.specs.Grammar.{IsLog}
use Rattle.coco_store.specs.Contents.{IsGoodStore}
use Rattle.coco_store.specs.Entries.{layouts_kind}
use Rattle.coco_make.specs.NewStore.{new_contents, AreOnlyNewLogs}

-- a crash leaves no byte in this file
abbrev pub LeavesEmpty : ℕ → (Files → Type 0) → Type 0
LeavesEmpty file may_leave = (image : Files) → may_leave image → image file ≡ []

-- where file 0 is a log of layouts with an entry, the new store stands
abbrev pub IsNewOnceOpen : Layout → Procedures → Files → Type 0
IsNewOnceOpen layout tree files = (body : List ℕ) (bodies : List (List ℕ)) → IsLog layouts_kind (body ∷ bodies) (files 0) → IsGoodStore files (new_contents layout tree)

-- at each moment, and behind the call where the host tells what it said, that is so in all that a crash may leave
pub record ShowsNewOnly {H : Type 0} (frame : HostGhosts H)
    (layout : Layout) (tree : Procedures) (old new : H) : Type 0 where
  pub moments : SeesOnly frame.moment frame.observed old new (λ seen. IsNewOnceOpen layout tree seen.image)
  pub left : (bytes : List ℕ) → frame.said old ≡ Some bytes → (image : Files) → frame.may_leave new image → IsNewOnceOpen layout tree image

-- where no file had a byte, none has one but the logs
abbrev pub LeavesOnlyLogs : Layout → Option Files → Option Files → Type 0
LeavesOnlyLogs layout old new = (before after : Files) → old ≡ Some before → new ≡ Some after → ((n : ℕ) → before n ≡ []) → AreOnlyNewLogs layout after
