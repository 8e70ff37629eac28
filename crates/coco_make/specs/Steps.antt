-- What the steps of the making of a store leave.
use Rattle.std.specs.Prelude.{◌≡◌, ◌⊎◌, ℕ, ◌<◌, List, [], ◌∷◌, ◌++◌, Option, Some, slice_index}
use Rattle.coco_host.specs.Files.{Files, put}
use Rattle.coco_entry.specs.declared.layout.Layout.{Layout}
use Rattle.coco_log.specs.Grammar.{entry, IsLog}
use Rattle.coco_store.specs.Entries.{commits_kind, layouts_kind, prepared_kind}
use Rattle.coco_log.specs.Changes.{SameBesides}
use Rattle.coco_make.specs.NewStore.{AreEmptyLogs, log_bytes}

-- a file's bytes with a log without entries over its first ones
abbrev pub with_log : ℕ → List ℕ → List ℕ
with_log kind file = put 0 (log_bytes kind []) file

-- such logs were made in the first so many of these files, and a crash leaves them so
pub record HaveLogs (kind : ℕ) (named : List ℕ) (count : ℕ) (before : Files) (reads : Option Files) (may_leave : Files → Type 0) : Type 0 where
  pub files : Files
  pub are : reads ≡ Some files
  pub bytes : (k : ℕ) → k < count → files (slice_index named k) ≡ with_log kind (before (slice_index named k))
  pub each : (n : ℕ) → (files n ≡ before n) ⊎ (files n ≡ with_log kind (before n))
  pub others : SameBesides named before files
  pub left : (image : Files) → may_leave image → (k : ℕ) → k < count → IsLog kind [] (image (slice_index named k))

-- the logs of the coordinator and the nodes were made
pub record HaveEmptyLogs (layout : Layout) (before : Files) (reads : Option Files) (may_leave : Files → Type 0) : Type 0 where
  pub files : Files
  pub are : reads ≡ Some files
  pub commits : files layout.chief_file ≡ with_log commits_kind (before layout.chief_file)
  pub prepared : (n : ℕ) → n < layout.nodes → files (slice_index layout.node_files n) ≡ with_log prepared_kind (before (slice_index layout.node_files n))
  pub others : SameBesides (layout.chief_file ∷ layout.node_files) before files
  pub left : (image : Files) → may_leave image → AreEmptyLogs layout image

-- where a file is a log of layouts, it has no entry or just this one
abbrev pub MayHave : List ℕ → List ℕ → Type 0
MayHave body file = (bodies : List (List ℕ)) → IsLog layouts_kind bodies file → (bodies ≡ []) ⊎ (bodies ≡ body ∷ [])

-- the log of layouts was made with this one
pub record HasLayout (body : List ℕ) (before : Files) (reads : Option Files) (may_leave : Files → Type 0) : Type 0 where
  pub files : Files
  pub are : reads ≡ Some files
  pub bytes : files 0 ≡ put 8 (entry body ++ 0 ∷ []) (with_log layouts_kind (before 0))
  pub others : SameBesides (0 ∷ []) before files
  pub left : (image : Files) → may_leave image → IsLog layouts_kind (body ∷ []) (image 0)
