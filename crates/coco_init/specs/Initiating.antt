-- What the making of a store from a text does to a host.
use Rattle.std.specs.Prelude.{◌≡◌, ◌⊎◌, ⊤, ℕ, ◌<◌, List, [], length, Option, Some, Result, Ok, Err, IfSome}
use Rattle.coco_host.specs.Files.{Files}
use Rattle.coco_host.specs.Moments.{Observation}
use Rattle.coco_host.specs.declared.host.Host.{Ghosts as HostGhosts}
use Rattle.coco_ast.specs.Tree.{Procedures}
use Rattle.coco_entry.specs.Layouts.{named_by}
use Rattle.coco_entry.specs.declared.layout.Layout.{Layout}
use Rattle.coco_lines.specs.Reads.{IsSpent, SourceMoment}
use Rattle.coco_log.specs.LogState.{IsOnlyRead}
use Rattle.coco_store.specs.Texts.{IsAcceptedText}
use Rattle.coco_append.specs.Gaining.{RestsOn}
use Rattle.coco_log.specs.Changes.{ChangesOnly}
use Rattle.coco_make.specs.Making.{LeavesEmpty, LeavesOnlyLogs, ShowsNewOnly}
use Rattle.coco_make.specs.NewStore.{new_contents}
use Rattle.coco_ending.specs.declared.ending.Ending.{Ending}
use Rattle.coco_ending.specs.declared.ending.Ending.TheVariants as ending
use Rattle.coco_init.specs.Reading.{IsReadFor}
use Rattle.coco_init.specs.Texts.{IsTextError}

-- the files read as the new store and as nothing more, and so does all that a crash may leave
pub record IsMade (layout : Layout) (tree : Procedures) (before reads : Option Files) (may_leave : Files → Type 0) : Type 0 where
  pub store : (files : Files) → before ≡ Some files → RestsOn (new_contents layout tree) reads may_leave
  pub bytes : LeavesOnlyLogs layout before reads

-- file 0 has no byte, or so many, or its length can't be had
abbrev pub FindsNone : Result (Unit {0}) Ending → Option Files → Type 0
FindsNone (Ok u) reads = IfSome reads (λ files. files 0 ≡ [])
FindsNone (Err (ending.AlreadyThere bytes)) reads = (0 < bytes) × IfSome reads (λ files. bytes ≡ length (files 0))
FindsNone (Err ending.DiskFault) reads = ⊤
FindsNone (Err _) reads = ⊥

module _ {H : Type 0} (frame : HostGhosts H) where
  abbrev pub OnlyReads : H → H → Type 0
  OnlyReads old new = IsOnlyRead frame old new

  -- up to some state of the host it was only read and synced, and there a crash leaves no byte in file 0; from then on no file changes but those of the
  -- new store, and at each moment a crash leaves no layout in file 0, or the whole store
  pub record Makes (layout : Layout) (tree : Procedures) (old new : H) : Type 0 where
    pub mid : H
    pub read : OnlyReads old mid
    pub empty : (files : Files) → frame.reads mid ≡ Some files → LeavesEmpty 0 (frame.may_leave mid)
    pub changes : ChangesOnly frame (named_by layout) mid new
    pub shows : (files : Files) → frame.reads mid ≡ Some files → ShowsNewOnly frame layout tree mid new

  -- the store is made, or a fault came before it is whole
  abbrev pub MakesStore : Result (Unit {0}) Ending → Layout → Procedures → H → H → Type 0
  MakesStore (Ok u) layout tree old new = Makes layout tree old new × IsMade layout tree (frame.reads old) (frame.reads new) (frame.may_leave new)
  MakesStore (Err ending.DiskFault) layout tree old new = OnlyReads old new ⊎ Makes layout tree old new
  MakesStore (Err ending.NoMemory) layout tree old new = OnlyReads old new ⊎ Makes layout tree old new
  MakesStore (Err _) layout tree old new = ⊥

  -- nothing was written, or what was is of the new store
  abbrev pub MayMake : Layout → List ℕ → H → H → Type 0
  MayMake layout text old new = OnlyReads old new ⊎ ((tree : Procedures) × IsAcceptedText text tree × Makes layout tree old new)

  -- by how the call ends, with this text given
  abbrev pub Initiates : Result (Unit {0}) Ending → Layout → List ℕ → SourceMoment → H → H → Type 0
  Initiates (Ok u) layout text after old new = IsSpent after
      × ((tree : Procedures) × IsAcceptedText text tree × Makes layout tree old new × IsMade layout tree (frame.reads old) (frame.reads new) (frame.may_leave new))
  Initiates (Err ending.ReadFault) layout text after old new = OnlyReads old new
  Initiates (Err ending.DiskFault) layout text after old new = MayMake layout text old new
  Initiates (Err ending.NoMemory) layout text after old new = MayMake layout text old new
  Initiates (Err (ending.Refused e)) layout text after old new = IsTextError text e × IsReadFor e after × OnlyReads old new
  Initiates (Err (ending.AlreadyThere bytes)) layout text after old new =
      (0 < bytes) × IfSome (frame.reads old) (λ files. bytes ≡ length (files 0)) × (text ≡ []) × OnlyReads old new
  Initiates (Err _) layout text after old new = ⊥
