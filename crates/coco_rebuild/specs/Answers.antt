-- What a call that makes a node's file again answers, and what is seen of its host.
use Rattle.std.specs.Prelude.{◌≡◌, ◌⊎◌, ℕ, ◌<◌, ◌≤◌, List, Option, Some, Result, Ok, Err, IsErr}
use Rattle.coco_host.specs.Files.{Become, Files, Follows}
use Rattle.coco_host.specs.Moments.{Observation}
use Rattle.coco_host.specs.declared.host.Host.{Ghosts as HostGhosts}
use Rattle.coco_io.specs.Counts.{Rose}
use Rattle.coco_append.specs.Gaining.{GainsAs}
use Rattle.coco_entry.specs.declared.layout.Layout.{Layout}
use Rattle.coco_log.specs.Changes.{SameBesides}
use Rattle.coco_log.specs.LogState.{IsOnlyRead}
use Rattle.coco_log.specs.declared.fault.LogFault.{LogFault}
use Rattle.coco_log.specs.declared.fault.LogFault.TheVariants as log
use Rattle.coco_read.specs.declared.fault.OpenFault.{OpenFault}
use Rattle.coco_read.specs.declared.fault.OpenFault.TheVariants as opening
use Rattle.coco_recover.specs.Without.{HoldsBut, IsGoodBut}
use Rattle.coco_store.specs.Contents.{Contents}
use Rattle.coco_store.specs.Refusals.{IsFirst}
use Rattle.coco_rebuild.specs.Rebuilding.{HasRebuilt, IsHeldAlone, rebuild_files}
use Rattle.coco_rebuild.specs.declared.fault.RebuildFault.{RebuildFault}
use Rattle.coco_rebuild.specs.declared.fault.RebuildFault.TheVariants as fault

-- ---- faults

-- files that weren't opened as a store are none for this call either
abbrev pub rebuild_fault_of : OpenFault → RebuildFault
rebuild_fault_of opening.Disk = fault.Disk
rebuild_fault_of (opening.NotAStore file at) = fault.NotAStore file at
rebuild_fault_of opening.NoMemory = fault.NoMemory

-- what a call that writes a log answers, for the store; such a call refuses no file
abbrev pub answer_to : Result (Unit {0}) LogFault → Result (Unit {0}) OpenFault
answer_to (Ok u) = Ok u
answer_to (Err log.Disk) = Err opening.Disk
answer_to (Err log.NoMemory) = Err opening.NoMemory
answer_to (Err (log.NotALog at)) = Err opening.Disk
answer_to (Err log.TooLong) = Err opening.Disk

-- the disk failed where the host's count of faults rose, and nowhere else
abbrev pub CountsRebuild : {T : Type 0} → Result T RebuildFault → ℕ → ℕ → Type 0
CountsRebuild (Ok x) old new = new ≡ old
CountsRebuild (Err fault.Disk) old new = Rose old new
CountsRebuild (Err (fault.NotAStore file at)) old new = new ≡ old
CountsRebuild (Err (fault.NoNode nodes)) old new = new ≡ old
CountsRebuild (Err (fault.NoHolder partition)) old new = new ≡ old
CountsRebuild (Err fault.NoMemory) old new = new ≡ old

-- ---- answers

-- where the node's file is made again, and where there is no such node or holder, the files were found to hold a store but for it
abbrev pub NeedsStore : Result (Unit {0}) RebuildFault → Type 0 → Type 0
NeedsStore (Ok u) Store = Store
NeedsStore (Err (fault.NoNode nodes)) Store = Store
NeedsStore (Err (fault.NoHolder p)) Store = Store
NeedsStore (Err (fault.NotAStore file at)) Store = Unit {0}
NeedsStore (Err fault.Disk) Store = Unit {0}
NeedsStore (Err fault.NoMemory) Store = Unit {0}

-- such a node or holder isn't missing to a call that has begun to write
abbrev pub MayWrite : Result (Unit {0}) RebuildFault → Type 0
MayWrite (Ok u) = Unit {0}
MayWrite (Err (fault.NoNode nodes)) = ⊥
MayWrite (Err (fault.NoHolder p)) = ⊥
MayWrite (Err (fault.NotAStore file at)) = Unit {0}
MayWrite (Err fault.Disk) = Unit {0}
MayWrite (Err fault.NoMemory) = Unit {0}

-- of a store of this layout the node's file can be made again: it is one of its nodes, and of each of its partitions there is another holder
pub record MayMake (node : ℕ) (layout : Layout) : Type 0 where
  pub there : node < layout.nodes
  pub held : (p : ℕ) → ¬ (IsHeldAlone layout node p)

-- of files that hold a store of this layout but for the node's: such a node and each holder that is wanted are there, or there is no such node, or the
-- least partition is told that it holds alone, or the disk or memory failed; the files aren't refused
abbrev pub AnswersFor : ℕ → Layout → Result (Unit {0}) RebuildFault → Type 0
AnswersFor node layout (Ok u) = MayMake node layout
AnswersFor node layout (Err (fault.NoNode nodes)) = (layout.nodes ≤ node) × (nodes ≡ layout.nodes)
AnswersFor node layout (Err (fault.NoHolder p)) = (node < layout.nodes) × IsFirst (IsHeldAlone layout node) p
AnswersFor node layout (Err (fault.NotAStore file at)) = ⊥
AnswersFor node layout (Err fault.Disk) = Unit {0}
AnswersFor node layout (Err fault.NoMemory) = Unit {0}

-- ---- what is seen

module _ {H : Type 0} (frame : HostGhosts H) where
  -- no file changes
  pub record IsLeftAlone (result : Result (Unit {0}) RebuildFault) (old new : H) : Type 0 where
    pub read : IsOnlyRead frame old new
    pub failed : IsErr result

  -- the store is opened but for the node's file, and that is made again. So it is only with files that are such a store, with such a node and each holder
  -- that is wanted. Until it is opened, all that a crash may leave it might have left at entry; from then
  -- on no file changes but that of the layouts and the new one, which the last layout doesn't name. Where the files read at entry as a store that is good but
  -- for the node, each moment since the opening shows such a one of the same contents, or the good store with the node's file, and so does what is left
  pub record MakesAgain (node : ℕ) (result : Result (Unit {0}) RebuildFault) (old new : H) : Type 0 where
    pub opened : H
    pub opening : IsOnlyRead frame old opened
    pub may : MayWrite result
    pub holds : (files : Files) → frame.reads old ≡ Some files → (c : Contents) × HoldsBut node files c
    pub makes : (files : Files) (c : Contents) → frame.reads old ≡ Some files → HoldsBut node files c → MayMake node c.setting.entry.layout
    pub named : List ℕ
    pub are_new : (files : Files) (c : Contents) → frame.reads old ≡ Some files → HoldsBut node files c → named ≡ rebuild_files c.setting.entry
    pub files : Become (SameBesides named) (frame.reads opened) (frame.reads new)
    pub crash : Follows (SameBesides named) (frame.may_leave opened) (frame.may_leave new)
    pub gains : (files : Files) (c : Contents) → frame.reads old ≡ Some files → IsGoodBut node files c
        → GainsAs frame result (λ image. IsGoodBut node image c) (HasRebuilt node c) opened new

  -- the one or the other
  abbrev pub Rebuilds : ℕ → Result (Unit {0}) RebuildFault → H → H → Type 0
  Rebuilds node result old new = IsLeftAlone result old new ⊎ MakesAgain node result old new
