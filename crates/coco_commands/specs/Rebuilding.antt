-- What the command `rebuild` does with the store in a host's files, and what is seen of it.
use Rattle.std.specs.Prelude.{◌≡◌, ℕ, List, Option, Some, Result, Ok, Err}
use Rattle.coco_host.specs.Files.{Files}
use Rattle.coco_host.specs.Moments.{Observation}
use Rattle.coco_host.specs.declared.host.Host.{Ghosts as HostGhosts}
use Rattle.coco_ending.specs.declared.ending.Ending.{Ending}
use Rattle.coco_ending.specs.declared.ending.Ending.TheVariants as ending
use Rattle.coco_rebuild.specs.Answers.{AnswersFor, CountsRebuild, NeedsStore, Rebuilds as IsSeen}
use Rattle.coco_rebuild.specs.declared.fault.RebuildFault.{RebuildFault}
use Rattle.coco_rebuild.specs.declared.fault.RebuildFault.TheVariants as fault
use Rattle.coco_recover.specs.Without.{HoldsBut, IsFirstRefusalBut}
use Rattle.coco_serve.specs.Faults.{Counts}
use Rattle.coco_store.specs.Contents.{Contents}

-- how a call ends that was to make this node's file again
abbrev pub ending_of_rebuilding : ℕ → Result (Unit {0}) RebuildFault → Ending
ending_of_rebuilding node (Ok u) = ending.Finished
ending_of_rebuilding node (Err fault.Disk) = ending.DiskFault
ending_of_rebuilding node (Err (fault.NotAStore file at)) = ending.NotAStore file at
ending_of_rebuilding node (Err (fault.NoNode nodes)) = ending.NoNode node nodes
ending_of_rebuilding node (Err (fault.NoHolder partition)) = ending.NoHolder partition
ending_of_rebuilding node (Err fault.NoMemory) = ending.NoMemory

module _ {H : Type 0} (frame : HostGhosts H) where
  -- the node's file is made again, or nothing changes. Where the files hold a store but for that file, the answer is that of such a store: `NoNode` and
  -- `NoHolder` come exactly where there is no such node, or a partition that it holds alone, and the files aren't refused; where they hold none, one of
  -- them is, at the first place, if neither a fault of the disk nor want of memory came first. What is seen meanwhile, and what is left, is as
  -- `MakesAgain` says; nothing is said
  pub record Rebuilds (node : ℕ) (how : Ending) (before after : Counts) (old new : H) : Type 0 where
    pub result : Result (Unit {0}) RebuildFault
    pub ends : how ≡ ending_of_rebuilding node result
    pub refused : (file at : ℕ) (files : Files) → result ≡ Err (fault.NotAStore file at) → frame.reads old ≡ Some files → IsFirstRefusalBut node files file at
    pub holds : (files : Files) → frame.reads old ≡ Some files → NeedsStore result ((c : Contents) × HoldsBut node files c)
    pub answers : (files : Files) (c : Contents) → frame.reads old ≡ Some files → HoldsBut node files c → AnswersFor node c.setting.entry.layout result
    pub seen : IsSeen frame node result old new
    pub quiet : frame.said new ≡ frame.said old
    pub cause : CountsRebuild result before.disk after.disk
    pub stream : after.say ≡ before.say
