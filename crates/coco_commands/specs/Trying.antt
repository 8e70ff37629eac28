-- What the command `try` does with the store in a host's files, and what is seen of it.
use Rattle.std.specs.Prelude.{◌≡◌, ◌⊎◌, ℕ, List, length, Some, Result}
use Rattle.coco_types.specs.declared.call.Request.{Request}
use Rattle.coco_cluster.specs.Around.{Around, IsLater, spare}
use Rattle.coco_ending.specs.declared.ending.Ending.{Ending}
use Rattle.coco_host.specs.Files.{Files}
use Rattle.coco_host.specs.declared.host.Host.{Ghosts as HostGhosts}
use Rattle.coco_load.specs.Epochs.{IsNextOf}
use Rattle.coco_log.specs.LogState.{IsOnlyRead}
use Rattle.coco_serve.specs.Faults.{Counts}
use Rattle.coco_serve.specs.declared.bounds.RunBounds.{RunBounds}
use Rattle.coco_cluster.specs.declared.stop.Stop.{Stop}
use Rattle.coco_store.specs.Contents.{Contents, Holds, IsGoodStore}
use Rattle.coco_try.specs.Trying.{HasCause, Tries}
use Rattle.coco_commands.specs.Stopping.{ending_of}
use Rattle.coco_commands.specs.Telling.{IsUntold}

module _ {H : Type 0} (frame : HostGhosts H) where
  -- the store isn't opened: nothing is said, no file changes, and net and power are as they were
  pub record IsUntried (how : Ending) (was now : Around) (before after : Counts) (old new : H) : Type 0 where
    pub untold : IsUntold frame how before after old new
    pub around : now ≡ was

  -- the store is opened, and then these requests are worked off on it. Until the opening has ended nothing is said, and all that a crash may leave it might have left at entry. Only files that
  -- are a store are opened, and such files are never refused (`a_refused_store_is_none`). After it, where the files read at entry as a good store, of however many nodes, each moment shows a
  -- good store whose history is that of entry grown by first batches of the requests, its new epochs numbered from `next` on with few numbers skipped. Nothing is said before all requests are
  -- worked off; and no file of it is refused any more
  pub record OpensToTry (bounds : RunBounds) (requests : List Request) (how : Ending) (was now : Around) (before after : Counts) (old new : H) : Type 0 where
    pub opened : H
    pub opening : IsOnlyRead frame old opened
    pub holds : (files : Files) → frame.reads old ≡ Some files → (c : Contents) × Holds files c
    pub next : ℕ
    pub is_next : (files : Files) (c : Contents) → frame.reads old ≡ Some files → Holds files c → IsNextOf c next
    pub result : Result (Unit {0}) Stop
    pub ends : how ≡ ending_of result
    pub later : IsLater was now
    pub cause : HasCause next (length requests) was now before after result
    pub tries : (files : Files) (c : Contents) → frame.reads old ≡ Some files → IsGoodStore files c
        → Tries frame c next (spare was now) bounds requests result opened new

  -- the store isn't opened, or it is
  abbrev pub TriesOn : RunBounds → List Request → Ending → Around → Around → Counts → Counts → H → H → Type 0
  TriesOn bounds requests how was now before after old new = IsUntried how was now before after old new ⊎ OpensToTry bounds requests how was now before after old new
