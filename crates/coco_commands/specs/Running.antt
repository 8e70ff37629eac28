-- What the command `run` does with the store in a host's files, and what is seen of it.
use Rattle.std.specs.Prelude.{◌≡◌, ◌⊎◌, ℕ, List, Some, Result}
use Rattle.coco_cluster.specs.Around.{IsLater}
use Rattle.coco_host.specs.Files.{Files}
use Rattle.coco_host.specs.declared.host.Host.{Ghosts as HostGhosts}
use Rattle.coco_ending.specs.declared.ending.Ending.{Ending}
use Rattle.coco_lines.specs.Reads.{Gives}
use Rattle.coco_load.specs.Epochs.{IsNextOf}
use Rattle.coco_log.specs.LogState.{IsOnlyRead}
use Rattle.coco_serve.specs.Serving.{HasCause, Outside, Serves, spare_of}
use Rattle.coco_cluster.specs.declared.stop.Stop.{Stop}
use Rattle.coco_serve.specs.declared.bounds.RunBounds.{RunBounds}
use Rattle.coco_store.specs.Contents.{Contents, Holds, IsGoodStore}
use Rattle.coco_commands.specs.Opening.{IsUnopened}
use Rattle.coco_commands.specs.Stopping.{ending_of}

-- the store is opened, and then lines are answered on it. Until the opening has ended nothing is said, and all that a crash may leave it might have left
-- at entry. Only files that are a store are opened, and such files are never refused (`a_refused_store_is_none`): so the opening ends with `NotAStore`
-- exactly where the files are none, at the first place, and neither a fault of the disk nor want of memory ended it. After it, where the files read at entry
-- as a good store, of however many nodes, each moment shows a good store whose history is that of entry grown by first batches of the bytes that the source
-- gave, its new epochs numbered from `next` on with few numbers skipped, with a front of their answers said; and no file of it is refused any more
pub record Opens {H : Type 0} (frame : HostGhosts H)
    (bounds : RunBounds) (ending : Ending) (before after : Outside) (old new : H) : Type 0 where
  pub opened : H
  pub opening : IsOnlyRead frame old opened
  pub holds : (files : Files) → frame.reads old ≡ Some files → (c : Contents) × Holds files c
  pub bytes : List ℕ
  pub gives : Gives before.source after.source bytes
  pub next : ℕ
  pub is_next : (files : Files) (c : Contents) → frame.reads old ≡ Some files → Holds files c → IsNextOf c next
  pub served : Result (Unit {0}) Stop
  pub ends : ending ≡ ending_of served
  pub later : IsLater before.around after.around
  pub cause : HasCause next bytes before after served
  pub serves : (files : Files) (c : Contents) → frame.reads old ≡ Some files → IsGoodStore files c
      → Serves frame c next (spare_of before after) bounds bytes served opened new

-- the store isn't opened, or it is
abbrev pub RunsOn : {H : Type 0} (frame : HostGhosts H)
    → RunBounds → Ending → Outside → Outside → H → H → Type 0
RunsOn frame bounds ending before after old new =
    IsUnopened frame ending before after old new
    ⊎ Opens frame bounds ending before after old new
