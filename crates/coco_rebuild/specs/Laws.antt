-- A store with a node's file made again goes on from the one that is good but for it.
use Rattle.std.specs.Prelude.{ℕ, ◌<◌, List, [], ◌∷◌}
use Rattle.coco_host.specs.Files.{Files}
use Rattle.coco_entry.specs.declared.prepared.Prepared.{Prepared}
use Rattle.coco_log.specs.Changes.{SameBesides}
use Rattle.coco_recover.specs.Without.{IsGoodBut}
use Rattle.coco_store.specs.Contents.{Contents}
use Rattle.coco_store.specs.Entries.{ArePrepared}
use Rattle.coco_store.specs.Switching.{IsReadyFor, Switches}
use Rattle.coco_rebuild.specs.Rebuilding.{AreRebuilt, IsHeldAlone, new_file, rebuilt_with}

-- contents may be switched to, and these files stand ready for that
pub record MaySwitch (c d : Contents) (files : Files) : Type 0 where
  pub switches : Switches c d
  pub ready : IsReadyFor c d files

-- where no partition is held by the node alone, and no file changed but that such entries were written into the new one
abbrev pub RebuiltIsGood : Type 0
RebuiltIsGood = (node : ℕ) (old new : Files) (c : Contents) (entries : List Prepared) → IsGoodBut node old c → node < c.setting.entry.layout.nodes
    → ((p : ℕ) → ¬ (IsHeldAlone c.setting.entry.layout node p)) → AreRebuilt node c entries
    → SameBesides (new_file c.setting.entry ∷ []) old new → ArePrepared entries (new (new_file c.setting.entry))
    → MaySwitch c (rebuilt_with node entries c) new
