-- A compacted store goes on from the one that it was made of.
use Rattle.std.specs.Prelude.{◌≡◌, ℕ, ◌+◌, List}
use Rattle.coco_host.specs.Files.{Files}
use Rattle.coco_ast.specs.History.{compacted}
use Rattle.coco_entry.specs.declared.layout.LayoutEntry.{LayoutEntry}
use Rattle.coco_entry.specs.Layouts.{IsLayout}
use Rattle.coco_load.specs.Epochs.{IsNextOf}
use Rattle.coco_store.specs.Contents.{Contents, IsGoodStore, history_of}
use Rattle.coco_store.specs.Entries.{BaseEntry}
use Rattle.coco_store.specs.Rules.{IsBase, IsWithinLimits}
use Rattle.coco_store.specs.Switching.{Switches}
use Rattle.coco_ckpt.specs.Compacting.{IsCompactBase, IsCompactLayout, compacted_with}

-- the second contents may be switched to from the first, their base keeps its rules, and their history is the compacted one under this epoch's number
pub record IsCompactedFrom (c d : Contents) (epoch : ℕ) : Type 0 where
  pub switches : Switches c d
  pub base : IsBase d.setting d.base
  pub history : history_of d ≡ compacted c.setting.tree epoch (history_of c)

-- of a good store, under the greatest epoch of all its entries
abbrev pub CompactedIsGood : Type 0
CompactedIsGood = (files : Files) (c : Contents) (epoch : ℕ) (entry : LayoutEntry) (base : List BaseEntry) → IsGoodStore files c → IsNextOf c (epoch + 1)
    → IsLayout entry → IsWithinLimits entry → IsCompactLayout epoch c.setting.entry entry → IsCompactBase epoch c base → IsCompactedFrom c (compacted_with entry base c) epoch
