-- A layout more at the end of the log of layouts: from then on files are another store, where all else of that one stands in them already.
use Rattle.std.specs.Prelude.{◌≡◌, ◌⊎◌, ℕ, ◌<◌, List, [], ◌∷◌, ◌++◌, Option}
use Rattle.coco_types.specs.declared.call.Done.{Done}
use Rattle.coco_host.specs.Files.{Files}
use Rattle.coco_ast.specs.History.{IsOrdered, IsSerial}
use Rattle.coco_entry.specs.declared.commit.Commit.{Commit}
use Rattle.coco_entry.specs.declared.layout.LayoutEntry.{LayoutEntry}
use Rattle.coco_entry.specs.declared.prepared.Prepared.{Prepared}
use Rattle.coco_entry.specs.Layouts.{IsLayout, layout_bytes}
use Rattle.coco_store.specs.Contents.{Contents, HaveRows, HoldsBase, HoldsCommits, HoldsLayouts, HoldsNode, IsGoodStore, chief_of, file_of, history_of}
use Rattle.coco_store.specs.Entries.{BaseEntry, layouts_file, layouts_kind}
use Rattle.coco_store.specs.Laws.{GainsOne, KeepsLog, MayGainOne}
use Rattle.coco_store.specs.Rules.{HasRoom, IsWithinLimits, Setting}

-- ---- the switch

-- all of these contents but the layouts stands in the files
pub record StandsReady (d : Contents) (files : Files) : Type 0 where
  pub base : HoldsBase files d.setting d.base d.setting.entry.base_file
  pub commits : HoldsCommits d.setting d.base d.commits (files (chief_of d.setting))
  pub nodes : (n : ℕ) → n < d.setting.entry.layout.nodes → HoldsNode d.setting d.commits n (d.prepared n) (files (file_of d.setting n))

-- contents go on from others by one layout of the same text, and nothing but what stands in files is missing to a good store with them
pub record Switches (c d : Contents) : Type 0 where
  pub earlier : d.earlier ≡ c.earlier ++ c.setting.entry ∷ []
  pub text : d.setting.entry.layout.text ≡ c.setting.entry.layout.text
  pub tree : d.setting.tree ≡ c.setting.tree
  pub is : IsLayout d.setting.entry
  pub limits : IsWithinLimits d.setting.entry
  pub ordered : IsOrdered (history_of d)
  pub serial : IsSerial d.setting.tree (history_of d)
  pub rows : HaveRows d

-- the log of layouts gains this one, and the other files that it names keep their logs
abbrev pub GainsLayout : LayoutEntry → Files → Files → Type 0
GainsLayout entry = GainsOne entry layouts_file layouts_kind (layout_bytes entry)

abbrev pub MayGainLayout : LayoutEntry → Files → Files → Type 0
MayGainLayout entry = MayGainOne entry layouts_file layouts_kind (layout_bytes entry)

-- the layouts of the first contents stand in the files, and all else of the second
pub record IsReadyFor (c d : Contents) (files : Files) : Type 0 where
  pub layouts : HoldsLayouts c.earlier c.setting (files layouts_file)
  pub stands : StandsReady d files

-- then such a layout makes them a good store with the second
abbrev pub AfterSwitch : Type 0
AfterSwitch = (old new : Files) (c d : Contents) → Switches c d → IsReadyFor c d old → GainsLayout d.setting.entry old new → IsGoodStore new d

-- at each moment of its append they are that store, or have the same layouts as before
abbrev pub WhileSwitch : Type 0
WhileSwitch = (old new : Files) (c d : Contents) → Switches c d → IsReadyFor c d old → MayGainLayout d.setting.entry old new
    → KeepsLog (old layouts_file) (new layouts_file) ⊎ IsGoodStore new d

-- ---- entries under another layout

-- what keeps the rules under one setting keeps them under another: the tree, the sizes and the base epoch are the same, and there is no less room for Dones
pub record Allows (s t : Setting) : Type 0 where
  pub tree : t.tree ≡ s.tree
  pub nodes : t.entry.layout.nodes ≡ s.entry.layout.nodes
  pub partitions : t.entry.layout.partitions ≡ s.entry.layout.partitions
  pub copies : t.entry.layout.copies ≡ s.entry.layout.copies
  pub base_epoch : t.entry.layout.base_epoch ≡ s.entry.layout.base_epoch
  pub room : (before : List Done) → HasRoom s.entry.keep before → HasRoom t.entry.keep before

-- so entries of every kind that stand under the one stand under the other, in whatever files
pub record KeepRules (s t : Setting) : Type 0 where
  pub base : (files : Files) (entries : List BaseEntry) (file : Option ℕ) → HoldsBase files s entries file → HoldsBase files t entries file
  pub commits : (base : List BaseEntry) (commits : List Commit) (file : List ℕ) → HoldsCommits s base commits file → HoldsCommits t base commits file
  pub node : (commits : List Commit) (n : ℕ) (entries : List Prepared) (file : List ℕ) → HoldsNode s commits n entries file → HoldsNode t commits n entries file

abbrev pub WhereAllowed : Type 0
WhereAllowed = (s t : Setting) → Allows s t → KeepRules s t
