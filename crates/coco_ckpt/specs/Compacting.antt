-- What a store becomes when it is compacted: its map, its kept Dones and its floor as the base, with new files and no epoch behind.
use Rattle.std.specs.Prelude.{◌≡◌, ⊤, ℕ, ◌+◌, ◌≤◌, List, [], ◌∷◌, ◌++◌, length, map, Option, Some}
use Rattle.std.specs.List.{flat_map}
use Rattle.std.specs.FinMap.{entries}
use Rattle.coco_types.specs.RowKey.{RowKey}
use Rattle.coco_types.specs.declared.call.Done.{Done}
use Rattle.coco_types.specs.declared.value.Value.{Value}
use Rattle.coco_host.specs.Files.{Files}
use Rattle.coco_ast.specs.History.{StayAlike, compacted, floor, kept}
use Rattle.coco_lines.specs.Alike.{NoLineTells}
use Rattle.coco_entry.specs.declared.base.TheConstants.{MOST_ITEMS}
use Rattle.coco_entry.specs.declared.layout.LayoutEntry.{LayoutEntry}
use Rattle.coco_load.specs.Epochs.{IsNextOf}
use Rattle.coco_make.specs.Free.{free_files}
use Rattle.coco_store.specs.Contents.{Contents, IsGoodStore, history_of, map_in}
use Rattle.coco_store.specs.Entries.{BaseEntry, Dones, Head, Values, files_of, layouts_file}

-- ---- the base file

-- from one to so many items each, and just so many in each but the last
abbrev pub AreFullButLast : {A : Type 0} → ℕ → List (List A) → Type 0
AreFullButLast n [] = ⊤
AreFullButLast n (xs ∷ []) = (1 ≤ length xs) × (length xs ≤ n)
AreFullButLast n (xs ∷ ys ∷ lists) = (length xs ≡ n) × AreFullButLast n (ys ∷ lists)

-- the items, cut into such lists
pub record AreCut {A : Type 0} (n : ℕ) (items : List A) (lists : List (List A)) : Type 0 where
  pub joined : flat_map (λ xs. xs) lists ≡ items
  pub full : AreFullButLast n lists

-- a head for this epoch, then these Dones, then these rows
pub record IsBaseWith (epoch : ℕ) (floor : Option ℕ) (dones : List Done) (rows : List (RowKey × Value)) (entries : List BaseEntry) : Type 0 where
  pub dones_lists : List (List Done)
  pub dones_cut : AreCut MOST_ITEMS dones dones_lists
  pub rows_lists : List (List (RowKey × Value))
  pub rows_cut : AreCut MOST_ITEMS rows rows_lists
  pub are : entries ≡ Head (record { epoch = epoch; floor = floor; dones = length dones; rows = length rows }) ∷ map Dones dones_lists ++ map Values rows_lists

-- the kept Dones of these contents, their floor, and the rows of their map by key
abbrev pub IsCompactBase : ℕ → Contents → List BaseEntry → Type 0
IsCompactBase epoch c = IsBaseWith epoch (floor (history_of c)) (kept (history_of c)) (entries (map_in c))

-- ---- the layout

-- the old one with this base epoch and with the least numbers of files that it doesn't name: for the base, for the coordinator, and for the nodes
pub record IsCompactLayout (epoch : ℕ) (old new : LayoutEntry) : Type 0 where
  pub layout : new.layout ≡ record old.layout { chief_file = new.layout.chief_file; node_files = new.layout.node_files; base_epoch = epoch }
  pub keep : new.keep ≡ old.keep
  pub base : ℕ
  pub base_file : new.base_file ≡ Some base
  pub files : base ∷ new.layout.chief_file ∷ new.layout.node_files ≡ free_files (files_of old) (old.layout.nodes + 2)

-- the files that change: these, and that of the layouts
abbrev pub compact_files : LayoutEntry → List ℕ
compact_files old = layouts_file ∷ free_files (files_of old) (old.layout.nodes + 2)

-- ---- the store

-- the layouts of before and this one, this base, and nothing behind it
abbrev pub compacted_with : LayoutEntry → List BaseEntry → Contents → Contents
compacted_with entry base c = record {
  earlier = c.earlier ++ c.setting.entry ∷ [];
  setting = record { entry = entry; tree = c.setting.tree };
  base = base;
  commits = [];
  prepared = λ n. [];
}

-- the second contents are the first ones compacted under the greatest epoch of all their entries, and no line tells their history from that of before
pub record IsCompaction (c d : Contents) : Type 0 where
  pub epoch : ℕ
  pub greatest : IsNextOf c (epoch + 1)
  pub layout : IsCompactLayout epoch c.setting.entry d.setting.entry
  pub base : IsCompactBase epoch c d.base
  pub is : d ≡ compacted_with d.setting.entry d.base c
  pub history : history_of d ≡ compacted c.setting.tree epoch (history_of c)
  pub alike : StayAlike c.setting.tree (history_of c) (history_of d)
  pub unseen : NoLineTells c.setting.tree (history_of c) (history_of d)

-- files that are a good store of what such contents are compacted to
abbrev pub HasCompacted : Contents → Files → Type 0
HasCompacted c files = (d : Contents) × IsCompaction c d × IsGoodStore files d
