-- What a store becomes when the lost file of one of its nodes is made again out of those of other holders.
use Rattle.std.specs.Prelude.{◌≡◌, ℕ, ◌+◌, ◌%◌, ◌<◌, ◌≤◌, nat_eq, List, [], ◌∷◌, ◌++◌, slice_index, slice_set, ◌==◌, if◌then◌else◌}
use Rattle.std.specs.List.{AllByRecursion, filter, flat_map}
use Rattle.coco_types.specs.RowKey.{partition_of}
use Rattle.coco_host.specs.Files.{Files}
use Rattle.coco_entry.specs.declared.layout.Layout.{Layout}
use Rattle.coco_entry.specs.declared.layout.LayoutEntry.{LayoutEntry}
use Rattle.coco_entry.specs.declared.prepared.Prepared.{Prepared}
use Rattle.coco_entry.specs.declared.prepared.Row.{Row}
use Rattle.coco_entry.specs.Rows.{IsPrepared}
use Rattle.coco_make.specs.Free.{free_files}
use Rattle.coco_store.specs.Contents.{Contents, IsGoodStore, history_of}
use Rattle.coco_store.specs.Entries.{files_of, layouts_file}
use Rattle.coco_store.specs.Placement.{IsHeldBy}
use Rattle.coco_store.specs.Rules.{IsNodeRow, commit_epochs, prepared_epochs}

-- ---- where the rows come from

-- the holder of a partition that comes next round the ring behind the j-th one; behind the last one comes the primary again
abbrev pub holder_behind : Layout → ℕ → ℕ → ℕ
holder_behind layout p j = if j == layout.copies then p % layout.nodes else (p + (j + 1)) % layout.nodes

-- a partition is held by this node alone
pub record IsHeldAlone (layout : Layout) (node p : ℕ) : Type 0 where
  pub within : p < layout.partitions
  pub held : IsHeldBy layout p node
  pub alone : (n : ℕ) → IsHeldBy layout p n → n ≡ node

-- what entries have for an epoch
abbrev pub rows_at : ℕ → List Prepared → List Row
rows_at epoch entries = flat_map (λ e. e.rows) (filter (λ e. nat_eq e.epoch epoch) entries)

-- those of a partition
abbrev pub on_rows : Layout → ℕ → List Row → List Row
on_rows layout p rows = filter (λ r. nat_eq (partition_of layout.partitions r.key) p) rows

-- ---- the new file

-- an entry of the node: its rows are of partitions that the node holds, and of each of them those that the next holder has for the same epoch
pub record IsRebuilt (node : ℕ) (c : Contents) (entry : Prepared) : Type 0 where
  pub is : IsPrepared entry
  pub rows : AllByRecursion (IsNodeRow c.setting node) entry.rows
  pub same : (p j : ℕ) → p < c.setting.entry.layout.partitions → j ≤ c.setting.entry.layout.copies → node ≡ (p + j) % c.setting.entry.layout.nodes
      → on_rows c.setting.entry.layout p entry.rows ≡ on_rows c.setting.entry.layout p (rows_at entry.epoch (c.prepared (holder_behind c.setting.entry.layout p j)))

-- one for each committed epoch, and no other
pub record AreRebuilt (node : ℕ) (c : Contents) (entries : List Prepared) : Type 0 where
  pub epochs : prepared_epochs entries ≡ commit_epochs c.commits
  pub each : AllByRecursion (IsRebuilt node c) entries

-- the least number of a file that a layout doesn't name
abbrev pub new_file : LayoutEntry → ℕ
new_file old = slice_index (free_files (files_of old) 1) 0

-- the layout with that file for the node
abbrev pub rebuilt_layout : ℕ → LayoutEntry → LayoutEntry
rebuilt_layout node old = record {
  layout = record old.layout { node_files = slice_set old.layout.node_files node (new_file old) };
  keep = old.keep;
  base_file = old.base_file;
}

-- the files that change: that one, and that of the layouts
abbrev pub rebuild_files : LayoutEntry → List ℕ
rebuild_files old = layouts_file ∷ new_file old ∷ []

-- ---- the store

-- the layouts of before and this one, and these entries of the node; the base, the commits and what the others prepared stay
abbrev pub rebuilt_with : ℕ → List Prepared → Contents → Contents
rebuilt_with node entries c = record {
  earlier = c.earlier ++ c.setting.entry ∷ [];
  setting = record { entry = rebuilt_layout node c.setting.entry; tree = c.setting.tree };
  base = c.base;
  commits = c.commits;
  prepared = λ n. if n == node then entries else c.prepared n;
}

-- the second contents are the first ones with the node's file made again, and their history is the same
pub record IsRebuild (node : ℕ) (c d : Contents) : Type 0 where
  pub entries : List Prepared
  pub are : AreRebuilt node c entries
  pub is : d ≡ rebuilt_with node entries c
  pub history : history_of d ≡ history_of c

-- files that are a good store of what such contents become
abbrev pub HasRebuilt : ℕ → Contents → Files → Type 0
HasRebuilt node c files = (d : Contents) × IsRebuild node c d × IsGoodStore files d
