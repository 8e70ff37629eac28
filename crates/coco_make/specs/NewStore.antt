-- A store as it is made: its layout, what its files hold, and their bytes.
use Rattle.std.specs.Prelude.{◌≡◌, ℕ, ◌<◌, false, List, [], ◌∷◌, ◌++◌, None, slice_index}
use Rattle.std.specs.List.{range_with_len}
use Rattle.coco_host.specs.Files.{Files}
use Rattle.coco_ast.specs.History.{no_history}
use Rattle.coco_ast.specs.Tree.{Procedures}
use Rattle.coco_entry.specs.declared.layout.Layout.{Layout}
use Rattle.coco_entry.specs.declared.layout.LayoutEntry.{LayoutEntry}
use Rattle.coco_entry.specs.Layouts.{is_named, layout_bytes, named_by}
use Rattle.coco_log.specs.Grammar.{front, IsLog}
use Rattle.coco_store.specs.Contents.{Contents, IsGoodStore, history_of}
use Rattle.coco_store.specs.Entries.{commits_kind, layouts_kind, prepared_kind}
use Rattle.coco_store.specs.Rules.{IsWithinLimits}
use Rattle.coco_store.specs.Texts.{IsAcceptedText}

-- ---- the layout

-- the coordinator's file is 1, those of the nodes are 2, 3 and on, and no epoch came before
abbrev pub new_layout : ℕ → ℕ → ℕ → List ℕ → Layout
new_layout nodes partitions copies text = record {
  nodes = nodes;
  partitions = partitions;
  copies = copies;
  chief_file = 1;
  node_files = range_with_len 2 nodes;
  base_epoch = 0;
  text = text;
}

abbrev pub IsNewLayout : Layout → Type 0
IsNewLayout layout = layout ≡ new_layout layout.nodes layout.partitions layout.copies layout.text

-- its entry, without a keep number and a base file
abbrev pub entry_of : Layout → LayoutEntry
entry_of layout = record { layout = layout; keep = None; base_file = None }

-- ---- what the files hold

-- one layout, no epoch, and nothing prepared
abbrev pub new_contents : Layout → Procedures → Contents
new_contents layout tree = record {
  earlier = [];
  setting = record { entry = entry_of layout; tree = tree };
  base = [];
  commits = [];
  prepared = λ n. [];
}

-- the logs of the coordinator and of each node have no entries
pub record AreEmptyLogs (layout : Layout) (files : Files) : Type 0 where
  pub commits : IsLog commits_kind [] (files layout.chief_file)
  pub prepared : (n : ℕ) → n < layout.nodes → IsLog prepared_kind [] (files (slice_index layout.node_files n))

-- and that of layouts has this one
pub record AreNewLogs (layout : Layout) (files : Files) : Type 0 where
  pub layouts : IsLog layouts_kind (layout_bytes (entry_of layout) ∷ []) (files 0)
  pub empty : AreEmptyLogs layout files

-- ---- bytes

-- a log with nothing behind its last gate
abbrev pub log_bytes : ℕ → List (List ℕ) → List ℕ
log_bytes kind bodies = front kind bodies ++ 0 ∷ []

-- the files have the bytes of these logs, and no others
pub record AreOnlyNewLogs (layout : Layout) (files : Files) : Type 0 where
  pub layouts : files 0 ≡ log_bytes layouts_kind (layout_bytes (entry_of layout) ∷ [])
  pub commits : files layout.chief_file ≡ log_bytes commits_kind []
  pub prepared : (n : ℕ) → n < layout.nodes → files (slice_index layout.node_files n) ≡ log_bytes prepared_kind []
  pub others : (n : ℕ) → is_named (named_by layout) n ≡ false → files n ≡ []

-- ---- the law

-- files with these logs are a good store, and its history is empty
abbrev pub NewLogsAreAStore : Type 0
NewLogsAreAStore = (layout : Layout) (tree : Procedures) (files : Files) → IsNewLayout layout → IsWithinLimits (entry_of layout) → IsAcceptedText layout.text tree → AreNewLogs layout files
    → IsGoodStore files (new_contents layout tree) × (history_of (new_contents layout tree) ≡ no_history)
