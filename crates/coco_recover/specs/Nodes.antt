-- The rules of a node's file, and what is remembered of its entries.
use Rattle.std.specs.Prelude.{◌≡◌, ℕ, ◌<◌, ◌==◌, if◌then◌else◌, List, [], ◌∷◌, ◌++◌, length, map, max, None, slice_index_or}
use Rattle.std.specs.List.{flat_map}
use Rattle.coco_ast.specs.Keyed.{Rows}
use Rattle.coco_ast.specs.Tree.{Procedures}
use Rattle.coco_copy.specs.CopyState.{CopyState}
use Rattle.coco_entry.specs.Rows.{IsPrepared, prepared_bytes, prepared_in}
use Rattle.coco_entry.specs.declared.commit.Commit.{Commit}
use Rattle.coco_entry.specs.declared.layout.Layout.{Layout}
use Rattle.coco_entry.specs.declared.prepared.Prepared.{Prepared}
use Rattle.coco_load.specs.Epochs.{IsNextTo}
use Rattle.coco_load.specs.Reading.{HoldRead}
use Rattle.coco_load.specs.Tables.{AreTables}
use Rattle.coco_load.specs.declared.tables.Tables.{Tables}
use Rattle.coco_read.specs.EntryRules.{EntryRules}
use Rattle.coco_rules.specs.Readying.{AreAmong, IsBehindPrepared}
use Rattle.coco_rules.specs.declared.prepared.NodeRules.{NodeRules}
use Rattle.coco_shard.specs.RowState.{ShardState}
use Rattle.coco_store.specs.Refusals.{PreparedBreaks}
use Rattle.coco_store.specs.Rules.{EachBehind, IsNextPrepared, Setting, base_of, commit_epochs, prepared_epochs}
use Rattle.coco_recover.specs.Bases.{Basis}
use Rattle.coco_recover.specs.Commits.{AreCommitted, basis_of_committed}
use Rattle.coco_recover.specs.declared.commits.Committed.{Committed}
use Rattle.coco_recover.specs.declared.nodes.Loaded.{Loaded}
use Rattle.coco_recover.specs.declared.nodes.NodeRead.{NodeRead}

-- what the entries of a node stand under: the layout and the tree, the committed epochs, the node, and the tables before its first entry
pub record NodeBasis : Type 0 where
  pub layout : Layout
  pub tree : Procedures
  pub epochs : List ℕ
  pub node : ℕ
  pub shards : List ShardState
  pub copies : List CopyState

abbrev pub node_basis : Layout → Procedures → List ℕ → ℕ → List ShardState → List CopyState → NodeBasis
node_basis layout tree epochs node shards copies = record { layout = layout; tree = tree; epochs = epochs; node = node; shards = shards; copies = copies }

-- of a setting the entries of nodes see the layout and the tree alone
abbrev pub setting_with : Layout → Procedures → Setting
setting_with layout tree = record { entry = record { layout = layout; keep = None; base_file = None }; tree = tree }

abbrev pub node_rules : NodeBasis → EntryRules Prepared
node_rules b = record {
  bytes_of = prepared_bytes;
  Is = IsPrepared;
  read = λ before. prepared_in;
  Breaks = PreparedBreaks (setting_with b.layout b.tree) b.node;
  Lacks = λ entries. ¬ (AreAmong (prepared_epochs entries) b.epochs);
}

-- ---- what is loaded

-- the entries of each node, none where it wasn't read
abbrev pub entries_at : List (List Prepared) → ℕ → List Prepared
entries_at nodes n = slice_index_or nodes n []

abbrev pub nodes_of : Loaded → List (List Prepared)
nodes_of loaded = map (λ t. t.items) loaded.nodes.items

-- the tables hold the base and what these entries of nodes say, and the number is the next one
pub record HoldsNodes (b : Basis) (commits : List Commit) (nodes : List (List Prepared)) (loaded : Loaded) : Type 0 where
  pub tables : HoldRead b.setting (base_of b.setting b.base).rows (commit_epochs commits) (entries_at nodes) loaded.tables.shards.items loaded.tables.copies.items
  pub next : IsNextTo (b.setting.entry.layout.base_epoch ∷ commit_epochs commits ++ flat_map prepared_epochs nodes) loaded.next

-- so it is behind what was committed, once the nodes that it has are read
abbrev pub IsLoaded : Setting → Committed → Loaded → Type 0
IsLoaded s committed loaded = HoldsNodes (basis_of_committed s committed) committed.commits.items (nodes_of loaded) loaded

-- the next node of the layout, behind what was committed
pub record IsNode (s : Setting) (committed : Committed) (loaded : Loaded) (node : ℕ) : Type 0 where
  pub next : length (nodes_of loaded) ≡ node
  pub within : node < s.entry.layout.nodes
  pub behind : AreCommitted s committed

-- ---- what a node prepared

-- the greatest of these numbers and one more
abbrev pub greatest_of : ℕ → List ℕ → ℕ
greatest_of n [] = n
greatest_of n (x ∷ xs) = greatest_of (max n x) xs

-- the greatest epoch of a node's entries, 0 without one
abbrev pub greatest_prepared : List Prepared → ℕ
greatest_prepared entries = greatest_of 0 (prepared_epochs entries)

-- ---- one node

-- the entries of each node that were read, with these behind them of this node
abbrev pub with_entries : ℕ → List Prepared → (ℕ → List Prepared) → ℕ → List Prepared
with_entries n entries read m = if m == n then read m ++ entries else read m

-- whatever the tables of before hold, the others hold it with these entries of the node over it
abbrev pub Loads : Setting → List ℕ → ℕ → List Prepared → List ShardState → List CopyState → List ShardState → List CopyState → Type 0
Loads s epochs n entries old_shards old_copies shards copies =
    (base : Rows) (read : ℕ → List Prepared) → HoldRead s base epochs read old_shards old_copies → HoldRead s base epochs (with_entries n entries read) shards copies

-- the entries of a node's file keep their rules, and are loaded over the tables of before
pub record IsNodeRead (s : Setting) (epochs : List ℕ) (n : ℕ) (shards : List ShardState) (copies : List CopyState) (read : NodeRead) : Type 0 where
  pub each : EachBehind (IsNextPrepared s n) [] read.entries.items
  pub tables : AreTables s.entry.layout read.tables.shards.items read.tables.copies.items
  pub loads : Loads s epochs n read.entries.items shards copies read.tables.shards.items read.tables.copies.items
  pub greatest : read.greatest ≡ greatest_prepared read.entries.items

-- ---- while a node is read

-- these entries keep their rules, and are loaded
pub record AreTaken (b : NodeBasis) (entries : List Prepared) (history : NodeRules) (loaded : Tables) (number : ℕ) : Type 0 where
  pub each : EachBehind (IsNextPrepared (setting_with b.layout b.tree) b.node) [] entries
  pub behind : IsBehindPrepared (setting_with b.layout b.tree) b.epochs entries history
  pub is_node : history.node ≡ b.node
  pub tables : AreTables b.layout loaded.shards.items loaded.copies.items
  pub loads : Loads (setting_with b.layout b.tree) b.epochs b.node entries b.shards b.copies loaded.shards.items loaded.copies.items
  pub greatest : number ≡ greatest_prepared entries

-- the node is of the layout
abbrev pub IsOfLayout : NodeBasis → Type 0
IsOfLayout b = b.node < b.layout.nodes
