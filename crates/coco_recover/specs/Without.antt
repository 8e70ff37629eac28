-- Files that are a store but for one node's, and what is had of them.
use Rattle.std.specs.Prelude.{◌≡◌, ◌≢◌, ℕ, ◌<◌, ◌≤◌, List, length, Option, None, Some, IfSome, MatchOption, slice_index, slice_index_or}
use Rattle.std.specs.List.{AllByRecursion}
use Rattle.coco_types.specs.Limits.{epochs_end}
use Rattle.coco_host.specs.Files.{Files}
use Rattle.coco_append.specs.Gaining.{RestsAs, Stands}
use Rattle.coco_ast.specs.History.{IsOrdered, IsSerial, RisesAbove}
use Rattle.coco_ast.specs.Tree.{Procedures}
use Rattle.coco_entry.specs.declared.layout.LayoutEntry.{LayoutEntry}
use Rattle.coco_entry.specs.declared.prepared.Prepared.{Prepared}
use Rattle.coco_entry.specs.Layouts.{IsLayout}
use Rattle.coco_log.specs.LogState.{IsFresh, IsOpened, LogState}
use Rattle.coco_store.specs.Contents.{Contents, HoldsBase, HoldsHistory, HoldsLayouts, HoldsNode, IsGoodStore, Holds, chief_of, file_of, history_of, map_in, on, rows_of}
use Rattle.coco_store.specs.Entries.{BaseEntry, commits_kind, layouts_kind, prepared_kind}
use Rattle.coco_store.specs.Laws.{KeepLogs}
use Rattle.coco_store.specs.Placement.{IsHeldBy}
use Rattle.coco_store.specs.Refusals.{AreCommitsRefused, AreLayoutsRefused, IsBaseRefused, IsFirst, IsNodeRefused}
use Rattle.coco_store.specs.Rules.{IsWithinLimits, Setting, commit_epochs}
use Rattle.coco_store.specs.Texts.{IsAcceptedText}
use Rattle.coco_recover.specs.Layouts.{setting_of}
use Rattle.coco_recover.specs.Nodes.{IsLoaded, entries_at, nodes_of}
use Rattle.coco_recover.specs.Steps.{HoldsEntries}
use Rattle.coco_recover.specs.declared.commits.Committed.{Committed}
use Rattle.coco_recover.specs.declared.layouts.LastLayout.{LastLayout}
use Rattle.coco_recover.specs.declared.nodes.Loaded.{Loaded}
use Rattle.coco_recover.specs.declared.without.Parts.{Parts}

-- ---- stores

-- a store is in the files but for this node's, with these contents: nothing in the others is refused. What that node prepared isn't said
pub record HoldsBut (node : ℕ) (files : Files) (c : Contents) : Type 0 where
  pub history : HoldsHistory files c
  pub nodes : (n : ℕ) → n < c.setting.entry.layout.nodes → n ≢ node → HoldsNode c.setting c.commits n (c.prepared n) (files (file_of c.setting n))

-- it is a good one but for this node: every other one has the history's rows in each partition that it holds
pub record IsGoodBut (node : ℕ) (files : Files) (c : Contents) : Type 0 where
  pub holds : HoldsBut node files c
  pub ordered : IsOrdered (history_of c)
  pub serial : IsSerial c.setting.tree (history_of c)
  pub rows : (n p : ℕ) → n < c.setting.entry.layout.nodes → n ≢ node → p < c.setting.entry.layout.partitions → IsHeldBy c.setting.entry.layout p n
      → rows_of c n p ≡ on c.setting p (map_in c)

-- a store is one but for any node, and one but for a node that it doesn't have is one
abbrev pub StoresAreButForANode : Type 0
StoresAreButForANode = (node : ℕ) (files : Files) (c : Contents) → (Holds files c → HoldsBut node files c) × (c.setting.entry.layout.nodes ≤ node → HoldsBut node files c → Holds files c)

-- and so are good ones
abbrev pub GoodStoresAreButForANode : Type 0
GoodStoresAreButForANode = (node : ℕ) (files : Files) (c : Contents) → (IsGoodStore files c → IsGoodBut node files c) × (c.setting.entry.layout.nodes ≤ node → IsGoodBut node files c → IsGoodStore files c)

-- behind the last gates, and in files that the layout doesn't name, anything may stand
abbrev pub BehindGatesButForANode : Type 0
BehindGatesButForANode = (node : ℕ) (old new : Files) (c : Contents) → KeepLogs c.setting.entry old new → IsGoodBut node old c → IsGoodBut node new c

-- ---- refusals

-- the first refusal before the nodes' files
pub data IsHistoryRefusal (files : Files) : ℕ → ℕ → Type 0 where
  layouts_refused : {at : ℕ} → IsFirst (AreLayoutsRefused (files 0)) at → IsHistoryRefusal files 0 at
  base_refused : {earlier : List LayoutEntry} {s : Setting} {file at : ℕ} → HoldsLayouts earlier s (files 0) → s.entry.base_file ≡ Some file → IsFirst (IsBaseRefused s (files file)) at → IsHistoryRefusal files file at
  commits_refused : {earlier : List LayoutEntry} {s : Setting} {base : List BaseEntry} {at : ℕ} → HoldsLayouts earlier s (files 0) → HoldsBase files s base s.entry.base_file
      → IsFirst (AreCommitsRefused s base (files (chief_of s))) at → IsHistoryRefusal files (chief_of s) at

-- the first refusal where this node's file is left out
pub data IsFirstRefusalBut (node : ℕ) (files : Files) : ℕ → ℕ → Type 0 where
  before_nodes : {file at : ℕ} → IsHistoryRefusal files file at → IsFirstRefusalBut node files file at
  in_other : {c : Contents} {n at : ℕ} → HoldsHistory files c → n < c.setting.entry.layout.nodes → n ≢ node
      → ((m : ℕ) → m < n → m ≢ node → HoldsNode c.setting c.commits m (c.prepared m) (files (file_of c.setting m)))
      → IsFirst (IsNodeRefused c.setting c.commits n (files (file_of c.setting n))) at → IsFirstRefusalBut node files (file_of c.setting n) at

-- files that are refused, with a node's file left out, hold no store but for it
abbrev pub RefusedButForANodeIsNone : Type 0
RefusedButForANodeIsNone = (node : ℕ) (files : Files) (file at : ℕ) → IsFirstRefusalBut node files file at → (c : Contents) → ¬ (HoldsBut node files c)

-- one place in them is refused first
abbrev pub OneRefusalButForANode : Type 0
OneRefusalButForANode = (node : ℕ) (files : Files) (f g a b : ℕ) → IsFirstRefusalBut node files f a → IsFirstRefusalBut node files g b → (f ≡ g) × (a ≡ b)

-- ---- what is had

-- the last layout, with its keep number and its base file
abbrev pub entry_of_parts : Parts → LayoutEntry
entry_of_parts parts = record { layout = parts.layout; keep = parts.keep; base_file = parts.base_file }

abbrev pub log_in : List (Option LogState) → ℕ → Option LogState
log_in logs n = slice_index_or logs n None

-- the parts are what these contents say
pub record HasParts (c : Contents) (parts : Parts) : Type 0 where
  pub layout : entry_of_parts parts ≡ c.setting.entry
  pub epochs : parts.epochs.items ≡ commit_epochs c.commits

-- the files are a store but for this node's, and the parts are what they say
pub record ArePartsOf (node : ℕ) (files : Files) (parts : Parts) : Type 0 where
  pub contents : Contents
  pub holds : HoldsBut node files contents
  pub has : (c : Contents) → HoldsBut node files c → HasParts c parts

-- of a node the log of its file, which may be used, but of the one that is left out none
pub record IsLogBut (node n file : ℕ) (log : Option LogState) : Type 0 where
  pub without : n ≡ node → log ≡ None
  pub other : n ≢ node → MatchOption log ⊥ (λ l. IsFresh l file prepared_kind)

-- on every host: the layout is good, and its logs are those of its files, but for this node's; the committed epochs rise
pub record AreSoundParts (node : ℕ) (parts : Parts) : Type 0 where
  pub is : IsLayout (entry_of_parts parts)
  pub limits : IsWithinLimits (entry_of_parts parts)
  pub tree : Procedures
  pub accepted : IsAcceptedText parts.layout.text tree
  pub rises : RisesAbove parts.layout.base_epoch parts.epochs.items
  pub end : AllByRecursion (λ e. e < epochs_end) parts.epochs.items
  pub root : IsFresh parts.root 0 layouts_kind
  pub chief : IsFresh parts.chief parts.layout.chief_file commits_kind
  pub count : length parts.nodes.items ≡ parts.layout.nodes
  pub nodes : (n : ℕ) → n < parts.layout.nodes → IsLogBut node n (slice_index parts.layout.node_files n) (log_in parts.nodes.items n)

-- each log has the entries that its file reads as, where the host tells that, and a crash leaves the file so
pub record PartsStand (parts : Parts) (reads : Option Files) (may_leave : Files → Type 0) : Type 0 where
  pub root : Stands parts.root reads may_leave
  pub chief : Stands parts.chief reads may_leave
  pub nodes : (n : ℕ) → n < length parts.nodes.items → IfSome (log_in parts.nodes.items n) (λ log. Stands log reads may_leave)

-- a host rests on contents but for this node's file: its files read as a store that is good but for it, and so does all that a crash may leave
abbrev pub RestsBut : ℕ → Contents → Option Files → (Files → Type 0) → Type 0
RestsBut node c = RestsAs (λ files. IsGoodBut node files c)

-- ---- on the way

-- of the first nodes what is read is loaded, and these are the logs
pub record AreOthersRead (last : LastLayout) (committed : Committed) (node : ℕ) (loaded : Loaded) (logs : List (Option LogState)) (count : ℕ) : Type 0 where
  pub are : IsLoaded (setting_of last) committed loaded
  pub nodes : length (nodes_of loaded) ≡ count
  pub as_many : length logs ≡ count
  pub each : (n : ℕ) → n < count → IsLogBut node n (file_of (setting_of last) n) (log_in logs n)

-- the files of the others hold these entries, and a crash leaves them as they read
pub record AreOthersHeld (files : Files) (may_leave : Files → Type 0) (last : LastLayout) (committed : Committed) (node : ℕ) (nodes : List (List Prepared)) (logs : List (Option LogState)) (count : ℕ) : Type 0 where
  pub each : (n : ℕ) → n < count → n ≢ node → HoldsEntries files last committed n (entries_at nodes n)
  pub opened : (n : ℕ) → n < count → IfSome (log_in logs n) (λ log. IsOpened log files may_leave)
