-- What is had of a store behind each of its files.
use Rattle.std.specs.Prelude.{◌≡◌, ℕ, ◌<◌, List, [], ◌∷◌, ◌++◌, length, Option, IfSome, slice_index_or}
use Rattle.coco_host.specs.Files.{Files}
use Rattle.coco_entry.specs.declared.layout.LayoutEntry.{LayoutEntry}
use Rattle.coco_entry.specs.declared.prepared.Prepared.{Prepared}
use Rattle.coco_log.specs.LogState.{IsFresh, IsOpened, LogState}
use Rattle.coco_rules.specs.Readying.{AreAmong}
use Rattle.coco_store.specs.Contents.{HoldsBase, HoldsCommits, HoldsLayouts, HoldsNode, chief_of, file_of}
use Rattle.coco_store.specs.Entries.{prepared_kind}
use Rattle.coco_store.specs.Rules.{EachBehind, IsNextPrepared, prepared_epochs}
use Rattle.coco_recover.specs.Bases.{entries_of}
use Rattle.coco_recover.specs.Layouts.{place_behind, setting_of}
use Rattle.coco_recover.specs.Nodes.{IsLoaded, entries_at, nodes_of}
use Rattle.coco_recover.specs.declared.base.BasePart.{BasePart}
use Rattle.coco_recover.specs.declared.commits.Committed.{Committed}
use Rattle.coco_recover.specs.declared.layouts.LastLayout.{LastLayout}
use Rattle.coco_recover.specs.declared.nodes.Loaded.{Loaded}

-- file 0 holds layouts, this one last, in its place
pub record HoldsLast (files : Files) (last : LastLayout) : Type 0 where
  pub earlier : List LayoutEntry
  pub holds : HoldsLayouts earlier (setting_of last) (files 0)
  pub place : last.place ≡ place_behind earlier

-- the layout's base file, if it has one, holds these entries
abbrev pub HoldsParts : Files → LastLayout → List BasePart → Type 0
HoldsParts files last parts = HoldsBase files (setting_of last) (entries_of parts) last.entry.base_file

-- a crash leaves it as it reads
abbrev pub IsLeft : Option ℕ → Files → (Files → Type 0) → Type 0
IsLeft file files may_leave = IfSome file (λ f. (image : Files) → may_leave image → image f ≡ files f)

-- the coordinator's file holds these commits
abbrev pub HoldsCommitted : Files → LastLayout → Committed → Type 0
HoldsCommitted files last committed = HoldsCommits (setting_of last) (entries_of committed.base.items) committed.commits.items (files (chief_of (setting_of last)))

-- the file of a node holds these entries
abbrev pub HoldsEntries : Files → LastLayout → Committed → ℕ → List Prepared → Type 0
HoldsEntries files last committed n entries = HoldsNode (setting_of last) committed.commits.items n entries (files (file_of (setting_of last) n))

-- ---- the nodes' files

-- the next node's entries keep their rules, and are loaded behind those before them
pub record IsRead (last : LastLayout) (committed : Committed) (n : ℕ) (old new : Loaded) (entries : List Prepared) : Type 0 where
  pub loaded : IsLoaded (setting_of last) committed new
  pub each : EachBehind (IsNextPrepared (setting_of last) n) [] entries
  pub more : nodes_of new ≡ nodes_of old ++ entries ∷ []

-- the entries of the first nodes keep their rules and are loaded, none lacks that of a committed epoch, and these are their logs
pub record AreRead (last : LastLayout) (committed : Committed) (loaded : Loaded) (logs : List LogState) (count : ℕ) : Type 0 where
  pub are : IsLoaded (setting_of last) committed loaded
  pub nodes : length (nodes_of loaded) ≡ count
  pub each : (n : ℕ) → n < count → EachBehind (IsNextPrepared (setting_of last) n) [] (entries_at (nodes_of loaded) n)
  pub whole : (n : ℕ) → n < count → AreAmong (prepared_epochs (entries_at (nodes_of loaded) n)) committed.epochs.items
  pub as_many : length logs ≡ count
  pub fresh : (other : LogState) (n : ℕ) → n < count → IsFresh (slice_index_or logs n other) (file_of (setting_of last) n) prepared_kind

-- their files hold these entries, and a crash leaves them as they read
pub record AreHeld (files : Files) (may_leave : Files → Type 0) (last : LastLayout) (committed : Committed) (nodes : List (List Prepared)) (logs : List LogState) (count : ℕ) : Type 0 where
  pub each : (n : ℕ) → n < count → HoldsEntries files last committed n (entries_at nodes n)
  pub opened : (other : LogState) (n : ℕ) → n < count → IsOpened (slice_index_or logs n other) files may_leave
