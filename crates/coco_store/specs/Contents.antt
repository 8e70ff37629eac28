-- What a store's files hold, with their history and their rows, and what makes them a good store.
use Rattle.std.specs.Prelude.{◌≡◌, ℕ, ◌<◌, nat_eq, List, [], ◌∷◌, ◌++◌, map, slice_index, Option, None, Some}
use Rattle.std.specs.List.{AllByRecursion, filter, flat_map}
use Rattle.std.specs.Set.{is_member}
use Rattle.coco_types.specs.RowKey.{partition_of}
use Rattle.coco_types.specs.declared.call.Write.{Write}
use Rattle.coco_host.specs.Files.{Files}
use Rattle.coco_ast.specs.History.{Epoch, History, IsOrdered, IsSerial, map_of}
use Rattle.coco_ast.specs.Keyed.{Rows, on_partition, put_over}
use Rattle.coco_ast.specs.Tree.{Procedures}
use Rattle.coco_entry.specs.declared.commit.Commit.{Commit}
use Rattle.coco_entry.specs.declared.layout.LayoutEntry.{LayoutEntry}
use Rattle.coco_entry.specs.declared.prepared.Prepared.{Prepared}
use Rattle.coco_entry.specs.declared.prepared.Row.{Row}
use Rattle.coco_store.specs.Entries.{BaseEntry, AreBase, AreCommits, AreLayouts, ArePrepared}
use Rattle.coco_store.specs.Placement.{IsHeldBy}
use Rattle.coco_store.specs.Rules.{EachBehind, HavePrepared, IsBase, IsNextCommit, IsNextPrepared, IsWithinLimits, Setting, base_of, commit_epochs}
use Rattle.coco_store.specs.Texts.{IsAcceptedText}

-- what a store's files hold: the layouts before the last one, what the last one sets, the entries of its base, the committed epochs, and what each node prepared
pub record Contents : Type 0 where
  pub earlier : List LayoutEntry
  pub setting : Setting
  pub base : List BaseEntry
  pub commits : List Commit
  pub prepared : ℕ → List Prepared

-- ---- no refusal

pub record IsGoodLayout (entry : LayoutEntry) : Type 0 where
  pub limits : IsWithinLimits entry
  pub tree : Procedures
  pub accepted : IsAcceptedText entry.layout.text tree

pub record HoldsLayouts (earlier : List LayoutEntry) (s : Setting) (file : List ℕ) : Type 0 where
  pub are : AreLayouts (earlier ++ s.entry ∷ []) file
  pub each : AllByRecursion IsGoodLayout earlier
  pub limits : IsWithinLimits s.entry
  pub tree : IsAcceptedText s.entry.layout.text s.tree

abbrev pub HoldsBase : Files → Setting → List BaseEntry → Option ℕ → Type 0
HoldsBase files s entries None = entries ≡ []
HoldsBase files s entries (Some file) = AreBase entries (files file) × IsBase s entries

pub record HoldsCommits (s : Setting) (base : List BaseEntry) (commits : List Commit) (file : List ℕ) : Type 0 where
  pub are : AreCommits commits file
  pub each : EachBehind (IsNextCommit s base) [] commits

pub record HoldsNode (s : Setting) (commits : List Commit) (n : ℕ) (entries : List Prepared) (file : List ℕ) : Type 0 where
  pub are : ArePrepared entries file
  pub each : EachBehind (IsNextPrepared s n) [] entries
  pub committed : HavePrepared entries commits

abbrev pub chief_of : Setting → ℕ
chief_of s = s.entry.layout.chief_file

abbrev pub file_of : Setting → ℕ → ℕ
file_of s n = slice_index s.entry.layout.node_files n

-- all but the nodes' files holds these contents, and nothing in it is refused
pub record HoldsHistory (files : Files) (c : Contents) : Type 0 where
  pub layouts : HoldsLayouts c.earlier c.setting (files 0)
  pub base : HoldsBase files c.setting c.base c.setting.entry.base_file
  pub commits : HoldsCommits c.setting c.base c.commits (files (chief_of c.setting))

-- a store is in the files, with these contents: nothing in them is refused
pub record Holds (files : Files) (c : Contents) : Type 0 where
  pub history : HoldsHistory files c
  pub nodes : (n : ℕ) → n < c.setting.entry.layout.nodes → HoldsNode c.setting c.commits n (c.prepared n) (files (file_of c.setting n))

-- ---- history and rows

abbrev pub epoch_of : Commit → Epoch
epoch_of commit = record { number = commit.epoch; dones = commit.dones }

-- the base of the last layout, the committed epochs, and the keep number
abbrev pub history_of : Contents → History
history_of c = record { base = base_of c.setting c.base; epochs = map epoch_of c.commits; keep = c.setting.entry.keep }

-- what an entry writes in a partition
abbrev pub writes_on : Setting → ℕ → List Row → List Write
writes_on s p rows = map (λ r. record { key = r.key; value = r.value }) (filter (λ r. nat_eq (partition_of s.entry.layout.partitions r.key) p) rows)

-- what the entries of these epochs write there, in order
abbrev pub committed_writes : Setting → ℕ → List ℕ → List Prepared → List Write
committed_writes s p epochs entries = flat_map (λ e. writes_on s p e.rows) (filter (λ e. is_member nat_eq epochs e.epoch) entries)

abbrev pub on : Setting → ℕ → Rows → Rows
on s p rows = on_partition s.entry.layout.partitions p rows

-- a partition's rows by the file of a node: what the node prepared for committed epochs, over the base
abbrev pub rows_of : Contents → ℕ → ℕ → Rows
rows_of c n p = put_over (on c.setting p (base_of c.setting c.base).rows) (committed_writes c.setting p (commit_epochs c.commits) (c.prepared n))

-- the map of the history
abbrev pub map_in : Contents → Rows
map_in c = map_of c.setting.tree (history_of c)

-- ---- good stores

-- every node has the history's rows in each partition that it holds
abbrev pub HaveRows : Contents → Type 0
HaveRows c = (n p : ℕ) → n < c.setting.entry.layout.nodes → p < c.setting.entry.layout.partitions → IsHeldBy c.setting.entry.layout p n
    → rows_of c n p ≡ on c.setting p (map_in c)

pub record IsGoodStore (files : Files) (c : Contents) : Type 0 where
  pub holds : Holds files c
  pub ordered : IsOrdered (history_of c)
  pub serial : IsSerial c.setting.tree (history_of c)
  pub rows : HaveRows c
