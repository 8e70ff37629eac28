-- What each entry of a store keeps, behind those that come before it in its file.
use Rattle.std.specs.Prelude.{◌≡◌, ⊤, ℕ, ◌<◌, ◌≤◌, Bool, true, false, nat_eq, List, [], ◌∷◌, ◌++◌, length, map, Option, None, Some}
use Rattle.std.specs.List.{AllByRecursion, filter, flat_map}
use Rattle.std.specs.Set.{is_member}
use Rattle.std.specs.FinMap.{empty}
use Rattle.std.specs.declared.cmp.Ordering.TheVariants.{Less}
use Rattle.coco_types.specs.Limits.{epochs_end, most_batch_lines, most_keep, most_kept, most_nodes, most_partitions, most_time}
use Rattle.coco_types.specs.RowKey.{RowKey, key_cmp, partition_of}
use Rattle.coco_types.specs.declared.call.Done.{Done}
use Rattle.coco_types.specs.declared.value.Value.{Value}
use Rattle.coco_ast.specs.Fitting.{Fits}
use Rattle.coco_ast.specs.History.{Base, AreAbove, IsBefore, ids_of}
use Rattle.coco_ast.specs.Keyed.{put_over}
use Rattle.coco_ast.specs.Tree.{Procedures}
use Rattle.coco_bytes.specs.Lists.{last_item}
use Rattle.coco_entry.specs.declared.base.TheConstants.{MOST_ITEMS}
use Rattle.coco_entry.specs.declared.commit.Commit.{Commit}
use Rattle.coco_entry.specs.declared.layout.LayoutEntry.{LayoutEntry}
use Rattle.coco_entry.specs.declared.prepared.Prepared.{Prepared}
use Rattle.coco_entry.specs.declared.prepared.Row.{Row}
use Rattle.coco_store.specs.Entries.{BaseEntry, Head, Dones, Values}
use Rattle.coco_store.specs.Placement.{IsHeldBy}

-- each item keeps a rule behind all that come before it
abbrev pub EachBehind : {A : Type 0} → (List A → A → Type 0) → List A → List A → Type 0
EachBehind Rule before [] = ⊤
EachBehind Rule before (x ∷ xs) = Rule before x × EachBehind Rule (before ++ x ∷ []) xs

-- what the entries of a store stand under: the layout that holds, and the tree of its text
pub record Setting : Type 0 where
  pub entry : LayoutEntry
  pub tree : Procedures

-- ---- layouts

abbrev pub IsKeep : Option ℕ → Type 0
IsKeep None = ⊤
IsKeep (Some keep) = (1 ≤ keep) × (keep ≤ most_keep)

pub record IsWithinLimits (entry : LayoutEntry) : Type 0 where
  pub nodes : (1 ≤ entry.layout.nodes) × (entry.layout.nodes ≤ most_nodes)
  pub partitions : (1 ≤ entry.layout.partitions) × (entry.layout.partitions ≤ most_partitions)
  pub copies : entry.layout.copies < entry.layout.nodes
  pub base_epoch : entry.layout.base_epoch < epochs_end
  pub keep : IsKeep entry.keep

-- ---- epochs

-- above the base's epoch and those before it in its file, and below the end of all epochs
pub record IsNextEpoch (base : ℕ) (before : List ℕ) (epoch : ℕ) : Type 0 where
  pub above_base : base < epoch
  pub rises : AllByRecursion (λ e. e < epoch) before
  pub below_end : epoch < epochs_end

-- ---- Dones

abbrev pub IsTime : Bool → ℕ → Type 0
IsTime true time = time ≡ 0
IsTime false time = (1 ≤ time) × (time ≤ most_time)

-- without a keep number all Dones are kept, and so there is an end to them
abbrev pub HasRoom : Option ℕ → List Done → Type 0
HasRoom None before = length before < most_kept
HasRoom (Some keep) before = ⊤

-- behind the Dones that come before it in the history
pub record IsNextDone (s : Setting) (before : List Done) (done : Done) : Type 0 where
  pub fits : Fits s.tree done.call
  pub time : IsTime done.call.snapshot done.time
  pub rises : AllByRecursion (λ d. IsBefore d done) before
  pub new : is_member nat_eq (ids_of before) done.id ≡ false
  pub few : length (filter (λ d. nat_eq d.epoch done.epoch) before) < most_batch_lines
  pub room : HasRoom s.entry.keep before

-- ---- rows

abbrev pub HasTable : Setting → RowKey → Type 0
HasTable s key = key.table < length s.tree.tables

-- ---- the base

-- the Dones that the base keeps
abbrev pub dones_of : BaseEntry → List Done
dones_of (Head head) = []
dones_of (Dones dones) = dones
dones_of (Values rows) = []

abbrev pub kept_dones : List BaseEntry → List Done
kept_dones = flat_map dones_of

-- the rows of its map
abbrev pub values_of : BaseEntry → List (RowKey × Value)
values_of (Head head) = []
values_of (Dones dones) = []
values_of (Values rows) = rows

abbrev pub base_values : List BaseEntry → List (RowKey × Value)
base_values = flat_map values_of

abbrev pub floor_in : List BaseEntry → Option ℕ
floor_in [] = None
floor_in (Head head ∷ entries) = head.floor
floor_in (Dones dones ∷ entries) = None
floor_in (Values rows ∷ entries) = None

-- a layout without a base file has its base epoch and nothing else
abbrev pub base_of : Setting → List BaseEntry → Base
base_of s entries = record {
  epoch = s.entry.layout.base_epoch;
  rows = put_over empty (map (λ r. record { key = r.0; value = Some r.1 }) (base_values entries));
  kept = kept_dones entries;
  floor = floor_in entries;
}

-- the head of the layout's base epoch comes first and once, then Dones, then rows, and each list but the last of its sort is full
abbrev pub MayFollow : ℕ → Option BaseEntry → BaseEntry → Type 0
MayFollow epoch None (Head head) = head.epoch ≡ epoch
MayFollow epoch None (Dones dones) = ⊥
MayFollow epoch None (Values rows) = ⊥
MayFollow epoch (Some before) (Head head) = ⊥
MayFollow epoch (Some (Head head)) (Dones dones) = ⊤
MayFollow epoch (Some (Dones before)) (Dones dones) = length before ≡ MOST_ITEMS
MayFollow epoch (Some (Values before)) (Dones dones) = ⊥
MayFollow epoch (Some (Head head)) (Values rows) = ⊤
MayFollow epoch (Some (Dones before)) (Values rows) = ⊤
MayFollow epoch (Some (Values before)) (Values rows) = length before ≡ MOST_ITEMS

pub record IsKeptDone (s : Setting) (before : List Done) (done : Done) : Type 0 where
  pub epoch : (1 ≤ done.epoch) × (done.epoch ≤ s.entry.layout.base_epoch)
  pub next : IsNextDone s before done

pub record IsNextValue (s : Setting) (before : List (RowKey × Value)) (row : RowKey × Value) : Type 0 where
  pub table : HasTable s row.0
  pub rises : AllByRecursion (λ r. key_cmp r.0 row.0 ≡ Less) before

-- an entry behind those before it, its Dones behind theirs and its rows behind theirs
pub record IsNextBase (s : Setting) (before : List BaseEntry) (entry : BaseEntry) : Type 0 where
  pub order : MayFollow s.entry.layout.base_epoch (last_item before) entry
  pub dones : EachBehind (IsKeptDone s) (kept_dones before) (dones_of entry)
  pub values : EachBehind (IsNextValue s) (base_values before) (values_of entry)

-- there is a head, and there are as many Dones and rows as it says
abbrev pub IsWhole : List BaseEntry → Type 0
IsWhole [] = ⊥
IsWhole (Head head ∷ entries) = (head.dones ≡ length (kept_dones entries)) × (head.rows ≡ length (base_values entries))
IsWhole (Dones dones ∷ entries) = ⊥
IsWhole (Values rows ∷ entries) = ⊥

pub record IsBase (s : Setting) (entries : List BaseEntry) : Type 0 where
  pub each : EachBehind (IsNextBase s) [] entries
  pub whole : IsWhole entries

-- ---- committed epochs

-- its id wasn't forgotten
pub record IsCommittedDone (s : Setting) (base : List BaseEntry) (before : List Done) (done : Done) : Type 0 where
  pub above : AreAbove (floor_in base) (done.id ∷ [])
  pub next : IsNextDone s before done

abbrev pub dones_in : List Commit → List Done
dones_in = flat_map (λ c. c.dones)

abbrev pub commit_epochs : List Commit → List ℕ
commit_epochs = map (λ c. c.epoch)

pub record IsNextCommit (s : Setting) (base : List BaseEntry) (before : List Commit) (commit : Commit) : Type 0 where
  pub epoch : IsNextEpoch s.entry.layout.base_epoch (commit_epochs before) commit.epoch
  pub dones : EachBehind (IsCommittedDone s base) (kept_dones base ++ dones_in before) commit.dones

-- ---- prepared epochs

pub record IsNodeRow (s : Setting) (n : ℕ) (row : Row) : Type 0 where
  pub held : IsHeldBy s.entry.layout (partition_of s.entry.layout.partitions row.key) n
  pub table : HasTable s row.key

abbrev pub prepared_epochs : List Prepared → List ℕ
prepared_epochs = map (λ e. e.epoch)

pub record IsNextPrepared (s : Setting) (n : ℕ) (before : List Prepared) (entry : Prepared) : Type 0 where
  pub epoch : IsNextEpoch s.entry.layout.base_epoch (prepared_epochs before) entry.epoch
  pub rows : AllByRecursion (IsNodeRow s n) entry.rows

-- each committed epoch has an entry
abbrev pub HavePrepared : List Prepared → List Commit → Type 0
HavePrepared entries = AllByRecursion (λ c. is_member nat_eq (prepared_epochs entries) c.epoch ≡ true)
