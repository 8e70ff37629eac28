-- The entries that a store's files are logs of.
use Rattle.std.specs.Prelude.{ℕ, List, ◌++◌, map}
use Rattle.std.specs.List.{AllByRecursion}
use Rattle.std.specs.Option.{option_to_list}
use Rattle.coco_types.specs.RowKey.{RowKey}
use Rattle.coco_types.specs.declared.call.Done.{Done}
use Rattle.coco_types.specs.declared.value.Value.{Value}
use Rattle.coco_entry.specs.declared.base.BaseHead.{BaseHead}
use Rattle.coco_entry.specs.declared.commit.Commit.{Commit}
use Rattle.coco_entry.specs.declared.layout.LayoutEntry.{LayoutEntry}
use Rattle.coco_entry.specs.declared.prepared.Prepared.{Prepared}
use Rattle.coco_entry.specs.Bases.{head_bytes, IsHead, base_dones_bytes, AreBaseDones, base_rows_bytes, AreBaseRows}
use Rattle.coco_entry.specs.Commits.{commit_bytes, IsCommit}
use Rattle.coco_entry.specs.Layouts.{layout_bytes, IsLayout, named_by}
use Rattle.coco_entry.specs.Rows.{prepared_bytes, IsPrepared}
use Rattle.coco_log.specs.Grammar.{IsLog}
use Rattle.coco_store.specs.declared.kinds.TheConstants.{LAYOUTS, COMMITS, PREPARED, BASE}

-- an entry of a base file: its head, some of the Dones that are kept, or some of the rows
pub data BaseEntry : Type 0 where
  Head : BaseHead → BaseEntry
  Dones : List Done → BaseEntry
  Values : List (RowKey × Value) → BaseEntry

abbrev pub base_bytes : BaseEntry → List ℕ
base_bytes (Head head) = head_bytes head
base_bytes (Dones dones) = base_dones_bytes dones
base_bytes (Values rows) = base_rows_bytes rows

abbrev pub IsBaseEntry : BaseEntry → Type 0
IsBaseEntry (Head head) = IsHead head
IsBaseEntry (Dones dones) = AreBaseDones dones
IsBaseEntry (Values rows) = AreBaseRows rows

-- the file of the layouts
abbrev pub layouts_file : ℕ
layouts_file = 0

-- a file is the log of these entries, and of no others
pub record IsLogOf {E : Type 0} (kind : ℕ) (bytes_of : E → List ℕ) (Is : E → Type 0) (entries : List E) (file : List ℕ) : Type 0 where
  pub log : IsLog kind (map bytes_of entries) file
  pub are : AllByRecursion Is entries

-- the kinds of logs, as the code has them
abbrev pub layouts_kind : ℕ
layouts_kind = LAYOUTS

abbrev pub commits_kind : ℕ
commits_kind = COMMITS

abbrev pub prepared_kind : ℕ
prepared_kind = PREPARED

abbrev pub base_kind : ℕ
base_kind = BASE

abbrev pub AreLayouts : List LayoutEntry → List ℕ → Type 0
AreLayouts = IsLogOf layouts_kind layout_bytes IsLayout

abbrev pub AreCommits : List Commit → List ℕ → Type 0
AreCommits = IsLogOf commits_kind commit_bytes IsCommit

abbrev pub ArePrepared : List Prepared → List ℕ → Type 0
ArePrepared = IsLogOf prepared_kind prepared_bytes IsPrepared

abbrev pub AreBase : List BaseEntry → List ℕ → Type 0
AreBase = IsLogOf base_kind base_bytes IsBaseEntry

-- the files that a layout entry names, its own first
abbrev pub files_of : LayoutEntry → List ℕ
files_of entry = named_by entry.layout ++ option_to_list entry.base_file
