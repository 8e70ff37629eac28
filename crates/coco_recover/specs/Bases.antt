-- The rules of a base file, and what is remembered of its entries.
use Rattle.std.specs.Prelude.{◌≡◌, ℕ, ◌<◌, List, [], map, Option, IfSome}
use Rattle.std.specs.List.{flat_map}
use Rattle.coco_kept.specs.Keeping.{HoldsKept}
use Rattle.coco_load.specs.Tables.{HoldMap}
use Rattle.coco_read.specs.EntryRules.{EntryRules}
use Rattle.coco_rules.specs.Basing.{IsBehindBase}
use Rattle.coco_rules.specs.Behind.{IsBehind}
use Rattle.coco_rules.specs.declared.base.BaseRules.{BaseRules}
use Rattle.coco_rules.specs.declared.commits.HistoryRules.{HistoryRules}
use Rattle.coco_store.specs.Entries.{BaseEntry, Dones, Head, IsBaseEntry, Values, base_bytes}
use Rattle.coco_store.specs.Refusals.{BaseBreaks, base_behind}
use Rattle.coco_store.specs.Rules.{EachBehind, IsNextBase, IsWhole, Setting, base_of, base_values, floor_in, kept_dones}
use Rattle.coco_recover.specs.declared.base.BaseHistory.{BaseHistory}
use Rattle.coco_recover.specs.declared.base.Based.{Based}
use Rattle.coco_recover.specs.declared.base.BasePart.{BasePart}
use Rattle.coco_recover.specs.declared.base.BasePart.TheVariants as part
use Rattle.coco_recover.specs.declared.base.Gathered.{Gathered}

abbrev pub entry_of : BasePart → BaseEntry
entry_of (part.Head head) = Head head
entry_of (part.Dones dones) = Dones dones
entry_of (part.Rows rows) = Values rows

abbrev pub entries_of : List BasePart → List BaseEntry
entries_of = map entry_of

-- what the committed epochs stand under: the layout, the base, and of how many epochs the replies are kept
pub record Basis : Type 0 where
  pub setting : Setting
  pub base : List BaseEntry
  pub keep : Option ℕ

abbrev pub basis_of : Setting → BaseHistory → Basis
basis_of s history = record { setting = s; base = entries_of history.entries.items; keep = history.kept.keep }

-- a base whose entries keep their rules, as far as committed epochs go on from it
pub record IsHistoryOfBase (s : Setting) (history : BaseHistory) : Type 0 where
  pub each : EachBehind (IsNextBase s) [] (entries_of history.entries.items)
  pub rules : IsBehind s (entries_of history.entries.items) [] history.rules
  pub kept : HoldsKept history.kept (floor_in (entries_of history.entries.items)) (kept_dones (entries_of history.entries.items))

-- ---- the file

-- what its entries stand under: the layout, and of how many epochs the replies are kept
pub record BaseBasis : Type 0 where
  pub setting : Setting
  pub keep : Option ℕ

abbrev pub base_rules : Setting → EntryRules BaseEntry
base_rules s = record {
  bytes_of = base_bytes;
  Is = IsBaseEntry;
  read = base_behind;
  Breaks = BaseBreaks s;
  Lacks = λ entries. ¬ (IsWhole entries);
}

-- the replies of these entries are kept, their rows are loaded, and put aside
pub record IsGathered (s : Setting) (g : Gathered) : Type 0 where
  pub positive : IfSome g.keep (λ n. 0 < n)
  pub its_keep : g.kept.keep ≡ g.keep
  pub replies : HoldsKept g.kept (floor_in (entries_of g.entries.items)) (kept_dones (entries_of g.entries.items))
  pub maps : HoldMap s.entry.layout (base_of s (entries_of g.entries.items)).rows g.tables.shards.items g.tables.copies.items
  pub values : flat_map (λ rows. rows) g.rows.items ≡ base_values (entries_of g.entries.items)

-- and they keep their rules
pub record IsBasing (s : Setting) (history : BaseRules) (g : Gathered) : Type 0 where
  pub each : EachBehind (IsNextBase s) [] (entries_of g.entries.items)
  pub behind : IsBehindBase s (entries_of g.entries.items) history
  pub gathered : IsGathered s g

-- a base as it is handed on: committed epochs may go on from it, its rows are loaded, and put aside
pub record IsBased (s : Setting) (based : Based) : Type 0 where
  pub behind : IsHistoryOfBase s based.history
  pub maps : HoldMap s.entry.layout (base_of s (entries_of based.history.entries.items)).rows based.tables.shards.items based.tables.copies.items
  pub values : flat_map (λ rows. rows) based.rows.items ≡ base_values (entries_of based.history.entries.items)

-- the base of what was kept, with what decides about the committed epochs
abbrev pub based_of : HistoryRules → Gathered → Based
based_of rules g = record { history = record { rules = rules; kept = g.kept; entries = g.entries }; tables = g.tables; rows = g.rows }
