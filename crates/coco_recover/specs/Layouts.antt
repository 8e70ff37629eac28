-- The rules of the layouts' file, and what is remembered of its entries.
use Rattle.std.specs.Prelude.{◌≡◌, ℕ, ◌+◌, ◌<◌, List, [], ◌∷◌, ◌++◌, Option, None, Some}
use Rattle.std.specs.List.{AllByRecursion}
use Rattle.coco_types.specs.Limits.{files_end}
use Rattle.coco_entry.specs.Layouts.{IsLayout, layout_bytes, layout_in}
use Rattle.coco_entry.specs.declared.layout.LayoutEntry.{LayoutEntry}
use Rattle.coco_read.specs.EntryRules.{EntryRules}
use Rattle.coco_store.specs.Contents.{IsGoodLayout}
use Rattle.coco_store.specs.Entries.{layouts_kind}
use Rattle.coco_store.specs.Refusals.{LayoutBreaks, gate_behind}
use Rattle.coco_store.specs.Rules.{IsWithinLimits, Setting}
use Rattle.coco_store.specs.Texts.{IsAcceptedText}
use Rattle.coco_recover.specs.declared.layouts.LastLayout.{LastLayout}

abbrev pub layout_rules : EntryRules LayoutEntry
layout_rules = record {
  bytes_of = layout_bytes;
  Is = IsLayout;
  read = λ before. layout_in;
  Breaks = λ before e. LayoutBreaks e;
  Lacks = λ entries. entries ≡ [];
}

-- where the gate behind these layouts stands in their file, and where the body of a layout behind them begins, which is behind its gate and its length
abbrev pub layouts_end : List LayoutEntry → ℕ
layouts_end entries = gate_behind layouts_kind layout_bytes entries

abbrev pub place_behind : List LayoutEntry → ℕ
place_behind earlier = layouts_end earlier + 5

-- a good layout, with its tree, in a file that isn't too long
pub record IsGoodLast (last : LastLayout) : Type 0 where
  pub is : IsLayout last.entry
  pub limits : IsWithinLimits last.entry
  pub tree : IsAcceptedText last.entry.layout.text last.procs
  pub early : last.place < files_end

-- the last of these layouts, in its place; all of them are good
pub record IsLastOf (entries : List LayoutEntry) (last : LastLayout) : Type 0 where
  pub earlier : List LayoutEntry
  pub are : entries ≡ earlier ++ last.entry ∷ []
  pub each : AllByRecursion IsGoodLayout earlier
  pub good : IsGoodLast last
  pub place : last.place ≡ place_behind earlier

abbrev pub EndWith : List LayoutEntry → Option LastLayout → Type 0
EndWith entries None = entries ≡ []
EndWith entries (Some last) = IsLastOf entries last

-- these layouts were read up to this gate
pub record IsLaidOut (entries : List LayoutEntry) (last : Option LastLayout) (gate : ℕ) : Type 0 where
  pub end : EndWith entries last
  pub gate_is : gate ≡ layouts_end entries
  pub early : gate < files_end

-- what it sets
abbrev pub setting_of : LastLayout → Setting
setting_of last = record { entry = last.entry; tree = last.procs }
