-- What is kept of a base, with one entry more.
use Rattle.std.proofs.Common.{◌≡◌, ℕ, ◌<◌, List, [], ◌∷◌, ◌++◌, Option, refl, sym, ap, ◌∙◌, append-nil}
use Rattle.std.specs.Prelude.{IfSome}
use Rattle.std.specs.List.{flat_map}
use Rattle.std.proofs.lemmas.List.{map-append}
use Rattle.std.proofs.lemmas.List.Concat.{flat_map-append}
use Rattle.coco_types.specs.RowKey.{RowKey}
use Rattle.coco_types.specs.declared.call.Done.{Done}
use Rattle.coco_types.specs.declared.value.Value.{Value}
use Rattle.coco_ast.specs.Keyed.{put_over}
use Rattle.coco_bytes.specs.Lists.{last_item}
use Rattle.coco_entry.specs.declared.base.BaseHead.{BaseHead}
use Rattle.coco_kept.specs.Holding.{NeverFall}
use Rattle.coco_kept.specs.Keeping.{HoldsKept, Keeping}
use Rattle.coco_load.specs.Reading.{puts}
use Rattle.coco_load.specs.Tables.{HoldMap}
use Rattle.coco_load.proofs.Following.{base_grows}
use Rattle.coco_rules.specs.Behind.{IsBehind}
use Rattle.coco_rules.specs.declared.commits.HistoryRules.{HistoryRules}
use Rattle.coco_store.specs.Entries.{BaseEntry, Dones, Head, Values}
use Rattle.coco_store.specs.Rules.{MayFollow, Setting, base_of, base_values, dones_of, floor_in, kept_dones, values_of}
use Rattle.coco_recover.specs.Bases.{IsBased, IsGathered, based_of, entries_of, entry_of}
use Rattle.coco_recover.specs.declared.base.BasePart.{BasePart}
use Rattle.coco_recover.specs.declared.base.Gathered.{Gathered}

-- ---- the floor

-- a head comes first
head_is_first : (epoch : ℕ) (before : List BaseEntry) (head : BaseHead) → MayFollow epoch (last_item before) (Head head) → before ≡ []
head_is_first epoch [] head may = refl
head_is_first epoch (x ∷ xs) head may = absurd (later x xs may)
  where
    later : (x : BaseEntry) (xs : List BaseEntry) → MayFollow epoch (last_item (x ∷ xs)) (Head head) → ⊥
    later x [] may = may
    later x (y ∷ xs) may = later y xs may

-- the floor is the head's
pub head_floor : (k : Keeping) (epoch : ℕ) (before : List BaseEntry) (head : BaseHead) → MayFollow epoch (last_item before) (Head head) → HoldsKept k head.floor []
    → HoldsKept k (floor_in (before ++ Head head ∷ [])) (kept_dones (before ++ Head head ∷ []))
head_floor k epoch before head may held = rw (head_is_first epoch before head may) held

pub dones_floor : (epoch : ℕ) (before : List BaseEntry) (dones : List Done) → MayFollow epoch (last_item before) (Dones dones) → floor_in (before ++ Dones dones ∷ []) ≡ floor_in before
dones_floor epoch [] dones may = absurd may
dones_floor epoch (Head head ∷ es) dones may = refl
dones_floor epoch (Dones others ∷ es) dones may = refl
dones_floor epoch (Values rows ∷ es) dones may = refl

pub rows_floor : (epoch : ℕ) (before : List BaseEntry) (rows : List (RowKey × Value)) → MayFollow epoch (last_item before) (Values rows) → floor_in (before ++ Values rows ∷ []) ≡ floor_in before
rows_floor epoch [] rows may = absurd may
rows_floor epoch (Head head ∷ es) rows may = refl
rows_floor epoch (Dones dones ∷ es) rows may = refl
rows_floor epoch (Values others ∷ es) rows may = refl

-- ---- Dones and rows

pub more_kept : (before : List BaseEntry) (e : BaseEntry) → kept_dones (before ++ e ∷ []) ≡ kept_dones before ++ dones_of e
more_kept before e = flat_map-append dones_of before (e ∷ []) ∙ ap (λ (l : List Done). kept_dones before ++ l) (append-nil (dones_of e))

pub more_values : (before : List BaseEntry) (e : BaseEntry) → base_values (before ++ e ∷ []) ≡ base_values before ++ values_of e
more_values before e = flat_map-append values_of before (e ∷ []) ∙ ap (λ (l : List (RowKey × Value)). base_values before ++ l) (append-nil (values_of e))

pub more_entries : (before : List BasePart) (part : BasePart) → entries_of (before ++ part ∷ []) ≡ entries_of before ++ entry_of part ∷ []
more_entries before part = map-append entry_of before (part ∷ [])

-- the replies of Dones behind those before them
pub dones_kept : (old new : Keeping) (epoch : ℕ) (before : List BaseEntry) (dones : List Done) → MayFollow epoch (last_item before) (Dones dones)
    → ((floor : Option ℕ) (added : List Done) → HoldsKept old floor added → NeverFall (added ++ dones) → HoldsKept new floor (added ++ dones))
    → NeverFall (kept_dones before ++ dones) → HoldsKept old (floor_in before) (kept_dones before) → HoldsKept new (floor_in (before ++ Dones dones ∷ [])) (kept_dones (before ++ Dones dones ∷ []))
dones_kept old new epoch before dones may keep rising held = rw (dones_floor epoch before dones may, more_kept before (Dones dones)) (keep (floor_in before) (kept_dones before) held rising)

-- rows have none
pub rows_kept : (k : Keeping) (epoch : ℕ) (before : List BaseEntry) (rows : List (RowKey × Value)) → MayFollow epoch (last_item before) (Values rows)
    → HoldsKept k (floor_in before) (kept_dones before) → HoldsKept k (floor_in (before ++ Values rows ∷ [])) (kept_dones (before ++ Values rows ∷ []))
rows_kept k epoch before rows may held = rw (rows_floor epoch before rows may, more_kept before (Values rows), append-nil (kept_dones before)) held

-- ---- all

module _ (s : Setting) (old new : Gathered) (part : BasePart) (are : new.entries.items ≡ old.entries.items ++ part ∷ []) where
  abbrev before : List BaseEntry
  before = entries_of old.entries.items

  abbrev after : List BaseEntry
  after = before ++ entry_of part ∷ []

  longer : entries_of new.entries.items ≡ after
  longer = ap entries_of are ∙ more_entries old.entries.items part

  pub is_gathered : IfSome new.keep (λ n. 0 < n) → new.kept.keep ≡ new.keep → HoldsKept new.kept (floor_in after) (kept_dones after)
      → HoldMap s.entry.layout (put_over (base_of s before).rows (puts (values_of (entry_of part)))) new.tables.shards.items new.tables.copies.items
      → flat_map (λ (rows : List (RowKey × Value)). rows) new.rows.items ≡ base_values before ++ values_of (entry_of part)
      → IsGathered s new
  is_gathered some keep kept maps values = record {
    positive = some;
    its_keep = keep;
    replies = rw longer kept;
    maps = rw (longer, base_grows s before (entry_of part)) maps;
    values = values ∙ sym (more_values before (entry_of part)) ∙ ap base_values (sym longer);
  }

  -- an entry without rows
  pub is_gathered_so : values_of (entry_of part) ≡ [] → IsGathered s old → new.tables ≡ old.tables → new.rows ≡ old.rows → new.keep ≡ old.keep → new.kept.keep ≡ old.keep
      → HoldsKept new.kept (floor_in after) (kept_dones after) → IsGathered s new
  is_gathered_so none was tables rows keep its_keep kept =
      is_gathered (rw keep was.positive) (its_keep ∙ sym keep) kept (rw (none, tables) was.maps) (rw (none, rows) (was.values ∙ sym (append-nil (base_values before))))

-- a list more of rows that were put aside
pub more_rows : (all : List (List (RowKey × Value))) (rows : List (RowKey × Value)) → flat_map (λ (xs : List (RowKey × Value)). xs) (all ++ rows ∷ []) ≡ flat_map (λ (xs : List (RowKey × Value)). xs) all ++ rows
more_rows all rows = flat_map-append (λ (xs : List (RowKey × Value)). xs) all (rows ∷ []) ∙ ap (λ (l : List (RowKey × Value)). flat_map (λ (xs : List (RowKey × Value)). xs) all ++ l) (append-nil rows)

-- ---- no base file

pub based_on_none : (s : Setting) (g : Gathered) (history : HistoryRules) → IsGathered s g → g.entries.items ≡ [] → IsBehind s [] [] history
    → IsBased s (based_of history g)
based_on_none s g history gathered none behind =
    let no_entries : entries_of g.entries.items ≡ [] = ap entries_of none in
    record {
      behind = record { each = rw no_entries tt; rules = rw no_entries behind; kept = gathered.replies };
      maps = gathered.maps;
      values = gathered.values;
    }
