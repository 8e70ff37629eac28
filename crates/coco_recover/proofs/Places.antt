-- An entry that keeps its rules breaks none, and a place at which one is broken is one of its bytes, or their end.
use Rattle.std.proofs.Common.{◌≡◌, ℕ, ◌+◌, ◌*◌, ◌≤◌, List, [], ◌∷◌, ◌++◌, length, Option, None, Some, ap, subst, arith, length-append}
use Rattle.std.specs.List.{AllByRecursion, flat_map}
use Rattle.std.proofs.lemmas.List.Concat.{flat_map-append}
use Rattle.coco_ast.proofs.Lists.{all_right}
use Rattle.coco_ast.specs.Tree.{Procedures}
use Rattle.coco_bytes.specs.Fields.{u32_bytes, u64_bytes}
use Rattle.coco_bytes.specs.Lists.{last_item}
use Rattle.coco_entry.specs.declared.commit.Commit.{Commit}
use Rattle.coco_entry.specs.declared.layout.LayoutEntry.{LayoutEntry}
use Rattle.coco_entry.specs.declared.prepared.Prepared.{Prepared}
use Rattle.coco_entry.specs.declared.prepared.Row.{Row}
use Rattle.coco_entry.specs.Bases.{base_done_bytes, base_row_bytes}
use Rattle.coco_entry.specs.Calls.{done_bytes}
use Rattle.coco_entry.specs.Commits.{commit_bytes}
use Rattle.coco_entry.specs.Grammar.{bytes32}
use Rattle.coco_entry.specs.Layouts.{IsLayout, later_bytes, layout_bytes}
use Rattle.coco_entry.specs.Rows.{prepared_bytes, row_bytes}
use Rattle.coco_store.specs.Refusals.{BaseBreaks, CommitBreaks, ItemBreaks, LayoutBreaks, PreparedBreaks, order_place, bad_commit_epoch, bad_done, bad_kept_done, bad_order, bad_prepared_epoch, bad_row, bad_value, bad_nodes, bad_partitions, bad_copies, bad_base_epoch, bad_text, bad_keep}
use Rattle.coco_store.specs.Rules.{EachBehind, IsCommittedDone, IsKeptDone, IsNextBase, IsNextCommit, IsNextValue, IsNextPrepared, IsNodeRow, IsWithinLimits, Setting, base_values, dones_in, dones_of, kept_dones, values_of}
use Rattle.coco_store.specs.Entries.{BaseEntry, Dones, Head, Values, base_bytes}
use Rattle.coco_rules.proofs.JudgedLemmas.{each_at}
use Rattle.coco_store.specs.Texts.{IsAcceptedText}

-- ---- layouts

pub layout_keeps : (e : LayoutEntry) (tree : Procedures) → IsWithinLimits e → IsAcceptedText e.layout.text tree → (at : ℕ) → ¬ (LayoutBreaks e at)
layout_keeps e tree limits text at (bad_nodes broken) = broken limits.nodes
layout_keeps e tree limits text at (bad_partitions broken) = broken limits.partitions
layout_keeps e tree limits text at (bad_copies broken) = broken limits.copies
layout_keeps e tree limits text at (bad_base_epoch broken) = broken limits.base_epoch
layout_keeps e tree limits text at (bad_text broken) = broken tree text
layout_keeps e tree limits text at (bad_keep broken) = broken limits.keep

files_long : (files : List ℕ) → length (flat_map u32_bytes files) ≡ 4 * length files
files_long [] = omega arith
files_long (file ∷ files) = omega (arith, files_long files)

layout_long : (e : LayoutEntry) → IsLayout e → 21 + (4 * e.layout.nodes + length e.layout.text) ≤ length (layout_bytes e)
layout_long e is =
    let files = flat_map u32_bytes e.layout.node_files in
    let behind = u64_bytes e.layout.base_epoch ++ bytes32 e.layout.text in
    let later = later_bytes e.keep e.base_file in
    omega (
      arith,
      files_long e.layout.node_files,
      is.fields.count,
      length-append files behind,
      length-append (files ++ behind) later,
    )

pub layout_place : (e : LayoutEntry) (at : ℕ) → IsLayout e → LayoutBreaks e at → at ≤ length (layout_bytes e)
layout_place e at is (bad_nodes broken) = omega (arith, layout_long e is)
layout_place e at is (bad_partitions broken) = omega (arith, layout_long e is)
layout_place e at is (bad_copies broken) = omega (arith, layout_long e is)
layout_place e at is (bad_base_epoch broken) = omega (arith, layout_long e is)
layout_place e at is (bad_text broken) = omega (arith, layout_long e is)
layout_place e at is (bad_keep broken) = omega (arith, layout_long e is)

-- ---- items

kept_item : {A : Type 0} (Rule : List A → A → Type 0) (bytes_of : A → List ℕ) (before items : List A) (at : ℕ) → EachBehind Rule before items → ¬ (ItemBreaks Rule bytes_of before items at)
kept_item {A} Rule bytes_of before items at each b =
    b.broken (each_at Rule before b.ahead b.item b.behind (subst (λ (l : List A). EachBehind Rule before l) b.is each))

item_place : {A : Type 0} (Rule : List A → A → Type 0) (bytes_of : A → List ℕ) (before items : List A) (at : ℕ) → ItemBreaks Rule bytes_of before items at → at ≤ length (flat_map bytes_of items)
item_place {A} Rule bytes_of before items at b =
    omega (
      arith,
      b.here,
      ap (λ (l : List A). length (flat_map bytes_of l)) b.is,
      ap length (flat_map-append bytes_of b.ahead (b.item ∷ b.behind)),
      length-append (flat_map bytes_of b.ahead) (flat_map bytes_of (b.item ∷ b.behind)),
    )

-- ---- commits

pub commit_keeps : (s : Setting) (base : List BaseEntry) (before : List Commit) (e : Commit) → IsNextCommit s base before e → (at : ℕ) → ¬ (CommitBreaks s base before e at)
commit_keeps s base before e next at (bad_commit_epoch broken) = broken next.epoch
commit_keeps s base before e next at (bad_done {at = place} item) = kept_item (IsCommittedDone s base) done_bytes (kept_dones base ++ dones_in before) e.dones place next.dones item

pub commit_place : (s : Setting) (base : List BaseEntry) (before : List Commit) (e : Commit) (at : ℕ) → CommitBreaks s base before e at → at ≤ length (commit_bytes e)
commit_place s base before e at (bad_commit_epoch broken) = omega arith
commit_place s base before e at (bad_done {at = place} item) = omega (arith, item_place (IsCommittedDone s base) done_bytes (kept_dones base ++ dones_in before) e.dones place item)

-- ---- prepared entries

pub prepared_keeps : (s : Setting) (n : ℕ) (before : List Prepared) (e : Prepared) → IsNextPrepared s n before e → (at : ℕ) → ¬ (PreparedBreaks s n before e at)
prepared_keeps s n before e next at (bad_prepared_epoch broken) = broken next.epoch
prepared_keeps s n before e next at (bad_row item) =
    item.broken (all_right (IsNodeRow s n) item.ahead (item.item ∷ item.behind) (subst (λ (l : List Row). AllByRecursion (IsNodeRow s n) l) item.is next.rows)).0

pub prepared_place : (s : Setting) (n : ℕ) (before : List Prepared) (e : Prepared) (at : ℕ) → PreparedBreaks s n before e at → at ≤ length (prepared_bytes e)
prepared_place s n before e at (bad_prepared_epoch broken) = omega arith
prepared_place s n before e at (bad_row {at = place} item) = omega (arith, item_place (λ _. IsNodeRow s n) row_bytes [] e.rows place item)

-- ---- bases

pub base_keeps : (s : Setting) (before : List BaseEntry) (e : BaseEntry) → IsNextBase s before e → (at : ℕ) → ¬ (BaseBreaks s before e at)
base_keeps s before e next at (bad_order broken) = broken next.order
base_keeps s before e next at (bad_kept_done {at = place} item) = kept_item (IsKeptDone s) base_done_bytes (kept_dones before) (dones_of e) place next.dones item
base_keeps s before e next at (bad_value {at = place} item) = kept_item (IsNextValue s) base_row_bytes (base_values before) (values_of e) place next.values item

order_small : (o : Option BaseEntry) (e : BaseEntry) → order_place o e ≤ 1
order_small None (Head head) = omega arith
order_small None (Dones dones) = omega arith
order_small None (Values rows) = omega arith
order_small (Some before) e = omega arith

some_bytes : (e : BaseEntry) → 1 ≤ length (base_bytes e)
some_bytes (Head head) = omega arith
some_bytes (Dones dones) = omega arith
some_bytes (Values rows) = omega arith

dones_long : (e : BaseEntry) → 5 + length (flat_map base_done_bytes (dones_of e)) ≤ length (base_bytes e)
dones_long (Head head) = omega arith
dones_long (Dones dones) = omega arith
dones_long (Values rows) = omega arith

rows_long : (e : BaseEntry) → 5 + length (flat_map base_row_bytes (values_of e)) ≤ length (base_bytes e)
rows_long (Head head) = omega arith
rows_long (Dones dones) = omega arith
rows_long (Values rows) = omega arith

pub base_place : (s : Setting) (before : List BaseEntry) (e : BaseEntry) (at : ℕ) → BaseBreaks s before e at → at ≤ length (base_bytes e)
base_place s before e at (bad_order broken) = omega (arith, order_small (last_item before) e, some_bytes e)
base_place s before e at (bad_kept_done {at = place} item) = omega (arith, item_place (IsKeptDone s) base_done_bytes (kept_dones before) (dones_of e) place item, dones_long e)
base_place s before e at (bad_value {at = place} item) = omega (arith, item_place (IsNextValue s) base_row_bytes (base_values before) (values_of e) place item, rows_long e)
