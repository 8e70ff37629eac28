-- A head, then lists of Dones, then lists of rows, all full but the last of its sort, are a base.
use Rattle.std.proofs.Common.{◌≡◌, ℕ, ◌≤◌, List, [], ◌∷◌, ◌++◌, length, map, Option, None, Some, refl, sym, ap, subst, ◌∙◌, append-nil}
use Rattle.std.specs.List.{flat_map}
use Rattle.std.proofs.lemmas.List.Concat.{flat_map-append}
use Rattle.coco_bytes.proofs.ListLemmas.{last_item-push}
use Rattle.coco_types.specs.RowKey.{RowKey}
use Rattle.coco_types.specs.declared.call.Done.{Done}
use Rattle.coco_types.specs.declared.value.Value.{Value}
use Rattle.coco_bytes.specs.Lists.{last_item}
use Rattle.coco_entry.specs.declared.base.BaseHead.{BaseHead}
use Rattle.coco_entry.specs.declared.base.TheConstants.{MOST_ITEMS}
use Rattle.coco_store.specs.Entries.{BaseEntry, Dones, Head, Values}
use Rattle.coco_store.specs.Rules.{EachBehind, IsBase, IsKeptDone, IsNextBase, IsNextValue, MayFollow, Setting, base_values, dones_of, kept_dones, values_of}
use Rattle.coco_recover.proofs.Basing.{more_kept, more_values}
use Rattle.coco_ckpt.specs.Compacting.{AreCut, AreFullButLast}
use Rattle.coco_ckpt.proofs.Filtering.{each_append, each_split}

abbrev Row : Type 0
Row = RowKey × Value

abbrev joined : {A : Type 0} → List (List A) → List A
joined = flat_map (λ xs. xs)

-- ---- the items of entries

no_dones : (lists : List (List Row)) → kept_dones (map Values lists) ≡ []
no_dones [] = refl
no_dones (xs ∷ lists) = no_dones lists

no_values : (lists : List (List Done)) → base_values (map Dones lists) ≡ []
no_values [] = refl
no_values (xs ∷ lists) = no_values lists

its_dones : (lists : List (List Done)) → kept_dones (map Dones lists) ≡ joined lists
its_dones [] = refl
its_dones (xs ∷ lists) = ap (λ (l : List Done). xs ++ l) (its_dones lists)

its_values : (lists : List (List Row)) → base_values (map Values lists) ≡ joined lists
its_values [] = refl
its_values (xs ∷ lists) = ap (λ (l : List Row). xs ++ l) (its_values lists)

pub all_dones_in : (dones : List (List Done)) (rows : List (List Row)) → kept_dones (map Dones dones ++ map Values rows) ≡ joined dones
all_dones_in dones rows =
    flat_map-append dones_of (map Dones dones) (map Values rows) ∙ ap (λ (l : List Done). kept_dones (map Dones dones) ++ l) (no_dones rows) ∙ append-nil (kept_dones (map Dones dones)) ∙ its_dones dones

pub all_values_in : (dones : List (List Done)) (rows : List (List Row)) → base_values (map Dones dones ++ map Values rows) ≡ joined rows
all_values_in dones rows =
    flat_map-append values_of (map Dones dones) (map Values rows) ∙ ap (λ (l : List Row). l ++ base_values (map Values rows)) (no_values dones) ∙ its_values rows

-- ---- their order

module _ (s : Setting) where
  abbrev epoch : ℕ
  epoch = s.entry.layout.base_epoch

  dones_each : (before : List BaseEntry) (last : BaseEntry) → last_item before ≡ Some last → ((xs : List Done) → MayFollow epoch (Some last) (Dones xs)) → (lists : List (List Done)) → AreFullButLast MOST_ITEMS lists
      → EachBehind (IsKeptDone s) (kept_dones before) (joined lists) → EachBehind (IsNextBase s) before (map Dones lists)
  dones_each before last is may [] full each = tt
  dones_each before last is may (xs ∷ []) full each =
      (record { order = subst (λ (o : Option BaseEntry). MayFollow epoch o (Dones xs)) (sym is) (may xs); dones = (each_split (IsKeptDone s) (kept_dones before) xs [] each).0; values = tt }, tt)
  dones_each before last is may (xs ∷ ys ∷ lists) full each =
      let parts = each_split (IsKeptDone s) (kept_dones before) xs (joined (ys ∷ lists)) each in (
        record { order = subst (λ (o : Option BaseEntry). MayFollow epoch o (Dones xs)) (sym is) (may xs); dones = parts.0; values = tt },
        dones_each (before ++ Dones xs ∷ []) (Dones xs) (last_item-push before (Dones xs)) (λ zs. full.0) (ys ∷ lists) full.1
            (subst (λ (l : List Done). EachBehind (IsKeptDone s) l (joined (ys ∷ lists))) (sym (more_kept before (Dones xs))) parts.1),
      )

  values_each : (before : List BaseEntry) (last : BaseEntry) → last_item before ≡ Some last → ((xs : List Row) → MayFollow epoch (Some last) (Values xs)) → (lists : List (List Row)) → AreFullButLast MOST_ITEMS lists
      → EachBehind (IsNextValue s) (base_values before) (joined lists) → EachBehind (IsNextBase s) before (map Values lists)
  values_each before last is may [] full each = tt
  values_each before last is may (xs ∷ []) full each =
      (record { order = subst (λ (o : Option BaseEntry). MayFollow epoch o (Values xs)) (sym is) (may xs); dones = tt; values = (each_split (IsNextValue s) (base_values before) xs [] each).0 }, tt)
  values_each before last is may (xs ∷ ys ∷ lists) full each =
      let parts = each_split (IsNextValue s) (base_values before) xs (joined (ys ∷ lists)) each in (
        record { order = subst (λ (o : Option BaseEntry). MayFollow epoch o (Values xs)) (sym is) (may xs); dones = tt; values = parts.0 },
        values_each (before ++ Values xs ∷ []) (Values xs) (last_item-push before (Values xs)) (λ zs. full.0) (ys ∷ lists) full.1
            (subst (λ (l : List Row). EachBehind (IsNextValue s) l (joined (ys ∷ lists))) (sym (more_values before (Values xs))) parts.1),
      )

  -- behind a head, or lists of Dones, rows may follow
  rows_follow : (first : BaseEntry) → ((xs : List Row) → MayFollow epoch (Some first) (Values xs)) → (lists : List (List Done))
      → (last : BaseEntry) × (last_item (first ∷ map Dones lists) ≡ Some last) × ((xs : List Row) → MayFollow epoch (Some last) (Values xs))
  rows_follow first may [] = (first, refl, may)
  rows_follow first may (xs ∷ lists) = rows_follow (Dones xs) (λ zs. tt) lists

  module _ (head : BaseHead) (dones : List Done) (rows : List Row) (dones_lists : List (List Done)) (rows_lists : List (List Row))
      (at : head.epoch ≡ epoch) (dones_count : head.dones ≡ length dones) (rows_count : head.rows ≡ length rows)
      (dones_cut : AreCut MOST_ITEMS dones dones_lists) (rows_cut : AreCut MOST_ITEMS rows rows_lists) where
    abbrev entries : List BaseEntry
    entries = Head head ∷ map Dones dones_lists ++ map Values rows_lists

    pub is_base : EachBehind (IsKeptDone s) [] dones → EachBehind (IsNextValue s) [] rows → IsBase s entries
    is_base each_done each_row =
        let first : IsNextBase s [] (Head head) = record { order = at; dones = tt; values = tt } in
        let of_dones = dones_each (Head head ∷ []) (Head head) refl (λ xs. tt) dones_lists dones_cut.full (subst (EachBehind (IsKeptDone s) []) (sym dones_cut.joined) each_done) in
        let last = rows_follow (Head head) (λ xs. tt) dones_lists in
        let none : base_values (Head head ∷ map Dones dones_lists) ≡ [] = no_values dones_lists in
        let of_rows = values_each (Head head ∷ map Dones dones_lists) last.0 last.1 last.2 rows_lists rows_cut.full
        (subst (λ (l : List Row). EachBehind (IsNextValue s) l (joined rows_lists)) (sym none) (subst (EachBehind (IsNextValue s) []) (sym rows_cut.joined) each_row)) in
        record {
          each = (first, each_append (IsNextBase s) (Head head ∷ []) (map Dones dones_lists) (map Values rows_lists) of_dones of_rows);
          whole = (dones_count ∙ ap length (sym (all_dones_in dones_lists rows_lists ∙ dones_cut.joined)), rows_count ∙ ap length (sym (all_values_in dones_lists rows_lists ∙ rows_cut.joined)));
        }
