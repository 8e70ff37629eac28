-- What a good store is compacted to is contents to switch to.
use Rattle.std.proofs.Common.{◌≡◌, ℕ, ◌+◌, ◌<◌, List, [], ◌∷◌, ◌++◌, length, map, Option, None, Some, refl, sym, ap, subst, ◌∙◌, append-nil, ◌≤◌}
use Rattle.std.specs.List.{AllByRecursion, IsDistinct}
use Rattle.std.specs.Prelude.{nat_eq}
use Rattle.std.specs.FinMap.{empty, entries}
use Rattle.coco_types.specs.RowKey.{RowKey}
use Rattle.coco_types.specs.declared.call.Done.{Done}
use Rattle.coco_types.specs.declared.value.Value.{Value}
use Rattle.coco_host.specs.Files.{Files}
use Rattle.coco_ast.specs.History.{AreAbove, Base, History, IsOrdered, IsSerial, all_dones, compacted, epoch_dones, floor, ids_of, is_held, kept}
use Rattle.coco_ast.specs.Keyed.{Rows, put_over}
use Rattle.coco_ast.specs.Tree.{Procedures}
use Rattle.coco_ast.proofs.Lists.{all_left}
use Rattle.coco_append.specs.Tables.{WritesDeclaredTables}
use Rattle.coco_entry.specs.declared.base.BaseHead.{BaseHead}
use Rattle.coco_entry.specs.declared.layout.Layout.{Layout}
use Rattle.coco_entry.specs.declared.layout.LayoutEntry.{LayoutEntry}
use Rattle.coco_entry.specs.Layouts.{IsLayout}
use Rattle.coco_load.specs.Epochs.{IsNextOf}
use Rattle.coco_store.specs.Contents.{Contents, IsGoodStore, history_of, map_in}
use Rattle.coco_store.specs.Entries.{BaseEntry, Dones, Head, Values}
use Rattle.coco_store.specs.Rules.{EachBehind, HasTable, IsKeptDone, IsNextValue, IsWithinLimits, Setting, base_of, base_values, commit_epochs, kept_dones}
use Rattle.coco_store.specs.Switching.{Switches}
use Rattle.coco_ckpt.specs.Compacting.{AreCut, IsBaseWith, IsCompactBase, IsCompactLayout, compacted_with}
use Rattle.coco_ckpt.specs.Laws.{CompactedIsGood, IsCompactedFrom}
use Rattle.coco_ckpt.proofs.BaseEntries.{all_dones_in, all_values_in, is_base}
use Rattle.coco_ckpt.proofs.Filtering.{once_still}
use Rattle.coco_ckpt.proofs.KeptRules.{all_next, all_within, base_each, kept_next}
use Rattle.coco_ckpt.proofs.MapRows.{map_declared, rows_again, rows_next}

nothing_above : (n : Option ℕ) → AreAbove n []
nothing_above None = tt
nothing_above (Some n) = tt

module _ (writes : (own : Procedures) → WritesDeclaredTables own) (files : Files) (c : Contents) (epoch : ℕ) (entry : LayoutEntry) (good : IsGoodStore files c) (next : IsNextOf c (epoch + 1))
    (is : IsLayout entry) (limits : IsWithinLimits entry) (layout : IsCompactLayout epoch c.setting.entry entry) where
  abbrev h : History
  h = history_of c

  abbrev s : Setting
  s = c.setting

  abbrev t : Setting
  t = record { entry = entry; tree = c.setting.tree }

  base_epoch : entry.layout.base_epoch ≡ epoch
  base_epoch = ap (λ (l : Layout). l.base_epoch) layout.layout

  text : entry.layout.text ≡ s.entry.layout.text
  text = ap (λ (l : Layout). l.text) layout.layout

  -- ---- the items keep their rules

  each_done : EachBehind (IsKeptDone t) [] (kept h)
  each_done =
      let holds = good.holds.history in
      let of_base = base_each files s c.base s.entry.base_file holds.base in
      let below = all_left (λ (e : ℕ). e < epoch + 1) (s.entry.layout.base_epoch ∷ commit_epochs c.commits) _ next.above in
      let within = all_within s epoch below.0 c.base c.commits of_base holds.commits.each below.1 good.ordered.numbered in
      kept_next s t refl layout.keep (is_held h.keep (all_dones h)) (all_dones h) (all_next s c.base c.commits of_base holds.commits.each)
      (subst (λ (n : ℕ). AllByRecursion (λ (d : Done). (1 ≤ d.epoch) × (d.epoch ≤ n)) (all_dones h)) (sym base_epoch) within)

  each_row : EachBehind (IsNextValue t) [] (entries (map_in c))
  each_row =
      let holds = good.holds.history in
      let accepted = holds.layouts.tree in
      rows_next t (map_in c) (map_declared s writes accepted.own accepted.sound accepted.whole c.base (epoch_dones h) (base_each files s c.base s.entry.base_file holds.base))

  module _ (dones_lists : List (List Done)) (rows_lists : List (List (RowKey × Value))) (dones_cut : AreCut 1024 (kept h) dones_lists) (rows_cut : AreCut 1024 (entries (map_in c)) rows_lists) where
    abbrev head : BaseHead
    head = record { epoch = epoch; floor = floor h; dones = length (kept h); rows = length (entries (map_in c)) }

    abbrev base : List BaseEntry
    base = Head head ∷ map Dones dones_lists ++ map Values rows_lists

    abbrev d : Contents
    d = compacted_with entry base c

    kept_is : kept_dones base ≡ kept h
    kept_is = all_dones_in dones_lists rows_lists ∙ dones_cut.joined

    rows_are : (base_of t base).rows ≡ map_in c
    rows_are = ap (λ (l : List (RowKey × Value)). put_over empty (map (λ r. record { key = r.0; value = Some r.1 }) l)) (all_values_in dones_lists rows_lists ∙ rows_cut.joined) ∙ rows_again (map_in c)

    ordered : IsOrdered (history_of d)
    ordered = record {
      epochs_rise = tt;
      numbered = tt;
      rising = tt;
      once = subst (λ (l : List Done). IsDistinct nat_eq (ids_of l)) (sym (append-nil (kept_dones base) ∙ kept_is)) (once_still (is_held h.keep (all_dones h)) (all_dones h) good.ordered.once);
      above_floor = nothing_above (floor h);
    }

    same_base : (n m : ℕ) (a b : Rows) (x y : List Done) (f : Option ℕ) → n ≡ m → a ≡ b → x ≡ y → ◌≡◌ {A = Base} (record { epoch = n; rows = a; kept = x; floor = f }) (record { epoch = m; rows = b; kept = y; floor = f })
    same_base n m a b x y f p q r = cc

    same_history : (a b : Base) (k l : Option ℕ) → a ≡ b → k ≡ l → ◌≡◌ {A = History} (record { base = a; epochs = []; keep = k }) (record { base = b; epochs = []; keep = l })
    same_history a b k l p q = cc

    pub from_lists : IsCompactedFrom c d epoch
    from_lists = record {
      switches = record { earlier = refl; text = text; tree = refl; is = is; limits = limits; ordered = ordered; serial = record { replies = tt; times = tt }; rows = λ n p _ _ _. refl };
      base = is_base t head (kept h) (entries (map_in c)) dones_lists rows_lists (sym base_epoch) refl refl dones_cut rows_cut each_done each_row;
      history = same_history (base_of t base) (record { epoch = epoch; rows = map_in c; kept = kept h; floor = floor h }) entry.keep s.entry.keep
          (same_base entry.layout.base_epoch epoch (base_of t base).rows (map_in c) (kept_dones base) (kept h) (floor h) base_epoch rows_are kept_is) layout.keep;
    }

pub compacted_good : ((own : Procedures) → WritesDeclaredTables own) → CompactedIsGood
compacted_good writes files c epoch entry its_base good next is limits layout is_base =
    subst (λ (entries : List BaseEntry). IsCompactedFrom c (compacted_with entry entries c) epoch) (sym is_base.are)
    (from_lists writes files c epoch entry good next is limits layout is_base.dones_lists is_base.rows_lists is_base.dones_cut is_base.rows_cut)
