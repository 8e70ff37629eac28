-- A layout with another keep number switches to the same store with that number.
use Rattle.std.proofs.Common.{◌≡◌, ◌⊎◌, inl, inr, ⊎_elim, ℕ, zero, suc, ◌≤◌, true, List, [], ◌∷◌, Option, Some, None, refl, arith}
use Rattle.coco_host.specs.Files.{Files}
use Rattle.coco_ast.proofs.Lists.{all_right}
use Rattle.coco_entry.specs.declared.layout.LayoutEntry.{LayoutEntry}
use Rattle.coco_entry.specs.Layouts.{HasLater, IsLayout, is_named, keep_of, named_by}
use Rattle.coco_append.specs.Gaining.{HasStore, RestsAs, RestsOn}
use Rattle.coco_store.specs.Contents.{Contents, IsGoodStore, chief_of, file_of}
use Rattle.coco_store.specs.Entries.{files_of}
use Rattle.coco_store.specs.Laws.{KeepAllLogs, KeepsLog}
use Rattle.coco_store.specs.Rules.{IsKeep, IsWithinLimits, Setting}
use Rattle.coco_store.specs.Switching.{Allows, IsReadyFor, KeepRules, Switches}
use Rattle.coco_store.proofs.Keeping.{store_kept}
use Rattle.coco_store.proofs.Switching.{after_switch, where_allowed, while_switch}
use Rattle.coco_commands.specs.Keeping.{AfterKeep, WhileKeep, contents_keeping, entry_keeping}

-- ---- the layout

-- a number of 1 or more isn't taken for none
keep_again : (keep : ℕ) → 1 ≤ keep → keep_of keep ≡ Some keep
keep_again zero some = absurd (omega (arith, some))
keep_again (suc n) some = refl

later_again : (named : List ℕ) (keep : ℕ) (before base_file : Option ℕ) → IsKeep (Some keep) → HasLater named before base_file → HasLater named (Some keep) base_file
later_again named keep None None is later = omega (arith, is.1)
later_again named keep (Some k) None is later = omega (arith, is.1)
later_again named keep None (Some file) is later = (omega (arith, is.1), keep_again keep is.0, later.2)
later_again named keep (Some k) (Some file) is later = (omega (arith, is.1), keep_again keep is.0, later.2)

is_layout : (entry : LayoutEntry) (keep : ℕ) → IsKeep (Some keep) → IsLayout entry → IsLayout (entry_keeping keep entry)
is_layout entry keep is layout = record { fields = layout.fields; later = later_again (named_by entry.layout) keep entry.keep entry.base_file is layout.later }

within_limits : (entry : LayoutEntry) (keep : ℕ) → IsKeep (Some keep) → IsWithinLimits entry → IsWithinLimits (entry_keeping keep entry)
within_limits entry keep is limits = record { nodes = limits.nodes; partitions = limits.partitions; copies = limits.copies; base_epoch = limits.base_epoch; keep = is }

-- ---- the switch

-- what the rules ask of a keep number holds with any
keep_allows : (s : Setting) (keep : ℕ) → Allows s (record { entry = entry_keeping keep s.entry; tree = s.tree })
keep_allows s keep = record { tree = refl; nodes = refl; partitions = refl; copies = refl; base_epoch = refl; room = λ before has. tt }

module _ (files : Files) (c : Contents) (keep : ℕ) (good : IsGoodStore files c) where
  pub keep_ready : IsReadyFor c (contents_keeping keep c) files
  keep_ready =
      let s : Setting = c.setting in
      let rules : KeepRules s (record { entry = entry_keeping keep s.entry; tree = s.tree }) = where_allowed s (record { entry = entry_keeping keep s.entry; tree = s.tree }) (keep_allows s keep) in
      let was = good.holds.history in
      record {
        layouts = was.layouts;
        stands = record {
          base = rules.base files c.base s.entry.base_file was.base;
          commits = rules.commits c.base c.commits (files (chief_of s)) was.commits;
          nodes = λ n less. rules.node c.commits n (c.prepared n) (files (file_of s n)) (good.holds.nodes n less);
        };
      }

  pub keep_switches : IsKeep (Some keep) → Switches c (contents_keeping keep c)
  keep_switches is =
      let layouts = good.holds.history.layouts in
      record {
        earlier = refl;
        text = refl;
        tree = refl;
        is = is_layout c.setting.entry keep is (all_right IsLayout c.earlier (c.setting.entry ∷ []) layouts.are.are).0;
        limits = within_limits c.setting.entry keep is layouts.limits;
        ordered = record {
          epochs_rise = good.ordered.epochs_rise;
          numbered = good.ordered.numbered;
          rising = good.ordered.rising;
          once = good.ordered.once;
          above_floor = good.ordered.above_floor;
        };
        serial = record { replies = good.serial.replies; times = good.serial.times };
        rows = good.rows;
      }

pub keep_rests : (c : Contents) (keep : ℕ) (reads : Option Files) (may_leave : Files → Type 0) → RestsOn c reads may_leave → RestsAs (IsReadyFor c (contents_keeping keep c)) reads may_leave
keep_rests c keep reads may_leave rests = record {
  files = rests.files;
  are = rests.are;
  good = keep_ready rests.files c keep rests.good;
  left = λ image left. keep_ready image c keep (rests.left image left);
}

-- a store whose files all keep their logs
pub store_still : (c : Contents) (old new : Files) → KeepAllLogs old new → HasStore c old → HasStore c new
store_still c old new keep good = store_kept old new c (λ n named. keep n) good

pub after_keep : AfterKeep
after_keep old new c keep good is gains = (after_switch old new c (contents_keeping keep c) (keep_switches old c keep good is) (keep_ready old c keep good) gains, refl)

pub while_keep : WhileKeep
while_keep old new c keep good is m =
    ⊎_elim (λ same. inl (store_kept old new c (kept same) good)) (λ now. inr now) (while_switch old new c (contents_keeping keep c) (keep_switches old c keep good is) (keep_ready old c keep good) m)
  where
    kept : KeepsLog (old 0) (new 0) → (n : ℕ) → is_named (files_of c.setting.entry) n ≡ true → KeepsLog (old n) (new n)
    kept same zero named = same
    kept same (suc n) named = m.others (suc n) named (λ e. let no : suc n ≡ 0 = e in cc)
