-- A layout more makes files another store, and entries stand under another layout of the same sizes.
use Rattle.std.proofs.Common.{◌≡◌, ◌≢◌, ◌⊎◌, inl, inr, ℕ, ◌+◌, ◌%◌, ◌≤◌, ◌<◌, List, [], ◌∷◌, ◌++◌, length, Option, Some, None, sym, subst, arith}
use Rattle.std.specs.List.{AllByRecursion}
use Rattle.coco_types.specs.RowKey.{RowKey}
use Rattle.coco_types.specs.declared.call.Done.{Done}
use Rattle.coco_types.specs.declared.value.Value.{Value}
use Rattle.coco_host.specs.Files.{Files}
use Rattle.coco_ast.specs.Fitting.{Fits}
use Rattle.coco_ast.specs.Tree.{Procedures}
use Rattle.coco_ast.proofs.Lists.{all_append, all_weaker}
use Rattle.coco_bytes.specs.Lists.{last_item}
use Rattle.coco_entry.specs.declared.commit.Commit.{Commit}
use Rattle.coco_entry.specs.declared.layout.LayoutEntry.{LayoutEntry}
use Rattle.coco_entry.specs.declared.prepared.Prepared.{Prepared}
use Rattle.coco_entry.specs.declared.prepared.Row.{Row}
use Rattle.coco_entry.specs.Layouts.{IsLayout, layout_bytes}
use Rattle.coco_store.specs.Contents.{Contents, Holds, HoldsBase, HoldsCommits, HoldsLayouts, HoldsNode, IsGoodLayout, IsGoodStore, chief_of, file_of}
use Rattle.coco_store.specs.Entries.{AreLayouts, BaseEntry, layouts_file, layouts_kind}
use Rattle.coco_store.specs.Laws.{KeepAllLogs, KeepsLog}
use Rattle.coco_store.specs.Placement.{IsHeldBy}
use Rattle.coco_store.specs.Rules.{EachBehind, IsBase, IsCommittedDone, IsKeptDone, IsNextBase, IsNextCommit, IsNextDone, IsNextEpoch, IsNextPrepared, IsNextValue, IsNodeRow, MayFollow, Setting, base_values, commit_epochs, dones_in, dones_of, kept_dones, prepared_epochs, values_of}
use Rattle.coco_store.specs.Switching.{AfterSwitch, Allows, GainsLayout, IsReadyFor, Switches, WhereAllowed, WhileSwitch}
use Rattle.coco_store.specs.Texts.{IsAcceptedText}
use Rattle.coco_store.proofs.Keeping.{base_kept, commits_kept, layouts_kept, node_kept}
use Rattle.coco_store.proofs.Logs.{log_gains, same_log}
use Rattle.coco_store.proofs.Naming.{NamesApart, names_apart}

-- ---- the switch

module _ (old new : Files) (c d : Contents) (go : Switches c d) (ready : IsReadyFor c d old) (gains : GainsLayout d.setting.entry old new) where
  abbrev s : Setting
  s = d.setting

  holds_layouts : HoldsLayouts d.earlier s (new layouts_file)
  holds_layouts =
      let was = ready.layouts in
      record {
        are = subst (λ (l : List LayoutEntry). AreLayouts (l ++ s.entry ∷ []) (new layouts_file)) (sym go.earlier)
            (log_gains layouts_kind layout_bytes IsLayout (c.earlier ++ c.setting.entry ∷ []) s.entry gains.bodies (old layouts_file) (new layouts_file) was.are go.is gains.was gains.is);
        each = subst (λ (l : List LayoutEntry). AllByRecursion IsGoodLayout l) (sym go.earlier)
            (all_append IsGoodLayout c.earlier (c.setting.entry ∷ []) was.each (record { limits = was.limits; tree = c.setting.tree; accepted = was.tree }, tt));
        limits = go.limits;
        tree = subst (λ (t : List ℕ). IsAcceptedText t s.tree) (sym go.text) (subst (λ (p : Procedures). IsAcceptedText c.setting.entry.layout.text p) (sym go.tree) was.tree);
      }

  switch_holds : Holds new d
  switch_holds =
      let apart : NamesApart s.entry = names_apart s.entry go.is in
      let stands = ready.stands in
      record {
        history = record {
          layouts = holds_layouts;
          base = base_kept old new s d.base s.entry.base_file (λ b e. gains.others b (apart.base b e) (λ same. apart.base-own b e (sym same))) stands.base;
          commits = commits_kept s d.base d.commits (old (chief_of s)) (new (chief_of s)) (gains.others (chief_of s) apart.chief (λ same. apart.chief-own (sym same))) stands.commits;
        };
        nodes = λ n less.
            node_kept s d.commits n (d.prepared n) (old (file_of s n)) (new (file_of s n)) (gains.others (file_of s n) (apart.node n less) (λ same. apart.node-own n less (sym same))) (stands.nodes n less);
      }

pub after_switch : AfterSwitch
after_switch old new c d go ready gains = record { holds = switch_holds old new c d go ready gains; ordered = go.ordered; serial = go.serial; rows = go.rows }

pub while_switch : WhileSwitch
while_switch old new c d go ready m =
    elim (m.is) as (λ _. KeepsLog (old layouts_file) (new layouts_file) ⊎ IsGoodStore new d) [
      | inl before ↦ inl (same_log layouts_kind m.bodies (old layouts_file) (new layouts_file) m.was before)
      | inr after ↦ inr (after_switch old new c d go ready (record { bodies = m.bodies; was = m.was; is = after; others = m.others }))
    ]

-- files with the same logs stand ready too
pub ready_kept : (old new : Files) (c d : Contents) → KeepAllLogs old new → IsReadyFor c d old → IsReadyFor c d new
ready_kept old new c d keep ready =
    let s : Setting = d.setting in
    let stands = ready.stands in
    record {
      layouts = layouts_kept c.earlier c.setting (old layouts_file) (new layouts_file) (keep layouts_file) ready.layouts;
      stands = record {
        base = base_kept old new s d.base s.entry.base_file (λ b e. keep b) stands.base;
        commits = commits_kept s d.base d.commits (old (chief_of s)) (new (chief_of s)) (keep (chief_of s)) stands.commits;
        nodes = λ n less. node_kept s d.commits n (d.prepared n) (old (file_of s n)) (new (file_of s n)) (keep (file_of s n)) (stands.nodes n less);
      };
    }

-- ---- entries under another layout

each_weaker : {A : Type 0} (Rule Other : List A → A → Type 0) → ((before : List A) (x : A) → Rule before x → Other before x) → (before xs : List A) → EachBehind Rule before xs → EachBehind Other before xs
each_weaker Rule Other f before [] each = tt
each_weaker Rule Other f before (x ∷ xs) each = (f before x each.0, each_weaker Rule Other f (before ++ x ∷ []) xs each.1)

module _ (s t : Setting) (allows : Allows s t) where
  next_epoch : (before : List ℕ) (epoch : ℕ) → IsNextEpoch s.entry.layout.base_epoch before epoch → IsNextEpoch t.entry.layout.base_epoch before epoch
  next_epoch before epoch is = subst (λ (n : ℕ). IsNextEpoch n before epoch) (sym allows.base_epoch) is

  next_done : (before : List Done) (d : Done) → IsNextDone s before d → IsNextDone t before d
  next_done before d is =
      record { fits = subst (λ (p : Procedures). Fits p d.call) (sym allows.tree) is.fits; time = is.time; rises = is.rises; new = is.new; few = is.few; room = allows.room before is.room }

  kept_done : (before : List Done) (d : Done) → IsKeptDone s before d → IsKeptDone t before d
  kept_done before d is = record { epoch = (is.epoch.0, subst (λ (n : ℕ). d.epoch ≤ n) (sym allows.base_epoch) is.epoch.1); next = next_done before d is.next }

  next_value : (before : List (RowKey × Value)) (row : RowKey × Value) → IsNextValue s before row → IsNextValue t before row
  next_value before row is = record { table = subst (λ (p : Procedures). row.0.table < length p.tables) (sym allows.tree) is.table; rises = is.rises }

  next_base : (before : List BaseEntry) (e : BaseEntry) → IsNextBase s before e → IsNextBase t before e
  next_base before e is = record {
    order = subst (λ (n : ℕ). MayFollow n (last_item before) e) (sym allows.base_epoch) is.order;
    dones = each_weaker (IsKeptDone s) (IsKeptDone t) kept_done (kept_dones before) (dones_of e) is.dones;
    values = each_weaker (IsNextValue s) (IsNextValue t) next_value (base_values before) (values_of e) is.values;
  }

  is_base : (entries : List BaseEntry) → IsBase s entries → IsBase t entries
  is_base entries is = record { each = each_weaker (IsNextBase s) (IsNextBase t) next_base [] entries is.each; whole = is.whole }

  committed_done : (base : List BaseEntry) (before : List Done) (d : Done) → IsCommittedDone s base before d → IsCommittedDone t base before d
  committed_done base before d is = record { above = is.above; next = next_done before d is.next }

  next_commit : (base : List BaseEntry) (before : List Commit) (e : Commit) → IsNextCommit s base before e → IsNextCommit t base before e
  next_commit base before e is = record {
    epoch = next_epoch (commit_epochs before) e.epoch is.epoch;
    dones = each_weaker (IsCommittedDone s base) (IsCommittedDone t base) (committed_done base) (kept_dones base ++ dones_in before) e.dones is.dones;
  }

  node_row : (n : ℕ) (row : Row) → IsNodeRow s n row → IsNodeRow t n row
  node_row n row of =
      let j : ℕ = of.held.0 in
      record {
        held = (
          j,
          subst (λ (k : ℕ). j ≤ k) (sym allows.copies) of.held.1,
          subst (λ (p : ℕ). n ≡ (row.key.row % p + j) % t.entry.layout.nodes) (sym allows.partitions)
              (subst (λ (m : ℕ). n ≡ (row.key.row % s.entry.layout.partitions + j) % m) (sym allows.nodes) of.held.2),
        );
        table = subst (λ (p : Procedures). row.key.table < length p.tables) (sym allows.tree) of.table;
      }

  next_prepared : (n : ℕ) (before : List Prepared) (e : Prepared) → IsNextPrepared s n before e → IsNextPrepared t n before e
  next_prepared n before e is = record { epoch = next_epoch (prepared_epochs before) e.epoch is.epoch; rows = all_weaker (IsNodeRow s n) (IsNodeRow t n) (node_row n) e.rows is.rows }

  holds_base : (files : Files) (entries : List BaseEntry) (file : Option ℕ) → HoldsBase files s entries file → HoldsBase files t entries file
  holds_base files entries None h = h
  holds_base files entries (Some file) h = (h.0, is_base entries h.1)

pub where_allowed : WhereAllowed
where_allowed s t allows = record {
  base = holds_base s t allows;
  commits = λ base commits file h. record { are = h.are; each = each_weaker (IsNextCommit s base) (IsNextCommit t base) (next_commit s t allows base) [] commits h.each };
  node = λ commits n entries file h.
      record { are = h.are; each = each_weaker (IsNextPrepared s n) (IsNextPrepared t n) (next_prepared s t allows n) [] entries h.each; committed = h.committed };
}
