-- What files hold whose entries were read, and where files are refused first.
use Rattle.std.proofs.Common.{◌≡◌, ◌≢◌, ℕ, ◌<◌, true, false, nat_eq, List, [], ◌∷◌, map, Option, Some, Result, Err, refl, subst, sym}
use Rattle.std.specs.Result.{IsErrAnd}
use Rattle.std.proofs.lemmas.Bool.{eqb-false, eqb-true}
use Rattle.std.proofs.lemmas.Result.{err_from_is_err_and}
use Rattle.coco_host.specs.Files.{Files}
use Rattle.coco_entry.specs.declared.layout.LayoutEntry.{LayoutEntry}
use Rattle.coco_entry.specs.declared.prepared.Prepared.{Prepared}
use Rattle.coco_log.specs.LogState.{IsFresh, IsOpened, LogState}
use Rattle.coco_read.specs.EntryRules.{EntryRules, IsFile, IsFirstIn, IsReadLog}
use Rattle.coco_store.specs.Contents.{Contents, Holds, HoldsBase, HoldsHistory, chief_of, file_of}
use Rattle.coco_store.specs.Entries.{AreLayouts, BaseEntry, Dones, Head, Values, base_kind, commits_kind, layouts_kind}
use Rattle.coco_store.specs.Refusals.{IsFirst, IsFirstRefusal, IsNodeRefused, in_node}
use Rattle.coco_store.specs.Rules.{IsWhole}
use Rattle.coco_recover.specs.Bases.{Basis, IsBased, base_rules, entries_of}
use Rattle.coco_recover.specs.Commits.{AreCommitted, commit_rules}
use Rattle.coco_recover.specs.Layouts.{IsLastOf, layout_rules, setting_of}
use Rattle.coco_recover.specs.Nodes.{entries_at}
use Rattle.coco_recover.specs.Steps.{HoldsCommitted, HoldsEntries, HoldsLast, HoldsParts}
use Rattle.coco_recover.specs.Without.{HoldsBut, IsFirstRefusalBut, IsHistoryRefusal, base_refused, commits_refused, in_other, layouts_refused}
use Rattle.coco_recover.specs.declared.base.BasePart.{BasePart}
use Rattle.coco_recover.specs.declared.base.Based.{Based}
use Rattle.coco_recover.specs.declared.commits.Committed.{Committed}
use Rattle.coco_recover.specs.declared.layouts.LastLayout.{LastLayout}

-- ---- what lacks nothing is whole

same_so : (a b : ℕ) → ¬ (¬ (a ≡ b)) → a ≡ b
same_so a b denied = elim (nat_eq a b) as (λ t. nat_eq a b ≡ t → a ≡ b) [
  | true ↦ λ t. eqb-true a b t
  | false ↦ λ f. absurd (denied (eqb-false a b f))
] refl

whole_so : (entries : List BaseEntry) → ¬ (¬ (IsWhole entries)) → IsWhole entries
whole_so [] denied = denied (λ none. none)
whole_so (Head head ∷ entries) denied = (same_so _ _ (λ other. denied (λ both. other both.0)), same_so _ _ (λ other. denied (λ both. other both.1)))
whole_so (Dones dones ∷ entries) denied = denied (λ none. none)
whole_so (Values rows ∷ entries) denied = denied (λ none. none)

-- ---- one file

module _ {E : Type 0} (rules : EntryRules E) (entries : List E) (log : LogState) (files : Files) (may_leave : Files → Type 0) (file kind : ℕ)
    (fresh : IsFresh log file kind) (read : IsReadLog rules entries log files may_leave) where
  pub file_is : IsFile rules kind entries (files file)
  file_is =
      subst (λ (f : ℕ). IsFile rules kind entries (files f)) fresh.in_file
      (subst (λ (k : ℕ). IsFile rules k entries (files log.file)) fresh.of_kind read.is)

  pub file_left : (image : Files) → may_leave image → image file ≡ files file
  file_left image left = subst (λ (f : ℕ). image f ≡ files f) fresh.in_file (read.rest.durable image left)

  pub is_opened : IsOpened log files may_leave
  is_opened = record { bodies = map rules.bytes_of entries; rest = read.rest }

pub holds_last : (entries : List LayoutEntry) (last : LastLayout) (files : Files) → IsLastOf entries last → IsFile layout_rules layouts_kind entries (files 0) → HoldsLast files last
holds_last entries last files of file = record {
  earlier = of.earlier;
  holds = record {
    are = subst (λ (l : List LayoutEntry). AreLayouts l (files 0)) of.are file.log;
    each = of.each;
    limits = of.good.limits;
    tree = of.good.tree;
  };
  place = of.place;
}

pub holds_parts : (files : Files) (last : LastLayout) (based : Based) (number : ℕ) (entries : List BaseEntry) → last.entry.base_file ≡ Some number → IsBased (setting_of last) based
    → entries_of based.history.entries.items ≡ entries → IsFile (base_rules (setting_of last)) base_kind entries (files number) → HoldsParts files last based.history.entries.items
holds_parts files last based number entries is of are file =
    let s = setting_of last in
    let parts = entries_of based.history.entries.items in
    let now : IsFile (base_rules s) base_kind parts (files number) = subst (λ (es : List BaseEntry). IsFile (base_rules s) base_kind es (files number)) (sym are) file in
    subst (λ (o : Option ℕ). HoldsBase files s parts o) (sym is) (now.log, record { each = of.behind.each; whole = whole_so parts now.whole })

pub holds_committed : (files : Files) (last : LastLayout) (committed : Committed) (b : Basis) → AreCommitted (setting_of last) committed
    → IsFile (commit_rules b) commits_kind committed.commits.items (files (chief_of (setting_of last))) → HoldsCommitted files last committed
holds_committed files last committed b are file = record { are = file.log; each = are.remembered.each }

-- ---- all of them

abbrev pub contents_of : List LayoutEntry → LastLayout → Committed → List (List Prepared) → Contents
contents_of earlier last committed nodes = record {
  earlier = earlier;
  setting = setting_of last;
  base = entries_of committed.base.items;
  commits = committed.commits.items;
  prepared = entries_at nodes;
}

module _ (files : Files) (last : LastLayout) (committed : Committed) (nodes : List (List Prepared))
    (layouts : HoldsLast files last) (base : HoldsParts files last committed.base.items) (commits : HoldsCommitted files last committed) where
  history_held : HoldsHistory files (contents_of layouts.earlier last committed nodes)
  history_held = record { layouts = layouts.holds; base = base; commits = commits }

  pub store_held : ((n : ℕ) → n < last.entry.layout.nodes → HoldsEntries files last committed n (entries_at nodes n)) → Holds files (contents_of layouts.earlier last committed nodes)
  store_held each = record { history = history_held; nodes = each }

  pub refused_node : (n at : ℕ) → n < last.entry.layout.nodes → ((m : ℕ) → m < n → HoldsEntries files last committed m (entries_at nodes m))
      → IsFirst (IsNodeRefused (setting_of last) committed.commits.items n (files (file_of (setting_of last) n))) at → IsFirstRefusal files (file_of (setting_of last) n) at
  refused_node n at within before first = in_node {c = contents_of layouts.earlier last committed nodes} history_held within before first

  -- the same, with the file of a node left out
  pub held_but : (node : ℕ) → ((n : ℕ) → n < last.entry.layout.nodes → n ≢ node → HoldsEntries files last committed n (entries_at nodes n)) → HoldsBut node files (contents_of layouts.earlier last committed nodes)
  held_but node each = record { history = history_held; nodes = each }

  pub refused_other : (node n at : ℕ) → n < last.entry.layout.nodes → n ≢ node → ((m : ℕ) → m < n → m ≢ node → HoldsEntries files last committed m (entries_at nodes m))
      → IsFirst (IsNodeRefused (setting_of last) committed.commits.items n (files (file_of (setting_of last) n))) at → IsFirstRefusalBut node files (file_of (setting_of last) n) at
  refused_other node n at within other before first = in_other {c = contents_of layouts.earlier last committed nodes} history_held within other before first

-- ---- what is refused

-- a fault that is handed on is the one that came
pub handed_on : {T E : Type 0} (r : Result T E) (came fault : E) → IsErrAnd r (λ e. e ≡ came) → r ≡ Err fault → came ≡ fault
handed_on r came fault from is = let p = err_from_is_err_and r from in cc (p.1, p.2, is)

pub refused_layouts : (files : Files) (at : ℕ) → IsFirstIn layout_rules 0 (files 0) at → IsHistoryRefusal files 0 at
refused_layouts files at first = layouts_refused first

pub refused_base : (files : Files) (last : LastLayout) (file at : ℕ) → HoldsLast files last → last.entry.base_file ≡ Some file → IsFirstIn (base_rules (setting_of last)) 3 (files file) at
    → IsHistoryRefusal files file at
refused_base files last file at held is first = base_refused {s = setting_of last} held.holds is first

pub refused_commits : (files : Files) (last : LastLayout) (parts : List BasePart) (b : Basis) (at : ℕ) → b.setting ≡ setting_of last → b.base ≡ entries_of parts → HoldsLast files last → HoldsParts files last parts
    → IsFirstIn (commit_rules b) 1 (files (chief_of (setting_of last))) at → IsHistoryRefusal files (chief_of (setting_of last)) at
refused_commits files last parts b at is base held holds first =
    commits_refused {s = setting_of last} held.holds holds (rw (is, base) at first)
