-- A node's file by the rules of its entries, and by those of the store.
use Rattle.std.proofs.Common.{◌≡◌, ℕ, ◌<◌, Bool, true, false, nat_eq, List, [], ◌∷◌, ◌++◌, length, refl, sym, subst}
use Rattle.std.specs.Prelude.{Result}
use Rattle.std.specs.Set.{is_member}
use Rattle.coco_types.specs.RowKey.{partition_of}
use Rattle.coco_ast.specs.Tree.{Procedures}
use Rattle.coco_ast.proofs.Lists.{all_from_map, all_map, all_weaker}
use Rattle.coco_bytes.specs.declared.fault.FieldFault.{FieldFault}
use Rattle.coco_entry.specs.Rows.{IsPrepared, prepared_bytes, prepared_in}
use Rattle.coco_entry.specs.declared.commit.Commit.{Commit}
use Rattle.coco_entry.specs.declared.layout.Layout.{Layout}
use Rattle.coco_entry.specs.declared.prepared.Prepared.{Prepared}
use Rattle.coco_entry.specs.declared.prepared.Row.{Row}
use Rattle.coco_read.specs.EntryRules.{IsFile, IsFirstIn}
use Rattle.coco_load.specs.Tables.{AreTables}
use Rattle.coco_rules.specs.Readying.{AreAmong}
use Rattle.coco_rules.specs.declared.prepared.NodeRules.{NodeRules}
use Rattle.coco_store.specs.Contents.{HoldsNode}
use Rattle.coco_store.specs.Entries.{prepared_kind}
use Rattle.coco_store.specs.Placement.{IsHeldBy}
use Rattle.coco_store.specs.Refusals.{IsFirst, IsNodeRefused, IsRefusedAt, PreparedBreaks, bad_prepared_epoch, bad_row, breaks, lacks, no_entry, no_log}
use Rattle.coco_store.specs.Rules.{EachBehind, HavePrepared, IsNextEpoch, IsNextPrepared, IsNodeRow, Setting, commit_epochs, prepared_epochs}
use Rattle.coco_recover.specs.Nodes.{AreTaken, IsNodeRead, Loads, NodeBasis, node_rules, setting_with}
use Rattle.coco_recover.specs.declared.nodes.NodeRead.{NodeRead}
use Rattle.coco_recover.proofs.Places.{prepared_keeps}

-- ---- lists

each_weaker : {A : Type 0} (Old New : List A → A → Type 0) → ((before : List A) (x : A) → Old before x → New before x) → (before xs : List A) → EachBehind Old before xs → EachBehind New before xs
each_weaker Old New f before [] each = tt
each_weaker Old New f before (x ∷ xs) each = (f before x each.0, each_weaker Old New f (before ++ x ∷ []) xs each.1)

true_so : (b : Bool) → ¬ (¬ (b ≡ true)) → b ≡ true
true_so true denied = refl
true_so false denied = absurd (denied (λ e. let two : false ≡ true = e in cc))

-- what lacks nothing is among the others
pub among_so : (others xs : List ℕ) → ¬ (¬ (AreAmong others xs)) → AreAmong others xs
among_so others [] denied = tt
among_so others (x ∷ xs) denied = (true_so (is_member nat_eq others x) (λ lacks. denied (λ all. lacks all.0)), among_so others xs (λ lacks. denied (λ all. lacks all.1)))

-- ---- two settings with the same layout and tree

module _ (n : ℕ) (s t : Setting) (layouts : s.entry.layout ≡ t.entry.layout) (trees : s.tree ≡ t.tree) where
  row_so : (r : Row) → IsNodeRow s n r → IsNodeRow t n r
  row_so r is = record {
    held = subst (λ (l : Layout). IsHeldBy l (partition_of l.partitions r.key) n) layouts is.held;
    table = subst (λ (ps : Procedures). r.key.table < length ps.tables) trees is.table;
  }

  next_so : (before : List Prepared) (e : Prepared) → IsNextPrepared s n before e → IsNextPrepared t n before e
  next_so before e is = record {
    epoch = subst (λ (l : Layout). IsNextEpoch l.base_epoch (prepared_epochs before) e.epoch) layouts is.epoch;
    rows = all_weaker (IsNodeRow s n) (IsNodeRow t n) row_so e.rows is.rows;
  }

  pub each_so : (entries : List Prepared) → EachBehind (IsNextPrepared s n) [] entries → EachBehind (IsNextPrepared t n) [] entries
  each_so entries = each_weaker (IsNextPrepared s n) (IsNextPrepared t n) next_so [] entries

breaks_so : (n : ℕ) (s t : Setting) → s.entry.layout ≡ t.entry.layout → s.tree ≡ t.tree → (before : List Prepared) (e : Prepared) (at : ℕ) → PreparedBreaks s n before e at → PreparedBreaks t n before e at
breaks_so n s t layouts trees before e at (bad_prepared_epoch broken) =
    bad_prepared_epoch (λ is. broken (subst (λ (l : Layout). IsNextEpoch l.base_epoch (prepared_epochs before) e.epoch) (sym layouts) is))
breaks_so n s t layouts trees before e at (bad_row {at = place} item) = bad_row (record {
  ahead = item.ahead;
  item = item.item;
  behind = item.behind;
  is = item.is;
  broken = λ is. item.broken (row_so n t s (sym layouts) (sym trees) item.item is);
  here = item.here;
})

-- ---- refusals

module _ {E : Type 0} (kind : ℕ) (bytes_of : E → List ℕ) (Is : E → Type 0) (read : List E → List ℕ → Result E FieldFault) (Old New : List E → E → ℕ → Type 0) (OldLacks NewLacks : List E → Type 0)
    (broken : (before : List E) (e : E) (at : ℕ) → Old before e at → New before e at) (lacking : (entries : List E) → OldLacks entries → NewLacks entries) where
  refused_so : (file : List ℕ) (at : ℕ) → IsRefusedAt kind bytes_of Is read Old OldLacks file at → IsRefusedAt kind bytes_of Is read New NewLacks file at
  refused_so file at (no_log none) = no_log none
  refused_so file at (no_entry goes fault) = no_entry goes fault
  refused_so file at (breaks {entries = entries} {e = e} {at = place} goes is bad) = breaks goes is (broken entries e place bad)
  refused_so file at (lacks {entries = entries} log lack) = lacks log (lacking entries lack)

first_so : (P Q : ℕ → Type 0) → ((at : ℕ) → P at → Q at) → ((at : ℕ) → Q at → P at) → (at : ℕ) → IsFirst P at → IsFirst Q at
first_so P Q there back at first = record { refused = there at first.refused; least = λ b is. first.least b (back b is) }

-- ---- the file

module _ (b : NodeBasis) (s : Setting) (commits : List Commit) (layout : s.entry.layout ≡ b.layout) (tree : s.tree ≡ b.tree) (epochs : commit_epochs commits ≡ b.epochs) where
  have_so : (entries : List Prepared) → AreAmong (prepared_epochs entries) b.epochs → HavePrepared entries commits
  have_so entries all = all_from_map (λ (c : Commit). c.epoch) (λ x. is_member nat_eq (prepared_epochs entries) x ≡ true) commits (subst (AreAmong (prepared_epochs entries)) (sym epochs) all)

  among_epochs : (entries : List Prepared) → HavePrepared entries commits → AreAmong (prepared_epochs entries) b.epochs
  among_epochs entries have = subst (AreAmong (prepared_epochs entries)) epochs (all_map (λ (c : Commit). c.epoch) (λ x. is_member nat_eq (prepared_epochs entries) x ≡ true) commits have)

  -- entries that keep their rules by the layout and the tree keep the store's
  pub each_here : (entries : List Prepared) → EachBehind (IsNextPrepared (setting_with b.layout b.tree) b.node) [] entries → EachBehind (IsNextPrepared s b.node) [] entries
  each_here = each_so b.node (setting_with b.layout b.tree) s (sym layout) (sym tree)

  -- what was read is what the store's node holds
  pub node_held : (entries : List Prepared) (file : List ℕ) → EachBehind (IsNextPrepared s b.node) [] entries → IsFile (node_rules b) prepared_kind entries file → HoldsNode s commits b.node entries file
  node_held entries file each is = record { are = is.log; each = each; committed = have_so entries (among_so (prepared_epochs entries) b.epochs is.whole) }

  -- and what it holds is read
  pub node_file : (entries : List Prepared) (file : List ℕ) → HoldsNode s commits b.node entries file → IsFile (node_rules b) prepared_kind entries file
  node_file entries file held = record {
    log = held.are;
    keep = each_weaker (IsNextPrepared (setting_with b.layout b.tree) b.node) (λ before e. (at : ℕ) → ¬ (PreparedBreaks (setting_with b.layout b.tree) b.node before e at))
        (λ before e is at. prepared_keeps (setting_with b.layout b.tree) b.node before e is at) [] entries
        (each_so b.node s (setting_with b.layout b.tree) layout tree entries held.each);
    whole = λ lack. lack (among_epochs entries held.committed);
  }

  -- it is refused first where the store's node is
  pub node_refused : (file : List ℕ) (at : ℕ) → IsFirstIn (node_rules b) prepared_kind file at → IsFirst (IsNodeRefused s commits b.node file) at
  node_refused file at first =
      let mine = setting_with b.layout b.tree in
      first_so (IsRefusedAt prepared_kind prepared_bytes IsPrepared (λ before. prepared_in) (PreparedBreaks mine b.node) (λ entries. ¬ (AreAmong (prepared_epochs entries) b.epochs)) file) (IsNodeRefused s commits b.node file)
      (refused_so prepared_kind prepared_bytes IsPrepared (λ before. prepared_in) (PreparedBreaks mine b.node) (PreparedBreaks s b.node) (λ entries. ¬ (AreAmong (prepared_epochs entries) b.epochs)) (λ entries. ¬ (HavePrepared entries commits))
      (breaks_so b.node mine s (sym layout) (sym tree)) (λ entries lack have. lack (among_epochs entries have)) file)
      (refused_so prepared_kind prepared_bytes IsPrepared (λ before. prepared_in) (PreparedBreaks s b.node) (PreparedBreaks mine b.node) (λ entries. ¬ (HavePrepared entries commits)) (λ entries. ¬ (AreAmong (prepared_epochs entries) b.epochs))
      (breaks_so b.node s mine layout tree) (λ entries lack all. lack (have_so entries all)) file) at first

-- ---- what was read

-- a setting with another layout
abbrev setting_in : Setting → Layout → Setting
setting_in s layout = record { entry = record { layout = layout; keep = s.entry.keep; base_file = s.entry.base_file }; tree = s.tree }

-- the entries that were taken are read under each setting with this layout and tree
pub read_so : (b : NodeBasis) (s : Setting) (history : NodeRules) (read : NodeRead) → s.entry.layout ≡ b.layout → s.tree ≡ b.tree → AreTaken b read.entries.items history read.tables read.greatest
    → IsNodeRead s b.epochs b.node b.shards b.copies read
read_so b s history read layout tree taken = record {
  each = each_so b.node (setting_with b.layout b.tree) s (sym layout) (sym tree) read.entries.items taken.each;
  tables = subst (λ (l : Layout). AreTables l read.tables.shards.items read.tables.copies.items) (sym layout) taken.tables;
  loads = subst (λ (l : Layout). Loads (setting_in s l) b.epochs b.node read.entries.items b.shards b.copies read.tables.shards.items read.tables.copies.items) (sym layout) taken.loads;
  greatest = taken.greatest;
}
