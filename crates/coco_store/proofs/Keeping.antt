-- A store is the logs in the files that its layout names.
use Rattle.std.proofs.Common.{◌≡◌, ℕ, List, [], ◌∷◌, ◌++◌, Option, Some, None, refl}
use Rattle.coco_host.specs.Files.{Files}
use Rattle.coco_ast.proofs.Lists.{all_right}
use Rattle.coco_entry.specs.declared.commit.Commit.{Commit}
use Rattle.coco_entry.specs.declared.layout.LayoutEntry.{LayoutEntry}
use Rattle.coco_entry.specs.declared.prepared.Prepared.{Prepared}
use Rattle.coco_entry.specs.Commits.{commit_bytes, IsCommit}
use Rattle.coco_entry.specs.Layouts.{layout_bytes, IsLayout}
use Rattle.coco_entry.specs.Rows.{prepared_bytes, IsPrepared}
use Rattle.coco_store.specs.Contents.{Contents, Holds, HoldsBase, HoldsCommits, HoldsLayouts, HoldsNode, chief_of, file_of}
use Rattle.coco_store.specs.Entries.{BaseEntry, IsBaseEntry, base_bytes, base_kind, commits_kind, layouts_kind, prepared_kind}
use Rattle.coco_store.specs.Laws.{BehindGates, KeepLogs, KeepsLog}
use Rattle.coco_store.specs.Rules.{Setting}
use Rattle.coco_store.proofs.Logs.{log_kept}
use Rattle.coco_store.proofs.Naming.{NamesApart, names_apart}

-- the layout that holds is a layout entry
pub names : (files : Files) (c : Contents) → Holds files c → NamesApart c.setting.entry
names files c h = names_apart c.setting.entry (all_right IsLayout c.earlier (c.setting.entry ∷ []) h.history.layouts.are.are).0

pub layouts_kept : (earlier : List LayoutEntry) (s : Setting) (old new : List ℕ) → KeepsLog old new → HoldsLayouts earlier s old → HoldsLayouts earlier s new
layouts_kept earlier s old new keeps h = record {
  are = log_kept layouts_kind layout_bytes IsLayout (earlier ++ s.entry ∷ []) old new keeps h.are;
  each = h.each;
  limits = h.limits;
  tree = h.tree;
}

pub commits_kept : (s : Setting) (base : List BaseEntry) (commits : List Commit) (old new : List ℕ) → KeepsLog old new → HoldsCommits s base commits old → HoldsCommits s base commits new
commits_kept s base commits old new keeps h = record { are = log_kept commits_kind commit_bytes IsCommit commits old new keeps h.are; each = h.each }

pub base_kept : (old new : Files) (s : Setting) (entries : List BaseEntry) (o : Option ℕ) → ((b : ℕ) → o ≡ Some b → KeepsLog (old b) (new b)) → HoldsBase old s entries o → HoldsBase new s entries o
base_kept old new s entries None keeps h = h
base_kept old new s entries (Some b) keeps h = (log_kept base_kind base_bytes IsBaseEntry entries (old b) (new b) (keeps b refl) h.0, h.1)

pub node_kept : (s : Setting) (commits : List Commit) (n : ℕ) (entries : List Prepared) (old new : List ℕ) → KeepsLog old new
    → HoldsNode s commits n entries old → HoldsNode s commits n entries new
node_kept s commits n entries old new keeps h = record {
  are = log_kept prepared_kind prepared_bytes IsPrepared entries old new keeps h.are;
  each = h.each;
  committed = h.committed;
}

pub holds_kept : (old new : Files) (c : Contents) → KeepLogs c.setting.entry old new → Holds old c → Holds new c
holds_kept old new c keep h =
    let apart = names old c h in
    let was = h.history in
    record {
      history = record {
        layouts = layouts_kept c.earlier c.setting (old 0) (new 0) (keep 0 apart.own) was.layouts;
        base = base_kept old new c.setting c.base c.setting.entry.base_file (λ b e. keep b (apart.base b e)) was.base;
        commits = commits_kept c.setting c.base c.commits (old (chief_of c.setting)) (new (chief_of c.setting)) (keep (chief_of c.setting) apart.chief) was.commits;
      };
      nodes = λ n less.
          node_kept c.setting c.commits n (c.prepared n) (old (file_of c.setting n)) (new (file_of c.setting n)) (keep (file_of c.setting n) (apart.node n less)) (h.nodes n less);
    }

pub store_kept : BehindGates
store_kept old new c keep good = record { holds = holds_kept old new c keep good.holds; ordered = good.ordered; serial = good.serial; rows = good.rows }
