-- The rules of the coordinator's file, and what is remembered of its entries.
use Rattle.std.specs.Prelude.{◌≡◌, ℕ, List, [], ◌∷◌, ◌++◌}
use Rattle.std.specs.List.{AllByRecursion}
use Rattle.coco_ast.specs.History.{RisesAbove}
use Rattle.coco_entry.specs.Commits.{IsCommit, commit_bytes, commit_in}
use Rattle.coco_entry.specs.declared.commit.Commit.{Commit}
use Rattle.coco_kept.specs.Keeping.{HoldsKept, Keeping}
use Rattle.coco_load.specs.Epochs.{IsNextTo}
use Rattle.coco_read.specs.EntryRules.{EntryRules}
use Rattle.coco_rules.specs.Behind.{IsBehind}
use Rattle.coco_rules.specs.declared.commits.HistoryRules.{HistoryRules}
use Rattle.coco_store.specs.Refusals.{CommitBreaks}
use Rattle.coco_store.specs.Rules.{EachBehind, IsNextBase, IsNextCommit, Setting, commit_epochs, dones_in, floor_in, kept_dones}
use Rattle.coco_recover.specs.Bases.{Basis, entries_of}
use Rattle.coco_recover.specs.declared.commits.Committed.{Committed}

abbrev pub commit_rules : Basis → EntryRules Commit
commit_rules b = record {
  bytes_of = commit_bytes;
  Is = IsCommit;
  read = λ before. commit_in;
  Breaks = CommitBreaks b.setting b.base;
  Lacks = λ entries. ⊥;
}

-- each keeps its rules behind those before it, the replies are kept, and their numbers are known with the one that comes next
pub record AreRemembered (b : Basis) (commits : List Commit) (replies : Keeping) (numbers : List ℕ) (number : ℕ) : Type 0 where
  pub base : EachBehind (IsNextBase b.setting) [] b.base
  pub are : AllByRecursion IsCommit commits
  pub each : EachBehind (IsNextCommit b.setting b.base) [] commits
  pub kept : HoldsKept replies (floor_in b.base) (kept_dones b.base ++ dones_in commits)
  pub epochs : numbers ≡ commit_epochs commits
  pub next : IsNextTo (b.setting.entry.layout.base_epoch ∷ commit_epochs commits) number

abbrev pub basis_of_committed : Setting → Committed → Basis
basis_of_committed s committed = record { setting = s; base = entries_of committed.base.items; keep = committed.kept.keep }

-- the epochs that were committed, with what decides about the next one
pub record IsHistory (s : Setting) (history : HistoryRules) (committed : Committed) : Type 0 where
  pub rules : IsBehind s (entries_of committed.base.items) committed.commits.items history
  pub remembered : AreRemembered (basis_of_committed s committed) committed.commits.items committed.kept committed.epochs.items committed.next

-- the epochs that were committed, as they are handed on
pub record AreCommitted (s : Setting) (committed : Committed) : Type 0 where
  pub remembered : AreRemembered (basis_of_committed s committed) committed.commits.items committed.kept committed.epochs.items committed.next
  pub rises : RisesAbove s.entry.layout.base_epoch committed.epochs.items
