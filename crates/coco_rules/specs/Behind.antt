-- What is remembered of the entries that came before.
use Rattle.std.specs.Prelude.{◌≡◌, ℕ, max, nat_lt, Bool, true, List, [], ◌∷◌, Option, None, Some, ◌++◌}
use Rattle.coco_types.specs.declared.call.Done.{Done}
use Rattle.coco_entry.specs.declared.commit.Commit.{Commit}
use Rattle.coco_store.specs.Entries.{BaseEntry}
use Rattle.coco_store.specs.Rules.{Setting, commit_epochs, dones_in, floor_in, kept_dones}
use Rattle.coco_rules.specs.Noting.{AreNoted}
use Rattle.coco_rules.specs.declared.commits.HistoryRules.{HistoryRules}

-- the greatest of these numbers and this one
abbrev pub greatest : ℕ → List ℕ → ℕ
greatest n [] = n
greatest n (x ∷ xs) = greatest (max n x) xs

abbrev pub is_above : Option ℕ → ℕ → Bool
is_above None id = true
is_above (Some floor) id = nat_lt floor id

-- behind a base, and these Dones of it and of epochs
pub record IsBehindDones (s : Setting) (base : List BaseEntry) (dones : List Done) (history : HistoryRules) : Type 0 where
  pub noted : AreNoted s.entry.keep dones history.dones
  pub floor : history.floor ≡ floor_in base

-- behind a base and the epochs that were committed over it
pub record IsBehind (s : Setting) (base : List BaseEntry) (commits : List Commit) (history : HistoryRules) : Type 0 where
  pub dones : IsBehindDones s base (kept_dones base ++ dones_in commits) history
  pub last_epoch : history.last_epoch ≡ greatest s.entry.layout.base_epoch (commit_epochs commits)
