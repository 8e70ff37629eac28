-- What is remembered of the entries that a node prepared, beside the committed epochs.
use Rattle.std.specs.Prelude.{◌≡◌, ◌≤◌, ◌↔◌, ℕ, false, true, nat_eq, List, ◌++◌}
use Rattle.std.specs.List.{AllByRecursion}
use Rattle.std.specs.Set.{is_member}
use Rattle.coco_ast.specs.History.{RisesAbove}
use Rattle.coco_entry.specs.declared.prepared.Prepared.{Prepared}
use Rattle.coco_store.specs.Rules.{Setting, prepared_epochs}
use Rattle.coco_rules.specs.Behind.{greatest}
use Rattle.coco_rules.specs.declared.prepared.NodeRules.{NodeRules}

-- each of these numbers is among the others
abbrev pub AreAmong : List ℕ → List ℕ → Type 0
AreAmong others = AllByRecursion (λ x. is_member nat_eq others x ≡ true)

-- the committed epochs above the last entry's are still to come, and of the others it is known whether one lacks an entry
pub record IsBehindPrepared (s : Setting) (committed : List ℕ) (before : List Prepared) (node : NodeRules) : Type 0 where
  pub last_epoch : node.last_epoch ≡ greatest s.entry.layout.base_epoch (prepared_epochs before)
  pub gone : List ℕ
  pub cut : committed ≡ gone ++ node.coming.now
  pub passed : AllByRecursion (λ e. e ≤ node.last_epoch) gone
  pub rises : RisesAbove node.last_epoch node.coming.now
  pub lacking : (node.is_lacking ≡ false) ↔ AreAmong (prepared_epochs before) gone
