-- The number of the epoch that comes next.
use Rattle.std.specs.Prelude.{◌≡◌, ℕ, ◌+◌, ◌<◌, true, nat_eq, List, ◌∷◌, ◌++◌}
use Rattle.std.specs.List.{AllByRecursion, flat_map, range_with_len}
use Rattle.std.specs.Set.{is_member}
use Rattle.coco_store.specs.Contents.{Contents}
use Rattle.coco_store.specs.Rules.{commit_epochs, prepared_epochs}

-- above all of these epochs, and one more than one of them
pub record IsNextTo (epochs : List ℕ) (epoch : ℕ) : Type 0 where
  pub above : AllByRecursion (λ e. e < epoch) epochs
  pub greatest : ℕ
  pub one : is_member nat_eq epochs greatest ≡ true
  pub next : epoch ≡ greatest + 1

-- that of the base, those of the commit entries, and those that the nodes prepared
abbrev pub epochs_in : Contents → List ℕ
epochs_in c =
    c.setting.entry.layout.base_epoch ∷ commit_epochs c.commits ++ flat_map (λ n. prepared_epochs (c.prepared n)) (range_with_len 0 c.setting.entry.layout.nodes)

abbrev pub IsNextOf : Contents → ℕ → Type 0
IsNextOf c = IsNextTo (epochs_in c)
