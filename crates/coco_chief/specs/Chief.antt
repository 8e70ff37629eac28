-- What the coordinator's core keeps. An epoch of 0 is none.
use Rattle.std.specs.Prelude.{ℕ, List, [], ◌∷◌, max, Bool, ◌==◌}
use Rattle.std.specs.List.{list_any}
use Rattle.coco_chief.specs.declared.machine.Phase.{Phase}

pub record Chief : Type 0 where
  pub nodes : ℕ
  pub committed : ℕ → Bool  -- which epochs are committed
  pub last : ℕ  -- the last of them
  pub current : ℕ  -- the epoch that was begun last
  pub phase : Phase  -- whether it is voting or forcing
  pub voted : List Bool  -- the nodes whose yes was counted
  pub finished : List Bool  -- the nodes that have finished the last committed epoch

-- a list of epochs has this one
abbrev pub has : List ℕ → ℕ → Bool
has epochs e = list_any (λ epoch. epoch == e) epochs

abbrev pub last_of : List ℕ → ℕ
last_of [] = 0
last_of (epoch ∷ epochs) = max epoch (last_of epochs)
