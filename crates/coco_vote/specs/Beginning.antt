-- Nodes to which an epoch is new, and the ways of a world in which it is begun and voted on.
use Rattle.std.specs.Prelude.{◌≡◌, ◌⊎◌, ℕ, ◌<◌, List, ◌∷◌, Some}
use Rattle.std.specs.List.{slice_get}
use Rattle.coco_node.specs.Node.{Node}
use Rattle.coco_world.specs.World.{World}
use Rattle.coco_world.specs.Steps.{IsAbove}
use Rattle.coco_letters.specs.Worlds.{Arrives, IsWorld, Scene}
use Rattle.coco_vote.specs.Voting.{GainsNewest}

-- it forces nothing, and has neither an entry of the epoch nor lost its rows
pub record IsNew (epoch : ℕ) (core : Node) : Type 0 where
  pub idle : core.forcing ≡ 0
  pub kept : core.lost < epoch
  pub older : core.durable < epoch

abbrev pub AreNew : ℕ → List Node → Type 0
AreNew epoch cores = (n : ℕ) (core : Node) → slice_get cores n ≡ Some core → IsNew epoch core

-- the epoch was begun, each node's entries are as they were or have gained that of it, and nothing else has become durable
pub record StartsVote (epoch : ℕ) (w after : World) : Type 0 where
  pub prepared : (n : ℕ) → (after.prepared n ≡ w.prepared n) ⊎ GainsNewest epoch (w.prepared n) (after.prepared n)
  pub commits : after.commits ≡ w.commits
  pub begun : after.begun ≡ epoch ∷ w.begun

-- so it is with each world in which the epoch is above all
abbrev pub GoesOnVoted : ℕ → (ℕ → ℕ) → (ℕ → ℕ) → Scene → Scene → Type 0
GoesOnVoted epoch old new a b = (w : World) → IsWorld w a → IsAbove w epoch → Arrives old new (StartsVote epoch) a b w
