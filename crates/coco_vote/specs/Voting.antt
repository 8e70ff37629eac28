-- What becomes of a world's entries while nodes vote.
use Rattle.std.specs.Prelude.{◌≡◌, ◌⊎◌, ℕ, ◌<◌, List, ◌∷◌}
use Rattle.coco_node.specs.Node.{greatest}
use Rattle.coco_world.specs.World.{World}

-- a node's entries have gained one of this epoch, which is above all of them
pub record GainsNewest (epoch : ℕ) (before after : List ℕ) : Type 0 where
  pub newest : greatest before < epoch
  pub gained : after ≡ epoch ∷ before

-- each node's entries are as they were, or have gained that of this epoch, and nothing else has become durable or was begun
pub record PreparesOnly (epoch : ℕ) (w after : World) : Type 0 where
  pub prepared : (n : ℕ) → (after.prepared n ≡ w.prepared n) ⊎ GainsNewest epoch (w.prepared n) (after.prepared n)
  pub commits : after.commits ≡ w.commits
  pub begun : after.begun ≡ w.begun
