-- What becomes of nodes while an epoch is given up.
use Rattle.std.specs.Prelude.{◌≡◌, ◌⊎◌, ℕ, List, Some, length}
use Rattle.std.specs.List.{slice_get}
use Rattle.coco_node.specs.Node.{Node}
use Rattle.coco_node.specs.declared.machine.Decision.TheVariants.{Unknown, Aborted}

-- a node may learn that the epoch is aborted, where it is its newest, and forces it no longer
pub record GivesUp (epoch : ℕ) (core now : Node) : Type 0 where
  pub number : now.number ≡ core.number
  pub durable : now.durable ≡ core.durable
  pub lost : now.lost ≡ core.lost
  pub decision : (now.decision ≡ core.decision) ⊎ ((core.durable ≡ epoch) × (core.decision ≡ Unknown) × (now.decision ≡ Aborted))
  pub forcing : (now.forcing ≡ core.forcing) ⊎ ((core.forcing ≡ epoch) × (now.forcing ≡ 0))

-- so it is with each
pub record GiveUp (epoch : ℕ) (cores cores_new : List Node) : Type 0 where
  pub many : length cores_new ≡ length cores
  pub each : (n : ℕ) (now : Node) → slice_get cores_new n ≡ Some now → (core : Node) × (slice_get cores n ≡ Some core) × GivesUp epoch core now

-- where the newest entry of a node is of the epoch, it knows what became of that
abbrev pub IsOverAt : ℕ → ℕ → List Node → Type 0
IsOverAt epoch n cores = (core : Node) → slice_get cores n ≡ Some core → core.durable ≡ epoch → core.decision ≡ Unknown → ⊥
