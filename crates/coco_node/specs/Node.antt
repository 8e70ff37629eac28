-- What a node's core keeps. An epoch of 0 is none.
use Rattle.std.specs.Prelude.{ℕ, List, [], ◌∷◌, max, Bool, true, false, Option, unwrap_or}
use Rattle.coco_node.specs.declared.machine.Decision.{Decision}
use Rattle.coco_node.specs.declared.machine.Decision.TheVariants.{Unknown, Committed, Aborted}

pub record Node : Type 0 where
  pub number : ℕ
  pub durable : ℕ  -- the greatest epoch of its entries
  pub decision : Decision  -- what became of that epoch
  pub forcing : ℕ  -- the epoch whose entry is being made durable
  pub lost : ℕ  -- the epoch whose rows a stop took away

abbrev pub greatest : List ℕ → ℕ
greatest [] = 0
greatest (epoch ∷ epochs) = max epoch (greatest epochs)

-- a core that begins anew from the epochs of its entries
abbrev pub restarted : ℕ → List ℕ → Option ℕ → Node
restarted number epochs lost = record { number = number; durable = greatest epochs; decision = Unknown; forcing = 0; lost = unwrap_or lost 0 }

abbrev pub is_unknown : Decision → Bool
is_unknown Unknown = true
is_unknown Committed = false
is_unknown Aborted = false

abbrev pub is_committed : Decision → Bool
is_committed Unknown = false
is_committed Committed = true
is_committed Aborted = false
