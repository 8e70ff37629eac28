-- What is still ahead of nodes that vote: it gets less with each stop, so that a vote ends.
use Rattle.std.specs.Prelude.{ℕ, zero, suc, ◌+◌, ◌<◌, ◌≤◌, Bool, true, false, List, unwrap_or}
use Rattle.std.specs.List.{slice_get}
use Rattle.std.specs.Option.{option_map}
use Rattle.coco_node.specs.Node.{Node}
use Rattle.coco_letters.specs.declared.voter.Voter.{Voter}
use Rattle.coco_vote.specs.declared.step.Stops.{Stops}
use Rattle.coco_vote.specs.declared.step.Stops.TheVariants.{Never, Late, Early}
use Rattle.coco_vote.specs.Preparing.{have_durable}

abbrev pub lacks : Bool → ℕ
lacks true = 0
lacks false = 1

-- ahead of a node: its entry, and to be asked for a stop behind its vote
abbrev pub ahead_of : ℕ → List Node → ℕ → Voter → ℕ
ahead_of epoch cores n voter = lacks (have_durable epoch cores n) + lacks voter.asked_after_vote

-- and ahead of so many nodes
abbrev pub all_ahead : ℕ → List Node → List Voter → ℕ → ℕ
all_ahead epoch cores voters zero = 0
all_ahead epoch cores voters (suc n) = all_ahead epoch cores voters n + unwrap_or (option_map (ahead_of epoch cores n) (slice_get voters n)) 0

-- it is no more than before, and less where some node has stopped
abbrev pub Nears : Stops → ℕ → ℕ → Type 0
Nears Never ahead left = left ≤ ahead
Nears Late ahead left = left < ahead
Nears Early ahead left = Unit {0}
