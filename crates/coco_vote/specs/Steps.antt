-- What becomes of a node that forces the entry of an epoch.
use Rattle.std.specs.Prelude.{◌≡◌, ℕ, List, [], ◌∷◌, ◌++◌, Bool, true, false, ◌||◌, None, Some, slice_set}
use Rattle.std.specs.List.{slice_get}
use Rattle.coco_msg.specs.declared.message.Message.TheVariants.{Query, Vote}
use Rattle.coco_net.specs.declared.letter.Posted.{Posted}
use Rattle.coco_node.specs.declared.machine.TheConstants.{COORDINATOR}
use Rattle.coco_node.specs.Node.{Node, restarted}
use Rattle.coco_node.specs.Table.{forced}
use Rattle.coco_letters.specs.Saying.{posted}
use Rattle.coco_letters.specs.declared.voter.Voter.{Voter}
use Rattle.coco_vote.specs.declared.step.Step.{Step}
use Rattle.coco_vote.specs.declared.step.Step.TheVariants.{Voted, Restarted, Stopped}

-- whether the node has stopped
abbrev pub has_stopped : Step → Bool
has_stopped Voted = false
has_stopped (Restarted voted) = true
has_stopped Stopped = true

-- whether that was before its entry, so that its rows are lost
abbrev pub is_early : Step → Bool
is_early Voted = false
is_early (Restarted voted) = false
is_early Stopped = true

-- whether its vote has gone out
abbrev pub has_voted : Step → Bool
has_voted Voted = true
has_voted (Restarted voted) = voted
has_voted Stopped = false

-- its core: the entry is durable, where the node didn't stop before it
abbrev pub core_behind : Step → ℕ → ℕ → Node → Node
core_behind Voted n epoch core = (forced epoch core).1
core_behind (Restarted voted) n epoch core = restarted n (epoch ∷ []) None
core_behind Stopped n epoch core = restarted n (core.durable ∷ []) (Some epoch)

-- its letters: its vote, and once it has begun anew with the entry it asks what became of the epoch
abbrev pub letters_in : Step → ℕ → ℕ → List Posted
letters_in Voted n epoch = posted n COORDINATOR (Vote epoch true) ∷ []
letters_in (Restarted true) n epoch = posted n COORDINATOR (Vote epoch true) ∷ posted n COORDINATOR (Query epoch) ∷ []
letters_in (Restarted false) n epoch = posted n COORDINATOR (Query epoch) ∷ []
letters_in Stopped n epoch = []

pub record Steps (step : Step) (n epoch : ℕ) (cores : List Node) (sent : List Posted) (cores_new : List Node) (sent_new : List Posted) : Type 0 where
  pub core : Node
  pub there : slice_get cores n ≡ Some core
  pub cores_are : cores_new ≡ slice_set cores n (core_behind step n epoch core)
  pub sent_is : sent_new ≡ sent ++ letters_in step n epoch

-- what is kept of the step: a node that has stopped has lost its tables, and one that has voted was asked for a stop behind that
pub record Marks (step : Step) (voter voter_new : Voter) : Type 0 where
  pub lost : voter_new.is_lost ≡ (has_stopped step || voter.is_lost)
  pub asked : voter_new.asked_after_vote ≡ (has_voted step || voter.asked_after_vote)

-- What becomes of a node that has voted: it goes on, or it stops behind its vote and begins anew.
abbrev pub EndsVote : Step → ℕ → ℕ → List Node → List Posted → List Node → List Posted → Type 0
EndsVote Voted n epoch cores sent cores_new sent_new = (cores_new ≡ cores) × (sent_new ≡ sent)
EndsVote (Restarted true) n epoch cores sent cores_new sent_new = (cores_new ≡ slice_set cores n (restarted n (epoch ∷ []) None)) × (sent_new ≡ sent ++ posted n COORDINATOR (Query epoch) ∷ [])
EndsVote (Restarted false) n epoch cores sent cores_new sent_new = ⊥
EndsVote Stopped n epoch cores sent cores_new sent_new = ⊥

-- the newest entry of a node is of this epoch
pub record HasNewest (epoch n : ℕ) (cores : List Node) : Type 0 where
  pub core : Node
  pub there : slice_get cores n ≡ Some core
  pub newest : core.durable ≡ epoch
