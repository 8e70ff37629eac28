-- Nodes that stop behind a commit entry, before they finish the epoch.
use Rattle.std.specs.Prelude.{◌≡◌, ◌⊎◌, ℕ, ◌<◌, All, Contains, List, [], ◌∷◌, ◌++◌, true, None, Some, slice_set}
use Rattle.std.specs.List.{slice_get}
use Rattle.coco_msg.specs.declared.message.Message.TheVariants.{Query}
use Rattle.coco_net.specs.declared.letter.Posted.{Posted}
use Rattle.coco_node.specs.declared.machine.TheConstants.{COORDINATOR}
use Rattle.coco_node.specs.Node.{restarted, Node}
use Rattle.coco_letters.specs.Saying.{posted}
use Rattle.coco_letters.specs.declared.voter.Voter.{Voter}

-- each node's newest entry is that of this epoch
abbrev pub AllHaveNewest : ℕ → List Node → Type 0
AllHaveNewest epoch cores = (n : ℕ) (core : Node) → slice_get cores n ≡ Some core → core.durable ≡ epoch

-- a node asks what became of an epoch
abbrev pub query_of : ℕ → ℕ → Posted
query_of n epoch = posted n COORDINATOR (Query epoch)

-- A node has stopped: it begins anew with the entry of the epoch, its tables are lost, and it asks what became of it.
pub record BeginsAnew (epoch n : ℕ) (voter : Voter) (cores_new : List Node) (voters_new : List Voter) (posts : List Posted) : Type 0 where
  pub core_is : slice_get cores_new n ≡ Some (restarted n (epoch ∷ []) None)
  pub voter_is : slice_get voters_new n ≡ Some (record voter { is_lost = true })
  pub asks : Contains posts (query_of n epoch)

-- a node goes on
pub record GoesOnSo (n : ℕ) (core : Node) (voter : Voter) (cores_new : List Node) (voters_new : List Voter) : Type 0 where
  pub core_is : slice_get cores_new n ≡ Some core
  pub voter_is : slice_get voters_new n ≡ Some voter

-- it has stopped where its count of stops rose, and goes on otherwise
abbrev pub StopsOrNot : ℕ → ℕ → (ℕ → ℕ) → (ℕ → ℕ) → Node → Voter → List Node → List Voter → List Posted → Type 0
StopsOrNot epoch n stopped stopped_new core voter cores_new voters_new posts =
    ((stopped n < stopped_new n) × BeginsAnew epoch n voter cores_new voters_new posts) ⊎ ((stopped_new n ≡ stopped n) × GoesOnSo n core voter cores_new voters_new)

-- So it is with the first nodes, and nothing else is sent.
pub record StopSome (epoch count : ℕ) (stopped stopped_new : ℕ → ℕ) (cores : List Node) (voters : List Voter) (sent : List Posted) (cores_new : List Node) (voters_new : List Voter) (sent_new : List Posted) : Type 0 where
  pub posts : List Posted
  pub sent_is : sent_new ≡ sent ++ posts
  pub only : All (λ p. (n : ℕ) × (p ≡ query_of n epoch)) posts
  pub nodes : (n : ℕ) (core : Node) (voter : Voter) → n < count → slice_get cores n ≡ Some core → slice_get voters n ≡ Some voter → StopsOrNot epoch n stopped stopped_new core voter cores_new voters_new posts

-- so it is with one node alone
abbrev pub StopsHere : ℕ → ℕ → (ℕ → ℕ) → (ℕ → ℕ) → List Node → Voter → List Posted → List Node → Voter → List Posted → Type 0
StopsHere epoch n stopped stopped_new cores voter sent cores_new voter_new sent_new =
    ((stopped n < stopped_new n) × (cores_new ≡ slice_set cores n (restarted n (epoch ∷ []) None)) × (voter_new ≡ record voter { is_lost = true }) × (sent_new ≡ sent ++ query_of n epoch ∷ []))
    ⊎ ((stopped_new n ≡ stopped n) × (cores_new ≡ cores) × (voter_new ≡ voter) × (sent_new ≡ sent))
