-- What places do at letters.
use Rattle.std.specs.Prelude.{◌≡◌, ◌⊎◌, ◌<◌, ◌≤◌, ℕ, Contains, List, [], ◌∷◌, ◌++◌, ◌==◌, ◌&&◌, not, Bool, true, false, Option, Some, slice_set}
use Rattle.std.specs.List.{slice_get}
use Rattle.coco_msg.specs.declared.action.Action.{Action}
use Rattle.coco_msg.specs.declared.action.Action.TheVariants.{Send, Force, Promote, Revert}
use Rattle.coco_msg.specs.declared.message.Message.{Message}
use Rattle.coco_msg.specs.declared.message.Message.TheVariants.{Ship, Total, Missing, All, Prepare, Vote, Commit, Finished, Abort, Query, Tell}
use Rattle.coco_msg.specs.Bytes.{bytes_of}
use Rattle.coco_net.specs.declared.letter.Letter.{Letter}
use Rattle.coco_net.specs.declared.letter.Posted.{Posted}
use Rattle.coco_node.specs.declared.machine.TheConstants.{COORDINATOR}
use Rattle.coco_node.specs.Node.{Node}
use Rattle.coco_node.specs.Table.{asks, handled}
use Rattle.coco_chief.specs.Chief.{Chief}
use Rattle.coco_chief.specs.Table.{handled as chief_handled}
use Rattle.coco_letters.specs.declared.hearing.Phase.{Phase}
use Rattle.coco_letters.specs.declared.hearing.Phase.TheVariants.{Voting, Finishing, GivingUp}
use Rattle.coco_letters.specs.declared.nodes.Heard.{Heard}
use Rattle.coco_letters.specs.declared.nodes.Heard.TheVariants.{Nothing, Voted, Forces}
use Rattle.coco_letters.specs.Saying.{is_of_commit, posts_of, IsToSay}
use Rattle.coco_net.specs.declared.net.Net.{Ghosts as NetGhosts}

-- the letter is this message of a commit, from this place
pub record IsFrom (place : ℕ) (letter : Letter) (m : Message) : Type 0 where
  pub from : letter.from ≡ place
  pub say : IsToSay m
  pub bytes : letter.bytes ≡ bytes_of m

-- what a node waits for: to be asked for its vote, to hear that an epoch is committed, or that it is aborted
abbrev pub is_awaited : Phase → ℕ → Message → Bool
is_awaited Voting e (Prepare of) = of == e
is_awaited Voting e _ = false
is_awaited Finishing e (Commit of) = of == e
is_awaited Finishing e (Tell of committed) = committed && of == e
is_awaited Finishing e _ = false
is_awaited GivingUp e (Abort of) = of == e
is_awaited GivingUp e (Tell of committed) = not committed && of == e
is_awaited GivingUp e _ = false

-- A node takes a message of the coordinator: its core's turn is that of its table, and the letters go out.
pub record Takes (n : ℕ) (m : Message) (cores : List Node) (sent : List Posted) (cores_new : List Node) (sent_new : List Posted) (actions : List Action) : Type 0 where
  pub core : Node
  pub there : slice_get cores n ≡ Some core
  pub answered : actions ≡ (handled COORDINATOR m core).0
  pub cores_are : cores_new ≡ slice_set cores n (handled COORDINATOR m core).1
  pub sent_is : sent_new ≡ sent ++ posts_of n actions

-- a letter is such a message, or it is none
abbrev pub IsSuchOrNone : ℕ → Letter → (Message → Bool) → Type 0
IsSuchOrNone place letter such = ((m : Message) × IsFrom place letter m × (such m ≡ true)) ⊎ ((m : Message) → IsFrom place letter m → such m ≡ true → ⊥)

-- It does so at the letters of a phase alone, and drops the others.
pub record Hears (phase : Phase) (e n : ℕ) (letter : Letter) (cores : List Node) (sent : List Posted) (cores_new : List Node) (sent_new : List Posted) (actions : List Action) : Type 0 where
  pub takes : (m : Message) → IsFrom COORDINATOR letter m → is_awaited phase e m ≡ true → Takes n m cores sent cores_new sent_new actions
  pub drops : ((m : Message) → IsFrom COORDINATOR letter m → is_awaited phase e m ≡ true → ⊥) → (cores_new ≡ cores) × (sent_new ≡ sent) × (actions ≡ [])
  pub either : IsSuchOrNone COORDINATOR letter (is_awaited phase e)

-- what came of being asked for a vote
abbrev pub heard_of : List Action → Heard
heard_of [] = Nothing
heard_of (Send to m ∷ actions) = Voted
heard_of (Force e ∷ actions) = Forces e
heard_of (Promote e ∷ actions) = Nothing
heard_of (Revert e ∷ actions) = Nothing

-- whether the rows of the epoch are to be made stable
abbrev pub promotes : List Action → Bool
promotes [] = false
promotes (Send to m ∷ actions) = false
promotes (Force e ∷ actions) = false
promotes (Promote e ∷ actions) = true
promotes (Revert e ∷ actions) = false

-- The coordinator takes the message of a letter, and what it says goes out. It drops what is no message of a commit.
pub record ChiefHears (letter : Letter) (chief : Chief) (sent : List Posted) (chief_new : Chief) (sent_new : List Posted) : Type 0 where
  pub takes : (m : Message) → IsFrom letter.from letter m → (chief_new ≡ (chief_handled letter.from m chief).1) × (sent_new ≡ sent ++ posts_of COORDINATOR (chief_handled letter.from m chief).0)
  pub drops : ((m : Message) → IsFrom letter.from letter m → ⊥) → (chief_new ≡ chief) × (sent_new ≡ sent)
  pub either : IsSuchOrNone letter.from letter is_of_commit

-- ---- turns that a core takes of itself

-- a node forces the entry of an epoch, which is newer than all that it has
pub record IsForcing (epoch n : ℕ) (cores : List Node) : Type 0 where
  pub core : Node
  pub there : slice_get cores n ≡ Some core
  pub some : 0 < epoch
  pub forcing : core.forcing ≡ epoch
  pub newer : core.durable < epoch

-- A node's core takes this turn, and the letters go out.
pub record NodeTurns (n : ℕ) (turn : Node → List Action × Node) (cores : List Node) (sent : List Posted) (cores_new : List Node) (sent_new : List Posted) : Type 0 where
  pub core : Node
  pub there : slice_get cores n ≡ Some core
  pub cores_are : cores_new ≡ slice_set cores n (turn core).1
  pub sent_is : sent_new ≡ sent ++ posts_of n (turn core).0

-- A node asks what became of its newest durable epoch, where it doesn't know.
pub record NodeAsks (n : ℕ) (cores : List Node) (sent sent_new : List Posted) : Type 0 where
  pub core : Node
  pub there : slice_get cores n ≡ Some core
  pub sent_is : sent_new ≡ sent ++ posts_of n (asks core)

-- The coordinator's core takes this turn, and the letters go out.
pub record ChiefTurns (turn : List Action × Chief) (sent : List Posted) (chief_new : Chief) (sent_new : List Posted) : Type 0 where
  pub chief_is : chief_new ≡ turn.1
  pub sent_is : sent_new ≡ sent ++ posts_of COORDINATOR turn.0

-- ---- a net

-- each letter that waits at a place was sent to it
abbrev pub AreSent : List Posted → (ℕ → List Letter) → Type 0
AreSent sent waiting = (place : ℕ) (l : Letter) → place ≤ 8 → Contains (waiting place) l → Contains sent (record { to = place; letter = l })

-- what was sent is new to the next round
pub record AreFresh (sent fresh sent_new fresh_new : List Posted) : Type 0 where
  pub posts : List Posted
  pub sent_is : sent_new ≡ sent ++ posts
  pub fresh_is : fresh_new ≡ fresh ++ posts

-- a net later, whatever was answered: more was sent
abbrev pub SendsMore : List Posted → List Posted → Type 0
SendsMore sent sent_new = (more : List Posted) × (sent_new ≡ sent ++ more)

-- a net has given nothing, lost nothing, and wasn't asked for disturbances
pub record Counts (given : List Posted) (faults : ℕ) (seed : Option ℕ) (given_new : List Posted) (faults_new : ℕ) (seed_new : Option ℕ) : Type 0 where
  pub given_stays : given_new ≡ given
  pub faults_stay : faults_new ≡ faults
  pub seed_stays : seed_new ≡ seed

-- letters may have been sent, and nothing else has become of a net
pub record OnlySends {N : Type 0} (nets : NetGhosts N) (net net_new : N) : Type 0 where
  pub fresh : AreFresh (nets.sent net) (nets.fresh net) (nets.sent net_new) (nets.fresh net_new)
  pub waiting : (p : ℕ) → nets.waiting net_new p ≡ nets.waiting net p
  pub counts : Counts (nets.given net) (nets.faults net) (nets.last_seed net) (nets.given net_new) (nets.faults net_new) (nets.last_seed net_new)
