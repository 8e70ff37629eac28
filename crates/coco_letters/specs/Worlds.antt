-- The world of cores and of a net's letters, and the ways that it goes.
use Rattle.std.specs.Prelude.{◌≡◌, ℕ, ◌<◌, ◌≤◌, List, ◌∷◌, length, Bool, Option, Some, Contains}
use Rattle.std.specs.List.{slice_get, AllByRecursion}
use Rattle.coco_msg.specs.declared.message.Message.{Message}
use Rattle.coco_net.specs.declared.letter.Posted.{Posted}
use Rattle.coco_node.specs.Node.{Node, greatest}
use Rattle.coco_chief.specs.Chief.{Chief}
use Rattle.coco_world.specs.World.{World, Letter, Among, put, began_anew}
use Rattle.coco_world.specs.Steps.{Event, NodeTakes, ChiefTakes, NodeForces, ChiefForces, Begins, Aborts, Stops, Asks, Reminds, Crashes, AreGood, CanRun, IsAbove, run}
use Rattle.coco_letters.specs.Saying.{posted, IsToSay}

-- the cores of the nodes and of the coordinator, and the letters that were sent
pub record Scene : Type 0 where
  pub cores : List Node
  pub chief : Chief
  pub sent : List Posted

-- a letter of a commit is among those that were sent
pub record IsSaid (posts : List Posted) (l : Letter) : Type 0 where
  pub among : Contains posts (posted l.from l.to l.message)
  pub say : IsToSay l.message

-- the cores are the world's, and all that is told as sent is in it
pub record IsWorld (w : World) (a : Scene) : Type 0 where
  pub count : w.count ≡ length a.cores
  pub nodes : (n : ℕ) → n < w.count → slice_get a.cores n ≡ Some (w.cores n)
  pub chief_is : w.chief ≡ a.chief
  pub told : (l : Letter) → IsSaid a.sent l → Among w.letters l
  pub durable : (n : ℕ) → n < w.count → (w.cores n).durable ≡ greatest (w.prepared n)

-- and nothing else is
abbrev pub IsOnlySaid : World → List Posted → Type 0
IsOnlySaid w sent = (l : Letter) → Among w.letters l → IsSaid sent l

-- the process doesn't crash, and a node stops only where the count of its stops rose
abbrev pub StopIsTold : (ℕ → ℕ) → (ℕ → ℕ) → Event → Type 0
StopIsTold old new (Stops n durable lost) = (n < 8) × (old n < new n)
StopIsTold old new Crashes = ⊥
StopIsTold old new (NodeTakes n from message) = Unit {0}
StopIsTold old new (ChiefTakes from message) = Unit {0}
StopIsTold old new (NodeForces n) = Unit {0}
StopIsTold old new ChiefForces = Unit {0}
StopIsTold old new (Begins epoch) = Unit {0}
StopIsTold old new Aborts = Unit {0}
StopIsTold old new (Asks n) = Unit {0}
StopIsTold old new Reminds = Unit {0}

-- One world becomes another by steps, between these counts of the nodes' stops.
pub record Goes (old new : ℕ → ℕ) (w after : World) : Type 0 where
  pub events : List Event
  pub can : CanRun w events
  pub to : run w events ≡ after
  pub told : AllByRecursion (StopIsTold old new) events
  pub rises : (n : ℕ) → n < 8 → old n ≤ new n

-- The world of a scene becomes that of another: no letter is in it but those that were sent, where that was so, and
-- of the entries this holds.
pub record Arrives (old new : ℕ → ℕ) (Made : World → World → Type 0) (a b : Scene) (w : World) : Type 0 where
  pub after : World
  pub goes : Goes old new w after
  pub is : IsWorld after b
  pub only : IsOnlySaid w a.sent → IsOnlySaid after b.sent
  pub made : Made w after

-- nothing has become durable, and no epoch was begun
pub record SameEntries (w after : World) : Type 0 where
  pub prepared : after.prepared ≡ w.prepared
  pub commits : after.commits ≡ w.commits
  pub begun : after.begun ≡ w.begun

-- a node's entry of this epoch has become durable, and nothing else
pub record Prepares (n epoch : ℕ) (w after : World) : Type 0 where
  pub prepared : after.prepared ≡ put w.prepared n (epoch ∷ w.prepared n)
  pub commits : after.commits ≡ w.commits
  pub begun : after.begun ≡ w.begun

-- the coordinator's entry of this epoch has become durable, and nothing else
pub record Commits (epoch : ℕ) (w after : World) : Type 0 where
  pub prepared : after.prepared ≡ w.prepared
  pub commits : after.commits ≡ epoch ∷ w.commits
  pub begun : after.begun ≡ w.begun

-- this epoch was begun, and nothing has become durable
pub record Starts (epoch : ℕ) (w after : World) : Type 0 where
  pub prepared : after.prepared ≡ w.prepared
  pub commits : after.commits ≡ w.commits
  pub begun : after.begun ≡ epoch ∷ w.begun

-- each world of a scene becomes one of another, with no stop
abbrev pub GoesOnWith : (World → World → Type 0) → Scene → Scene → Type 0
GoesOnWith Made a b = (counts : ℕ → ℕ) (w : World) → IsWorld w a → Arrives counts counts Made a b w

-- and with no entry
abbrev pub GoesOn : Scene → Scene → Type 0
GoesOn = GoesOnWith SameEntries

-- each in which this epoch is above all does, and it is begun
abbrev pub GoesOnAbove : ℕ → Scene → Scene → Type 0
GoesOnAbove epoch a b = (counts : ℕ → ℕ) (w : World) → IsWorld w a → IsAbove w epoch → Arrives counts counts (Starts epoch) a b w

-- and with a stop of a node, which the counts tell
abbrev pub GoesOnStopped : ℕ → (World → World → Type 0) → Scene → Scene → Type 0
GoesOnStopped n Made a b = (old new : ℕ → ℕ) (w : World) → n < 8 → ((k : ℕ) → k < 8 → old k ≤ new k) → old n < new n → IsWorld w a → Arrives old new Made a b w

-- between these counts of the nodes' stops
abbrev pub GoesBetween : (ℕ → ℕ) → (ℕ → ℕ) → (World → World → Type 0) → Scene → Scene → Type 0
GoesBetween old new Made a b = (w : World) → IsWorld w a → Arrives old new Made a b w

-- a world that good entries lead to
pub record IsReached (w : World) : Type 0 where
  pub count : ℕ
  pub prepared : ℕ → List ℕ
  pub commits : List ℕ
  pub events : List Event
  pub good : AreGood count prepared commits
  pub can : CanRun (began_anew count prepared commits) events
  pub is : w ≡ run (began_anew count prepared commits) events
