-- What may happen in a world, and what it does.
use Rattle.std.specs.Prelude.{◌≡◌, ◌≢◌, ℕ, zero, suc, ◌<◌, List, [], ◌∷◌, ◌++◌, Bool, true, false, Option, Some, None, if◌then◌else◌}
use Rattle.coco_msg.specs.declared.action.Action.{Action}
use Rattle.coco_msg.specs.declared.message.Message.{Message}
use Rattle.coco_node.specs.declared.machine.TheConstants.{COORDINATOR}
use Rattle.coco_node.specs.Node.{Node, restarted}
use Rattle.coco_node.specs.Table.{handled, forced, asks}
use Rattle.coco_chief.specs.Chief.{Chief, has}
use Rattle.coco_chief.specs.declared.machine.Phase.{Phase}
use Rattle.coco_chief.specs.declared.machine.Phase.TheVariants.{Rest, Forcing}
use Rattle.coco_chief.specs.Table.{begun, aborted, reminds, is_open, handled as chief_handled, forced as chief_forced}
use Rattle.coco_world.specs.World.{World, Letter, Among, put, sent, began_anew}

pub data Event : Type 0 where
  NodeTakes : (node : ℕ) (from : ℕ) (message : Message) → Event  -- a node takes a letter
  ChiefTakes : (from : ℕ) (message : Message) → Event  -- the coordinator takes one
  NodeForces : (node : ℕ) → Event  -- the entry that a node forces is durable
  ChiefForces : Event  -- the commit entry is durable
  Begins : (epoch : ℕ) → Event  -- the coordinator begins an epoch
  Aborts : Event  -- and gives one up
  Stops : (node : ℕ) (durable : Bool) (lost : Option ℕ) → Event  -- a node stops and begins anew, the entry that it forces durable first or not
  Asks : (node : ℕ) → Event
  Reminds : Event
  Crashes : Event  -- the process stops and begins anew

-- above each epoch that was begun, and each in a durable entry
pub record IsAbove (w : World) (epoch : ℕ) : Type 0 where
  pub begun : (e : ℕ) → has w.begun e ≡ true → e < epoch
  pub prepared : (n e : ℕ) → n < w.count → has (w.prepared n) e ≡ true → e < epoch
  pub committed : (e : ℕ) → has w.commits e ≡ true → e < epoch

-- when it may happen
abbrev pub May : World → Event → Type 0
May w (NodeTakes n from message) = (n < w.count) × Among w.letters (record { from = from; to = n; message = message })
May w (ChiefTakes from message) = Among w.letters (record { from = from; to = COORDINATOR; message = message })
May w (NodeForces n) = (n < w.count) × (0 < (w.cores n).forcing)
May w ChiefForces = w.chief.phase ≡ Forcing
May w (Begins epoch) = (w.chief.phase ≡ Rest) × (0 < epoch) × IsAbove w epoch
May w Aborts = is_open w.chief.phase ≡ true
May w (Stops n true lost) = (n < w.count) × (0 < (w.cores n).forcing)
May w (Stops n false lost) = n < w.count
May w (Asks n) = n < w.count
May w Reminds = Unit {0}
May w Crashes = Unit {0}

-- a node did its turn
abbrev pub after_node : World → ℕ → List Action × Node → World
after_node w n turn = record w { cores = put w.cores n turn.1; letters = sent n turn.0 ++ w.letters }

abbrev pub after_chief : World → List Action × Chief → World
after_chief w turn = record w { chief = turn.1; letters = sent COORDINATOR turn.0 ++ w.letters }

-- a node's entry is durable
abbrev pub made_durable : World → ℕ → ℕ → World
made_durable w n epoch = record w { prepared = put w.prepared n (epoch ∷ w.prepared n) }

abbrev pub stopped : World → ℕ → Option ℕ → World
stopped w n lost = record w { cores = put w.cores n (restarted n (w.prepared n) lost) }

-- what it does
abbrev pub happens : World → Event → World
happens w (NodeTakes n from message) = after_node w n (handled from message (w.cores n))
happens w (ChiefTakes from message) = after_chief w (chief_handled from message w.chief)
happens w (NodeForces n) = after_node (made_durable w n (w.cores n).forcing) n (forced (w.cores n).forcing (w.cores n))
happens w ChiefForces = after_chief (record w { commits = w.chief.current ∷ w.commits }) (chief_forced w.chief.current w.chief)
happens w (Begins epoch) = after_chief (record w { begun = epoch ∷ w.begun }) (begun epoch w.chief)
happens w Aborts = after_chief w (aborted w.chief)
happens w (Stops n true lost) = stopped (made_durable w n (w.cores n).forcing) n lost
happens w (Stops n false lost) = stopped w n lost
happens w (Asks n) = after_node w n (asks (w.cores n), w.cores n)
happens w Reminds = after_chief w (reminds w.chief, w.chief)
happens w Crashes = began_anew w.count w.prepared w.commits

-- a node answers this action
abbrev pub Answers : World → Event → ℕ → Action → Type 0
Answers w (NodeTakes m from message) n action = (n ≡ m) × Among (handled from message (w.cores m)).0 action
Answers w (NodeForces m) n action = (n ≡ m) × Among (forced (w.cores m).forcing (w.cores m)).0 action
Answers w (Asks m) n action = (n ≡ m) × Among (asks (w.cores m)) action
Answers w (ChiefTakes from message) n action = ⊥
Answers w ChiefForces n action = ⊥
Answers w (Begins epoch) n action = ⊥
Answers w Aborts n action = ⊥
Answers w (Stops m durable lost) n action = ⊥
Answers w Reminds n action = ⊥
Answers w Crashes n action = ⊥

-- one event after another, each where it may happen
abbrev pub run : World → List Event → World
run w [] = w
run w (event ∷ events) = run (happens w event) events

abbrev pub CanRun : World → List Event → Type 0
CanRun w [] = Unit {0}
CanRun w (event ∷ events) = May w event × CanRun (happens w event) events

-- entries of which each committed epoch is prepared by each node
abbrev pub AreGood : ℕ → (ℕ → List ℕ) → List ℕ → Type 0
AreGood count prepared commits = (e n : ℕ) → has commits e ≡ true → n < count → has (prepared n) e ≡ true
