-- What nodes do that are to finish a committed epoch.
use Rattle.std.specs.Prelude.{◌≡◌, ◌≢◌, ◌⊎◌, ℕ, ◌≤◌, Bool, true, false, List, [], ◌∷◌, ◌++◌, Some, Contains, slice_set, slice_index_or}
use Rattle.std.specs.List.{slice_get}
use Rattle.coco_ast.specs.Keyed.{Rows}
use Rattle.coco_msg.specs.declared.message.Message.{Message}
use Rattle.coco_msg.specs.declared.message.Message.TheVariants.{Finished}
use Rattle.coco_net.specs.declared.letter.Letter.{Letter}
use Rattle.coco_net.specs.declared.letter.Posted.{Posted}
use Rattle.coco_node.specs.declared.machine.TheConstants.{COORDINATOR}
use Rattle.coco_node.specs.declared.machine.Decision.TheVariants.{Unknown, Committed, Aborted}
use Rattle.coco_node.specs.Node.{Node}
use Rattle.coco_letters.specs.declared.hearing.Phase.TheVariants.{Finishing}
use Rattle.coco_letters.specs.Saying.{posted}
use Rattle.coco_letters.specs.Turns.{is_awaited, IsFrom}
use Rattle.coco_standing.specs.Standing.{AreCounted, NodeIsFrom, NodePromotes, OthersStay, TablesStand}
use Rattle.coco_finish.specs.declared.tables.NodeTables.{NodeTables}

-- ---- tables

-- whether a node is behind
abbrev pub is_behind : List Bool → ℕ → Bool
is_behind behind n = slice_index_or behind n false

-- the tables of the nodes have a map, where those that are behind promote theirs
abbrev pub HaveMap : Rows → NodeTables → Type 0
HaveMap m t = TablesStand t.layout m (is_behind t.behind.items) t.shards.items t.copies.items

-- the tables are as many as the layout says
abbrev pub AreWhole : NodeTables → Type 0
AreWhole t = AreCounted t.layout t.shards.items t.copies.items

-- A node's tables are promoted, and it isn't behind any more. Those of all others are as they were.
pub record CatchesUp (n : ℕ) (old new : NodeTables) : Type 0 where
  pub layout : new.layout ≡ old.layout
  pub promoted : NodePromotes old.layout n old.shards.items old.copies.items new.shards.items new.copies.items
  pub others : OthersStay old.layout n old.shards.items old.copies.items new.shards.items new.copies.items
  pub behind : new.behind.items ≡ slice_set old.behind.items n false

-- so it is where it promotes, and else nothing changes
abbrev pub CatchesUpIf : Bool → ℕ → NodeTables → NodeTables → Type 0
CatchesUpIf true n old new = CatchesUp n old new
CatchesUpIf false n old new = new ≡ old

-- ---- cores

-- a node that can finish a committed epoch: it has the entry or a newer one, and doesn't take the epoch for aborted
pub record CanFinish (epoch : ℕ) (core : Node) : Type 0 where
  pub has : epoch ≤ core.durable
  pub stands : core.durable ≡ epoch → core.decision ≢ Aborted

abbrev pub AllCanFinish : ℕ → List Node → Type 0
AllCanFinish epoch cores = (n : ℕ) (core : Node) → slice_get cores n ≡ Some core → CanFinish epoch core

-- it has heard nothing of the epoch yet, which is its newest
pub record HasYetToHear (epoch : ℕ) (core : Node) : Type 0 where
  pub newest : core.durable ≡ epoch
  pub unknown : core.decision ≡ Unknown

-- so it is with each node that is behind
abbrev pub AreBehind : ℕ → List Node → List Bool → Type 0
AreBehind epoch cores behind = (n : ℕ) (core : Node) → slice_get cores n ≡ Some core → is_behind behind n ≡ true → HasYetToHear epoch core

-- ---- letters

-- the letter tells a node that the epoch is committed
abbrev pub TellsCommitted : ℕ → Letter → Type 0
TellsCommitted epoch letter = (m : Message) × IsFrom COORDINATOR letter m × (is_awaited Finishing epoch m ≡ true)

-- a node says that it has finished
abbrev pub finished_of : ℕ → ℕ → Posted
finished_of n epoch = posted n COORDINATOR (Finished epoch)

abbrev pub SaysFinished : ℕ → ℕ → List Posted → List Posted → Type 0
SaysFinished n epoch sent sent_new = sent_new ≡ sent ++ finished_of n epoch ∷ []

-- a node hears for the first time that its newest epoch is committed
pub record HearsFirst (epoch n : ℕ) (cores cores_new : List Node) : Type 0 where
  pub core : Node
  pub there : slice_get cores n ≡ Some core
  pub yet : HasYetToHear epoch core
  pub cores_are : cores_new ≡ slice_set cores n (record core { decision = Committed })

-- it has heard so before, or has a newer entry
pub record HeardBefore (epoch n : ℕ) (cores cores_new : List Node) : Type 0 where
  pub core : Node
  pub there : slice_get cores n ≡ Some core
  pub before : HasYetToHear epoch core → ⊥
  pub cores_stay : cores_new ≡ cores

-- What a node does at a letter: told that the epoch is committed it says that it has finished, each time, and the first time its tables
-- are promoted. At any other letter it does nothing.
abbrev pub FinishesSo : Bool → ℕ → ℕ → Letter → List Node → List Posted → List Node → List Posted → Type 0
FinishesSo true epoch n letter cores sent cores_new sent_new = TellsCommitted epoch letter × HearsFirst epoch n cores cores_new × SaysFinished n epoch sent sent_new
FinishesSo false epoch n letter cores sent cores_new sent_new =
    (TellsCommitted epoch letter × HeardBefore epoch n cores cores_new × SaysFinished n epoch sent sent_new) ⊎ ((TellsCommitted epoch letter → ⊥) × (cores_new ≡ cores) × (sent_new ≡ sent))

-- no node that is behind is told to have finished
abbrev pub AreTold : ℕ → List Posted → List Bool → Type 0
AreTold epoch sent behind = (n : ℕ) → Contains sent (finished_of n epoch) → is_behind behind n ≡ false

-- ---- all nodes

-- nothing has changed of a node
pub record Stays (k : ℕ) (cores cores_new : List Node) (old new : NodeTables) : Type 0 where
  pub core : slice_get cores_new k ≡ slice_get cores k
  pub tables : NodeIsFrom old.layout k old.shards.items old.copies.items new.shards.items new.copies.items
  pub behind : is_behind new.behind.items k ≡ is_behind old.behind.items k

-- or it has heard for the first time that its newest epoch is committed, and its tables are promoted
pub record Promotes (epoch k : ℕ) (cores cores_new : List Node) (old new : NodeTables) : Type 0 where
  pub core : Node
  pub there : slice_get cores k ≡ Some core
  pub yet : HasYetToHear epoch core
  pub heard : slice_get cores_new k ≡ Some (record core { decision = Committed })
  pub tables : NodePromotes old.layout k old.shards.items old.copies.items new.shards.items new.copies.items
  pub behind : is_behind new.behind.items k ≡ false

-- so it is with each
pub record Finish (epoch : ℕ) (cores cores_new : List Node) (old new : NodeTables) : Type 0 where
  pub layout : new.layout ≡ old.layout
  pub nodes : (k : ℕ) → Stays k cores cores_new old new ⊎ Promotes epoch k cores cores_new old new
