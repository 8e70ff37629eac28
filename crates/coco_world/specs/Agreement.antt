-- What holds in every world that can be reached: of each core, of each letter ever sent, of each durable entry.
use Rattle.std.specs.Prelude.{◌≡◌, ◌⊎◌, ℕ, ◌<◌, ◌≤◌, List, length, slice_index_or, Bool, true, false}
use Rattle.std.specs.List.{list_all}
use Rattle.coco_msg.specs.declared.message.Message.{Message}
use Rattle.coco_msg.specs.declared.message.Message.TheVariants.{Ship, Total, Missing, All, Prepare, Vote, Commit, Finished, Abort, Query, Tell}
use Rattle.coco_node.specs.declared.machine.TheConstants.{COORDINATOR}
use Rattle.coco_node.specs.declared.machine.Decision.TheVariants.{Committed}
use Rattle.coco_node.specs.Node.{Node, greatest}
use Rattle.coco_chief.specs.Chief.{Chief, has}
use Rattle.coco_chief.specs.declared.machine.Phase.TheVariants.{Forcing}
use Rattle.coco_chief.specs.Table.{is_open}
use Rattle.coco_world.specs.World.{World, Letter, Among}

-- begun, or in a node's durable entry
abbrev pub IsKnown : World → ℕ → Type 0
IsKnown w e = (has w.begun e ≡ true) ⊎ ((n : ℕ) × (n < w.count) × (has (w.prepared n) e ≡ true))

-- an epoch that will never be committed: its number isn't given again, and the coordinator has given it up
pub record IsDead (w : World) (e : ℕ) : Type 0 where
  pub known : IsKnown w e
  pub uncommitted : has w.commits e ≡ false
  pub given_up : is_open w.chief.phase ≡ true → w.chief.current ≡ e → ⊥

-- a node has made the rows of an epoch stable: it is behind it, or knows that it is committed
abbrev pub HasFinished : Node → ℕ → Type 0
HasFinished core e = (e < core.durable) ⊎ ((e ≡ core.durable) × (core.decision ≡ Committed))

-- of each letter ever sent
abbrev pub LetterHolds : World → ℕ → Message → Type 0
LetterHolds w from (Vote e true) = has (w.prepared from) e ≡ true
LetterHolds w from (Vote e false) = Unit {0}
LetterHolds w from (Commit e) = has w.commits e ≡ true
LetterHolds w from (Tell e true) = has w.commits e ≡ true
LetterHolds w from (Tell e false) = IsDead w e
LetterHolds w from (Abort e) = IsDead w e
LetterHolds w from (Query e) = has (w.prepared from) e ≡ true
LetterHolds w from (Finished e) = has w.commits e ≡ true
LetterHolds w from (Prepare e) = Unit {0}
LetterHolds w from (Ship e partition place time writes) = Unit {0}
LetterHolds w from (Total e partition places) = Unit {0}
LetterHolds w from (Missing e partition places) = Unit {0}
LetterHolds w from (All e partition) = Unit {0}

-- of each node's core
pub record NodeHolds (core : Node) (prepared : List ℕ) : Type 0 where
  pub durable : core.durable ≡ greatest prepared
  pub forcing : 0 < core.forcing → core.durable < core.forcing

-- of the coordinator's core
pub record ChiefHolds (count : ℕ) (prepared : ℕ → List ℕ) (commits begun : List ℕ) (core : Chief) : Type 0 where
  pub nodes : core.nodes ≡ count
  pub voters : length core.voted ≡ count
  pub committed : (e : ℕ) → core.committed e ≡ has commits e
  pub last : 0 < core.last → has commits core.last ≡ true
  pub begun-is : is_open core.phase ≡ true → has begun core.current ≡ true
  pub undecided : is_open core.phase ≡ true → has commits core.current ≡ false
  pub counted : is_open core.phase ≡ true → (n : ℕ) → n < count → slice_index_or core.voted n false ≡ true → has (prepared n) core.current ≡ true
  pub all-voted : core.phase ≡ Forcing → list_all (λ counted. counted) core.voted ≡ true

pub record Holds (w : World) : Type 0 where
  pub nodes : (n : ℕ) → n < w.count → NodeHolds (w.cores n) (w.prepared n)
  pub chief : ChiefHolds w.count w.prepared w.commits w.begun w.chief
  pub letters : (l : Letter) → Among w.letters l → LetterHolds w l.from l.message
  pub entries : (e n : ℕ) → has w.commits e ≡ true → n < w.count → has (w.prepared n) e ≡ true
  pub finishers : (n : ℕ) → slice_index_or w.chief.finished n false ≡ true → Among w.letters (record { from = n; to = COORDINATOR; message = Finished w.chief.last })
