-- What is said of every world that can be reached from good entries.
use Rattle.std.specs.Prelude.{◌≡◌, ◌⊎◌, ℕ, ◌<◌, ◌≤◌, nat_eq, List, [], ◌∷◌, Bool, true, false, Option}
use Rattle.std.specs.List.{AllByRecursion}
use Rattle.std.specs.Set.{is_member}
use Rattle.coco_msg.specs.declared.action.Action.{Action}
use Rattle.coco_msg.specs.declared.action.Action.TheVariants.{Send, Promote, Revert}
use Rattle.coco_msg.specs.declared.message.Message.TheVariants.{Finished}
use Rattle.coco_node.specs.declared.machine.TheConstants.{COORDINATOR}
use Rattle.coco_node.specs.Node.{greatest, restarted}
use Rattle.coco_chief.specs.Chief.{has}
use Rattle.coco_chief.specs.Table.{has_finished}
use Rattle.coco_world.specs.World.{World, Letter, Among, began_anew}
use Rattle.coco_world.specs.Steps.{Event, May, Answers, happens, run, CanRun, AreGood, IsAbove}
use Rattle.coco_world.specs.Agreement.{HasFinished}

-- of each world after any list of steps, from cores that begin anew over good entries
abbrev pub InEachWorld : (World → Type 0) → Type 0
InEachWorld P = (count : ℕ) (prepared : ℕ → List ℕ) (commits : List ℕ) (events : List Event) → AreGood count prepared commits → CanRun (began_anew count prepared commits) events → P (run (began_anew count prepared commits) events)

-- entries that are read from files begin a world: where each node has an entry of every committed epoch they are good, and a number above each of them is above all that the world knows
abbrev pub EntriesBegin : Type 0
EntriesBegin = (count next : ℕ) (prepared : ℕ → List ℕ) (commits : List ℕ)
    → ((n : ℕ) → n < count → AllByRecursion (λ e. is_member nat_eq (prepared n) e ≡ true) commits)
    → ((n : ℕ) → n < count → AllByRecursion (λ e. e < next) (prepared n))
    → AllByRecursion (λ e. e < next) commits
    → AreGood count prepared commits × IsAbove (began_anew count prepared commits) next

-- a node's core begins anew from the greatest of its epochs alone
abbrev pub GreatestDecides : Type 0
GreatestDecides = (number : ℕ) (epochs : List ℕ) (lost : Option ℕ) → restarted number (greatest epochs ∷ []) lost ≡ restarted number epochs lost

-- the commit entry is durable, and every node has a durable entry
pub record IsCommitted (w : World) (e : ℕ) : Type 0 where
  pub committed : has w.commits e ≡ true
  pub prepared : (n : ℕ) → n < w.count → has (w.prepared n) e ≡ true

-- a node makes stable only what is committed
abbrev pub PromotesOnlyCommitted : World → Type 0
PromotesOnlyCommitted w = (event : Event) (n e : ℕ) → May w event → Answers w event n (Promote e) → IsCommitted w e

-- one action of a node, and then, any number of steps later, another of that or another node
abbrev pub OneThenOther : Action → Action → World → Type 0
OneThenOther first second w =
    (event : Event) × (n : ℕ) × May w event × Answers w event n first
    × (between : List Event) × CanRun (happens w event) between
    × (later : Event) × (m : ℕ) × May (run (happens w event) between) later × Answers (run (happens w event) between) later m second

-- what one node makes stable no node takes back later
abbrev pub NeverRevertedLater : World → Type 0
NeverRevertedLater w = (e : ℕ) → OneThenOther (Promote e) (Revert e) w → ⊥

-- nor has any node taken it back earlier
abbrev pub NeverRevertedEarlier : World → Type 0
NeverRevertedEarlier w = (e : ℕ) → OneThenOther (Revert e) (Promote e) w → ⊥

-- what the coordinator holds for committed stays so
abbrev pub CommittedStays : World → Type 0
CommittedStays w = (between : List Event) (e : ℕ) → CanRun w between → w.chief.committed e ≡ true → (run w between).chief.committed e ≡ true

-- a node's durable epochs stay, and the newest doesn't fall
abbrev pub DurableGrows : World → Type 0
DurableGrows w = (between : List Event) (n : ℕ) → CanRun w between → n < w.count
    → ((w.cores n).durable ≤ ((run w between).cores n).durable) × ((e : ℕ) → has (w.prepared n) e ≡ true → has ((run w between).prepared n) e ≡ true)

-- where a node is held for finished it has said so, of the last committed epoch
abbrev pub FinishedHasSaid : World → Type 0
FinishedHasSaid w = (n : ℕ) → has_finished n w.chief ≡ true → (w.chief.last ≡ 0) ⊎ Among w.letters (record { from = n; to = COORDINATOR; message = Finished w.chief.last })

-- and a node says so only where it has
abbrev pub SaysOnlyFinished : World → Type 0
SaysOnlyFinished w = (event : Event) (n e : ℕ) → May w event → Answers w event n (Send COORDINATOR (Finished e)) → HasFinished ((happens w event).cores n) e × IsCommitted w e
