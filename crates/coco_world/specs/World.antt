-- A world: the cores, every letter that was ever sent, and the durable entries.
use Rattle.std.specs.Prelude.{◌≡◌, ◌⊎◌, ℕ, zero, suc, List, [], ◌∷◌, ◌++◌, Bool, true, false, Option, Some, None, ◌==◌, if◌then◌else◌}
use Rattle.coco_msg.specs.declared.action.Action.{Action}
use Rattle.coco_msg.specs.declared.action.Action.TheVariants.{Send, Force, Promote, Revert}
use Rattle.coco_msg.specs.declared.message.Message.{Message}
use Rattle.coco_node.specs.Node.{Node, restarted}
use Rattle.coco_chief.specs.Chief.{Chief}
use Rattle.coco_chief.specs.Table.{restarted as chief_restarted}

pub record Letter : Type 0 where
  pub from : ℕ
  pub to : ℕ
  pub message : Message

-- nodes have the places below count, the coordinator has place 8
pub record World : Type 0 where
  pub count : ℕ
  pub cores : ℕ → Node
  pub chief : Chief
  pub letters : List Letter  -- each that was ever sent since the process began
  pub prepared : ℕ → List ℕ  -- the epochs of each node's durable entries, the newest first
  pub commits : List ℕ  -- the epochs of the coordinator's durable entries, the newest first
  pub begun : List ℕ  -- the epochs begun since the process began

-- f with another value at one place
abbrev pub put : {X : Type 0} → (ℕ → X) → ℕ → X → ℕ → X
put f place x k = if k == place then x else f k

-- one of the items of a list
abbrev pub Among : {X : Type 0} → List X → X → Type 0
Among [] x = ⊥
Among (y ∷ ys) x = (y ≡ x) ⊎ Among ys x

-- the letters of the actions of a place
abbrev pub sent : ℕ → List Action → List Letter
sent from [] = []
sent from (Send to message ∷ actions) = record { from = from; to = to; message = message } ∷ sent from actions
sent from (Force e ∷ actions) = sent from actions
sent from (Promote e ∷ actions) = sent from actions
sent from (Revert e ∷ actions) = sent from actions

-- all cores begin anew from their entries, and nothing was sent
abbrev pub began_anew : ℕ → (ℕ → List ℕ) → List ℕ → World
began_anew count prepared commits = record {
  count = count;
  cores = λ n. restarted n (prepared n) None;
  chief = chief_restarted count commits;
  letters = [];
  prepared = prepared;
  commits = commits;
  begun = [];
}
