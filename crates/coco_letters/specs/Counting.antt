-- What the coordinator keeps of the letters that it takes.
use Rattle.std.specs.Prelude.{◌≡◌, ◌⊎◌, ℕ, ◌<◌, List, Bool, true, false, Contains}
use Rattle.std.specs.List.{list_all}
use Rattle.coco_msg.specs.declared.message.Message.{Message}
use Rattle.coco_msg.specs.declared.message.Message.TheVariants.{Vote, Finished}
use Rattle.coco_net.specs.declared.letter.Letter.{Letter}
use Rattle.coco_chief.specs.Chief.{Chief}
use Rattle.coco_chief.specs.Table.{has_finished, has_voted, is_voting}
use Rattle.coco_chief.specs.declared.machine.Phase.{Phase}
use Rattle.coco_chief.specs.declared.machine.Phase.TheVariants.{Rest, Voting, Forcing}
use Rattle.coco_letters.specs.Turns.{IsFrom}

-- one of the letters is this message of a node
abbrev pub IsSaidBy : ℕ → Message → List Letter → Type 0
IsSaidBy n m letters = (l : Letter) × Contains letters l × IsFrom n l m

-- A node has finished the last committed epoch where it had before, or where one of the letters says so.
pub record CountsFinished (letters : List Letter) (chief chief_new : Chief) : Type 0 where
  pub nodes : chief_new.nodes ≡ chief.nodes
  pub last : chief_new.last ≡ chief.last
  pub committed : chief_new.committed ≡ chief.committed
  pub stays : (n : ℕ) → has_finished n chief ≡ true → has_finished n chief_new ≡ true
  pub heard : (n : ℕ) → n < chief.nodes → IsSaidBy n (Finished chief.last) letters → has_finished n chief_new ≡ true
  pub only : (n : ℕ) → has_finished n chief_new ≡ true → (has_finished n chief ≡ true) ⊎ IsSaidBy n (Finished chief.last) letters

-- an epoch is voting, and a yes is missing
pub record IsWaiting (chief : Chief) : Type 0 where
  pub voting : chief.phase ≡ Voting
  pub missing : list_all (λ counted. counted) chief.voted ≡ false

-- what has come of an epoch that was voting: a yes is missing still, each node's was counted, or one of the letters is a no
abbrev pub VotesSo : Phase → List Letter → Chief → Chief → Type 0
VotesSo Voting letters chief chief_new = list_all (λ counted. counted) chief_new.voted ≡ false
VotesSo Forcing letters chief chief_new = (n : ℕ) → n < chief.nodes → has_voted n chief_new ≡ true
VotesSo Rest letters chief chief_new = (n : ℕ) × IsSaidBy n (Vote chief.current false) letters

-- While an epoch is voting each node's yes is counted, until one says no or none is missing.
pub record CountsVotes (letters : List Letter) (chief chief_new : Chief) : Type 0 where
  pub nodes : chief_new.nodes ≡ chief.nodes
  pub current : chief_new.current ≡ chief.current
  pub stays : (n : ℕ) → has_voted n chief ≡ true → has_voted n chief_new ≡ true
  pub only : (n : ℕ) → has_voted n chief_new ≡ true → (has_voted n chief ≡ true) ⊎ IsSaidBy n (Vote chief.current true) letters
  pub rests : is_voting chief.phase ≡ false → chief_new.phase ≡ chief.phase
  pub heard : IsWaiting chief → (n : ℕ) → n < chief.nodes → IsSaidBy n (Vote chief.current true) letters → (has_voted n chief_new ≡ true) ⊎ (chief_new.phase ≡ Rest)
  pub comes : IsWaiting chief → VotesSo chief_new.phase letters chief chief_new
