-- Messages of a commit, and the letters that they are.
use Rattle.std.specs.Prelude.{◌≡◌, ℕ, ◌≤◌, ⊤, List, [], ◌∷◌, Bool, true, false}
use Rattle.coco_msg.specs.declared.action.Action.{Action}
use Rattle.coco_msg.specs.declared.action.Action.TheVariants.{Send, Force, Promote, Revert}
use Rattle.coco_msg.specs.declared.message.Message.{Message}
use Rattle.coco_msg.specs.declared.message.Message.TheVariants.{Ship, Total, Missing, All, Prepare, Vote, Commit, Finished, Abort, Query, Tell}
use Rattle.coco_msg.specs.Bytes.{bytes_of, IsMessage}
use Rattle.coco_net.specs.declared.letter.Posted.{Posted}

-- the messages of a commit, and not those between copies
abbrev pub is_of_commit : Message → Bool
is_of_commit (Ship epoch partition place time writes) = false
is_of_commit (Total epoch partition places) = false
is_of_commit (Missing epoch partition places) = false
is_of_commit (All epoch partition) = false
is_of_commit (Prepare epoch) = true
is_of_commit (Vote epoch vote) = true
is_of_commit (Commit epoch) = true
is_of_commit (Finished epoch) = true
is_of_commit (Abort epoch) = true
is_of_commit (Query epoch) = true
is_of_commit (Tell epoch committed) = true

-- a message that places of a commit may say
pub record IsToSay (m : Message) : Type 0 where
  pub is : IsMessage m
  pub commit : is_of_commit m ≡ true

-- the letter that a message is
abbrev pub posted : ℕ → ℕ → Message → Posted
posted from to m = record { to = to; letter = record { from = from; bytes = bytes_of m } }

-- the letters of a place's actions, in order
abbrev pub posts_of : ℕ → List Action → List Posted
posts_of from [] = []
posts_of from (Send to m ∷ actions) = posted from to m ∷ posts_of from actions
posts_of from (Force e ∷ actions) = posts_of from actions
posts_of from (Promote e ∷ actions) = posts_of from actions
posts_of from (Revert e ∷ actions) = posts_of from actions

-- what actions send are messages of a commit to places
abbrev pub AreToSay : List Action → Type 0
AreToSay [] = ⊤
AreToSay (Send to m ∷ actions) = (to ≤ 8) × IsToSay m × AreToSay actions
AreToSay (Force e ∷ actions) = AreToSay actions
AreToSay (Promote e ∷ actions) = AreToSay actions
AreToSay (Revert e ∷ actions) = AreToSay actions
