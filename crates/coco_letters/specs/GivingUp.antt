-- Why attempts at an epoch are given up.
use Rattle.std.specs.Prelude.{◌≡◌, ◌⊎◌, ℕ, zero, suc, ◌+◌, ◌<◌, ◌≤◌, true, List, drop, length, Contains, Option, Some, None}
use Rattle.coco_msg.specs.declared.message.Message.{Message}
use Rattle.coco_msg.specs.declared.message.Message.TheVariants.{Ship, Total, Missing, All, Prepare, Vote, Commit, Finished, Abort, Query, Tell}
use Rattle.coco_msg.specs.Bytes.{IsMessage}
use Rattle.coco_net.specs.declared.letter.Posted.{Posted}
use Rattle.coco_letters.specs.Around.{Around, IsLater}
use Rattle.coco_letters.specs.Saying.{posted}

-- what a phase waits for that has asked this: a copy has all pieces, a node votes yes, a node has finished
abbrev pub answer_to : Message → Option Message
answer_to (Ship epoch partition place time writes) = None
answer_to (Total epoch partition places) = Some (All epoch partition)
answer_to (Missing epoch partition places) = None
answer_to (All epoch partition) = None
answer_to (Prepare epoch) = Some (Vote epoch true)
answer_to (Vote epoch vote) = None
answer_to (Commit epoch) = Some (Finished epoch)
answer_to (Finished epoch) = None
answer_to (Abort epoch) = None
answer_to (Query epoch) = None
answer_to (Tell epoch committed) = None

-- of two lists of which the first begins the second, what the second has besides
abbrev pub since : List Posted → List Posted → List Posted
since old new = drop (length old) new

-- one place has asked another so, and the answer isn't among the letters given
pub record Awaits (sent given : List Posted) : Type 0 where
  pub asker : ℕ
  pub asked : ℕ
  pub question : Message
  pub answer : Message
  pub waits : answer_to question ≡ Some answer
  pub is : IsMessage question
  pub was_sent : Contains sent (posted asker asked question)
  pub missing : Contains given (posted asked asker answer) → ⊥

-- an attempt was given up for its cause: a node stopped before its entry, or the net lost letters in sixteen rounds, behind which an answer was still missing
abbrev pub IsGivenUp : Around → Around → Type 0
IsGivenUp a b = (IsLater a b × (a.early < b.early))
    ⊎ ((m : Around) × IsLater a m × (a.faults + 16 ≤ m.faults) × Awaits (since a.sent m.sent) (since a.given m.given) × IsLater m b)

-- so many attempts, one behind the other. A net keeps no record of its counts between them, so those are only said to exist
abbrev pub AreGivenUp : ℕ → Around → Around → Type 0
AreGivenUp zero a b = IsLater a b
AreGivenUp (suc n) a b = (m : Around) × AreGivenUp n a m × IsGivenUp m b
