-- The table of a node's core: what it does at each message, and the core after it. The first row that fits counts.
use Rattle.std.specs.Prelude.{ℕ, List, [], ◌∷◌, Bool, true, false, nat_lt, ◌==◌, ◌&&◌, ◌||◌, if◌then◌else◌}
use Rattle.coco_msg.specs.declared.message.Message.{Message}
use Rattle.coco_msg.specs.declared.message.Message.TheVariants.{Ship, Total, Missing, All, Prepare, Vote, Commit, Finished, Abort, Query, Tell}
use Rattle.coco_msg.specs.Bytes.{epoch_of}
use Rattle.coco_msg.specs.declared.action.Action.{Action}
use Rattle.coco_msg.specs.declared.action.Action.TheVariants.{Send, Force, Promote, Revert}
use Rattle.coco_node.specs.declared.machine.TheConstants.{COORDINATOR}
use Rattle.coco_node.specs.declared.machine.Decision.TheVariants.{Unknown, Committed, Aborted}
use Rattle.coco_node.specs.Node.{Node, is_unknown, is_committed}

-- actions, and the core after them
abbrev pub Turn : Type 0
Turn = List Action × Node

abbrev pub does : Action → Node → Turn
does action core = (action ∷ [], core)

abbrev pub nothing : Node → Turn
nothing core = ([], core)

abbrev pub votes : Bool → ℕ → Action
votes vote e = Send COORDINATOR (Vote e vote)

abbrev pub has_finished : ℕ → Action
has_finished e = Send COORDINATOR (Finished e)

-- e is the newest durable epoch, and what became of it isn't known
abbrev pub awaits : ℕ → Node → Bool
awaits e core = e == core.durable && is_unknown core.decision

abbrev pub on_prepare : ℕ → Node → Turn
on_prepare e core =
    if e == core.lost then does (votes false e) core else
    (if nat_lt core.durable e && nat_lt core.forcing e && nat_lt core.lost e then does (Force e) (record core { forcing = e }) else
    (if awaits e core then does (votes true e) core else nothing core))

-- a Commit, or a Tell of a committed epoch
abbrev pub on_committed : ℕ → Node → Turn
on_committed e core =
    if awaits e core then (Promote e ∷ has_finished e ∷ [], record core { decision = Committed }) else
    (if nat_lt e core.durable || (e == core.durable && is_committed core.decision) then does (has_finished e) core else nothing core)

abbrev pub reverts : ℕ → Node → Turn
reverts e core = does (Revert e) (record core { decision = Aborted })

abbrev pub on_abort : ℕ → Node → Turn
on_abort e core =
    if awaits e core then reverts e core else
    (if e == core.forcing then nothing (record core { forcing = 0 }) else nothing core)

-- a Tell of an aborted epoch
abbrev pub on_aborted : ℕ → Node → Turn
on_aborted e core = if awaits e core then reverts e core else nothing core

abbrev pub on_message : Message → Node → Turn
on_message (Prepare e) core = on_prepare e core
on_message (Commit e) core = on_committed e core
on_message (Tell e true) core = on_committed e core
on_message (Abort e) core = on_abort e core
on_message (Tell e false) core = on_aborted e core
on_message (Ship e partition place time writes) core = nothing core
on_message (Total e partition places) core = nothing core
on_message (Missing e partition places) core = nothing core
on_message (All e partition) core = nothing core
on_message (Vote e vote) core = nothing core
on_message (Finished e) core = nothing core
on_message (Query e) core = nothing core

-- only the coordinator is heard, and epoch 0 is none
abbrev pub handled : ℕ → Message → Node → Turn
handled from message core = if from == COORDINATOR && nat_lt 0 (epoch_of message) then on_message message core else nothing core

-- the entry of the epoch that is forcing is durable
abbrev pub forced : ℕ → Node → Turn
forced e core = does (votes true e) (record core { durable = e; decision = Unknown; forcing = 0 })

abbrev pub asks : Node → List Action
asks core = if nat_lt 0 core.durable && is_unknown core.decision then Send COORDINATOR (Query core.durable) ∷ [] else []
