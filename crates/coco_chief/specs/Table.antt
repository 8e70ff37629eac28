-- The table of the coordinator's core: what it does at each call, and the core after it. The first row that fits counts.
use Rattle.std.specs.Prelude.{ℕ, zero, suc, List, [], ◌∷◌, ◌++◌, Bool, true, false, nat_lt, ◌==◌, ◌&&◌, ◌||◌, if◌then◌else◌, slice_set, slice_index_or, replicate}
use Rattle.std.specs.List.{list_all}
use Rattle.coco_msg.specs.declared.action.Action.{Action}
use Rattle.coco_msg.specs.declared.action.Action.TheVariants.{Send, Force, Promote, Revert}
use Rattle.coco_msg.specs.declared.message.Message.{Message}
use Rattle.coco_msg.specs.declared.message.Message.TheVariants.{Ship, Total, Missing, All, Prepare, Vote, Commit, Finished, Abort, Query, Tell}
use Rattle.coco_msg.specs.Bytes.{epoch_of}
use Rattle.coco_chief.specs.declared.machine.Phase.{Phase}
use Rattle.coco_chief.specs.declared.machine.Phase.TheVariants.{Rest, Voting, Forcing}
use Rattle.coco_chief.specs.Chief.{Chief, has, last_of}

-- actions, and the core after them
abbrev pub Turn : Type 0
Turn = List Action × Chief

abbrev pub nothing : Chief → Turn
nothing core = ([], core)

-- a message to each of so many nodes, in node order
abbrev pub to_each : ℕ → Message → List Action
to_each zero message = []
to_each (suc n) message = to_each n message ++ Send n message ∷ []

-- and to each that hasn't finished
abbrev pub to_unfinished : ℕ → List Bool → Message → List Action
to_unfinished zero finished message = []
to_unfinished (suc n) finished message = to_unfinished n finished message ++ (if slice_index_or finished n false then [] else Send n message ∷ [])

abbrev pub is_voting : Phase → Bool
is_voting Rest = false
is_voting Voting = true
is_voting Forcing = false

abbrev pub is_open : Phase → Bool
is_open Rest = false
is_open Voting = true
is_open Forcing = true

abbrev pub restarted : ℕ → List ℕ → Chief
restarted nodes epochs = record {
  nodes = nodes;
  committed = has epochs;
  last = last_of epochs;
  current = 0;
  phase = Rest;
  voted = replicate nodes false;
  finished = replicate nodes false;
}

abbrev pub begun : ℕ → Chief → Turn
begun e core = (to_each core.nodes (Prepare e), record core { current = e; phase = Voting; voted = replicate core.nodes false })

abbrev pub aborted : Chief → Turn
aborted core = (to_each core.nodes (Abort core.current), record core { phase = Rest })

abbrev pub forced : ℕ → Chief → Turn
forced e core =
    (to_each core.nodes (Commit e), record core { phase = Rest; committed = λ x. e == x || core.committed x; last = e; finished = replicate core.nodes false })

abbrev pub counts : List Bool → Chief → Turn
counts voted core =
    if list_all (λ counted. counted) voted then (Force core.current ∷ [], record core { voted = voted; phase = Forcing }) else nothing (record core { voted = voted })

abbrev pub on_vote : ℕ → ℕ → Bool → Chief → Turn
on_vote from e vote core =
    if e == core.current && is_voting core.phase
    then (if vote then counts (slice_set core.voted from true) core else aborted core)
    else nothing core

abbrev pub on_finished : ℕ → ℕ → Chief → Turn
on_finished from e core = if e == core.last then nothing (record core { finished = slice_set core.finished from true }) else nothing core

abbrev pub on_query : ℕ → ℕ → Chief → Turn
on_query from e core =
    if core.committed e then (Send from (Tell e true) ∷ [], core) else
    (if e == core.current && is_open core.phase then nothing core else (Send from (Tell e false) ∷ [], core))

abbrev pub on_message : ℕ → Message → Chief → Turn
on_message from (Vote e vote) core = on_vote from e vote core
on_message from (Finished e) core = on_finished from e core
on_message from (Query e) core = on_query from e core
on_message from (Ship e partition place time writes) core = nothing core
on_message from (Total e partition places) core = nothing core
on_message from (Missing e partition places) core = nothing core
on_message from (All e partition) core = nothing core
on_message from (Prepare e) core = nothing core
on_message from (Commit e) core = nothing core
on_message from (Abort e) core = nothing core
on_message from (Tell e committed) core = nothing core

-- only nodes are heard, and epoch 0 is none
abbrev pub handled : ℕ → Message → Chief → Turn
handled from message core = if nat_lt from core.nodes && nat_lt 0 (epoch_of message) then on_message from message core else nothing core

abbrev pub reminds : Chief → List Action
reminds core = if core.last == 0 then [] else to_unfinished core.nodes core.finished (Commit core.last)

abbrev pub has_finished : ℕ → Chief → Bool
has_finished node core = core.last == 0 || slice_index_or core.finished node false

abbrev pub has_voted : ℕ → Chief → Bool
has_voted node core = slice_index_or core.voted node false
