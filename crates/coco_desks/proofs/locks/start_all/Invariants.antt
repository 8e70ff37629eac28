use Rattle.std.proofs.Common.{◌≡◌, ◌+◌, ◌≤◌, length, vec_len, vec_capacity}
use Rattle.coco_desks.proofs.StartingLemmas.{HasStarted}
use Rattle.coco_desks.proofs.locks.start_all.Given as goal

-- the first machines are behind their locks, and there is room for the others'
abbrev pub invariant-loop-machine : goal.invariant-loop-machine
invariant-loop-machine g l = record {
  has : HasStarted l.workers l.fn.machines.items l.rest.rest.items l.started.locks.items l.started.trays.items;
  count : vec_len l.started.locks + length l.rest.rest.items ≡ vec_len l.fn.machines;
  room : vec_len l.fn.machines ≤ vec_capacity l.started.locks;
  trays : vec_len l.started.trays ≡ vec_len l.started.locks;
  tray_room : vec_len l.fn.machines ≤ vec_capacity l.started.trays;
}

abbrev pub decreases-loop-machine : goal.decreases-loop-machine
decreases-loop-machine g l = length l.rest.rest.items
