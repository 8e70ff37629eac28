use Rattle.std.proofs.Common.{◌≡◌, ◌+◌, ◌≤◌, ◌++◌, length, vec_len, vec_capacity}
use Rattle.coco_desks.proofs.locks.take_back.Given as goal

-- the machines and the rest are what the first ones and the rest were at the start, and there is room
abbrev pub invariant-loop-machine : goal.invariant-loop-machine
invariant-loop-machine g l = record {
  items : l.ended.machines.items ++ l.machine-iterator.rest.items ≡ l.initial.ended.machines.items ++ l.fn.rest.rest.items;
  room : vec_len l.ended.machines + length l.machine-iterator.rest.items ≤ vec_capacity l.ended.machines;
}
