use Rattle.std.proofs.Common.{◌≡◌, ◌+◌, ◌≤◌, length, vec_len, vec_capacity}
use Rattle.coco_desks.specs.Locking.{AreBack, AreEnded}
use Rattle.coco_desks.proofs.locks.close_all.Given as goal

-- the passes of the other locks are back, there is room, and what these leave completes what all leave
abbrev pub invariant-loop-lock : goal.invariant-loop-lock
invariant-loop-lock g l = record {
  back : AreBack l.lock-iterator.rest.items l.trays.rest.items;
  machines : vec_len l.ended.machines + length l.lock-iterator.rest.items ≤ vec_capacity l.ended.machines;
  journals : vec_len l.ended.journals + length l.lock-iterator.rest.items ≤ vec_capacity l.ended.journals;
  room : vec_capacity l.ended.machines ≡ vec_capacity l.fn.ended.machines;
  count : vec_len l.ended.machines + length l.lock-iterator.rest.items ≡ vec_len l.fn.ended.machines + vec_len l.fn.locks;
  ended : (ms : _) (js : _) → AreEnded g.M.Machine.answer_to g.M.Machine.state_after l.trays.rest.items l.ended.machines.items l.ended.journals.items ms js
      → AreEnded g.M.Machine.answer_to g.M.Machine.state_after l.fn.trays.items l.fn.ended.machines.items l.fn.ended.journals.items ms js;
}
