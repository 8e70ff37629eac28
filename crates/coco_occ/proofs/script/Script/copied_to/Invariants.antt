use Rattle.std.proofs.Common.{◌≡◌, ◌≤◌, length, take}
use Rattle.std.specs.Prelude.{vec_capacity, vec_len}
use Rattle.coco_types.specs.declared.call.AttemptId.{AttemptId}
use Rattle.coco_occ.specs.Unpacked.{steps_of}
use Rattle.coco_occ.proofs.script.Script.copied_to.Given as goal

-- the steps so far are copied, and there is room for the others
abbrev pub invariant-loop-step : goal.invariant-loop-step
invariant-loop-step l = record {
  copied : (by : AttemptId) → steps_of by l.items.items ≡ steps_of by (take l.step-index l.step-items);
  count : vec_len l.items ≡ l.step-index;
  room : length l.step-items ≤ vec_capacity l.items;
}
