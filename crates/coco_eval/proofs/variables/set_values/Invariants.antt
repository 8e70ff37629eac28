use Rattle.std.proofs.Common.{◌≡◌, ◌<◌, ℕ, None, get_or, length}
use Rattle.coco_eval.proofs.variables.set_values.Given as goal

abbrev pub invariant-loop-i : goal.invariant-loop-i
invariant-loop-i l = record {
  length : length l.values.items ≡ length l.initial.values.items;
  each : (k : ℕ) → k < l.i → get_or l.values.items k None ≡ get_or l.args k None;
}
