use Rattle.std.proofs.Common.{◌≤◌, length}
use Rattle.coco_eval.proofs.variables.lengthen.Given as goal

abbrev pub invariant-loop : goal.invariant-loop
invariant-loop l = record {
  longer : length l.fn.values.items ≤ length l.values.items;
  counted : l.counter ≤ length l.values.items;
}
