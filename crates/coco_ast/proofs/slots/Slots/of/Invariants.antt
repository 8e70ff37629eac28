use Rattle.std.proofs.Common.{◌≡◌, [], take}
use Rattle.coco_ast.specs.Plans.{with_names}
use Rattle.coco_ast.proofs.slots.Slots.of.Given as goal

-- each parameter has the slot of its place
abbrev pub invariant-loop-name : goal.invariant-loop-name
invariant-loop-name l = record {
  names : l.slots ≡ with_names [] (take l.name-index l.params);
  own : l.slots ≡ take l.name-index l.params;
}
