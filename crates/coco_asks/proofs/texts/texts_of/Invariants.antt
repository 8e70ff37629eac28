use Rattle.std.proofs.Common.{◌≡◌, ◌++◌, drop}
use Rattle.coco_asks.specs.Sorting.{texts_of}
use Rattle.coco_asks.proofs.texts.texts_of.Given as goal

-- the texts so far, and those of the refusals and Dones that are left, are all
abbrev pub invariant-loop-refusal : goal.invariant-loop-refusal
invariant-loop-refusal l = l.out.items ++ texts_of (drop l.refusal-index l.refusals) l.rest.rest.now ≡ texts_of l.refusals l.dones
