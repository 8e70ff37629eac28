use Rattle.coco_kept.proofs.Adding.{Adding}
use Rattle.coco_kept.proofs.keeping.add_dones.Given as goal

-- some of the Dones have come
abbrev pub invariant-loop-done : goal.invariant-loop-done
invariant-loop-done l = Adding l.fn.kept l.fn.dones l.kept l.done-iterator.rest.items
