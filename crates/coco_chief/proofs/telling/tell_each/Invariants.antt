use Rattle.std.proofs.Common.{◌≡◌}
use Rattle.coco_chief.specs.Table.{to_each}
use Rattle.coco_chief.specs.Telling.{said}
use Rattle.coco_chief.proofs.telling.tell_each.Given as goal

abbrev pub invariant-loop-to : goal.invariant-loop-to
invariant-loop-to l = l.actions.items ≡ to_each l.to (said l.word l.epoch)
