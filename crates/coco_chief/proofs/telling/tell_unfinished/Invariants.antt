use Rattle.std.proofs.Common.{◌≡◌}
use Rattle.coco_msg.specs.declared.message.Message.TheVariants.{Commit}
use Rattle.coco_chief.specs.Table.{to_unfinished}
use Rattle.coco_chief.proofs.telling.tell_unfinished.Given as goal

abbrev pub invariant-loop-to : goal.invariant-loop-to
invariant-loop-to l = l.actions.items ≡ to_unfinished l.to l.finished (Commit l.epoch)
