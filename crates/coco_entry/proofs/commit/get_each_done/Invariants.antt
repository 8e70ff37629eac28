use Rattle.coco_entry.specs.Calls.{done_at}
use Rattle.coco_entry.proofs.Loops.{HasRead}
use Rattle.coco_entry.proofs.commit.get_each_done.Given as goal

abbrev pub invariant-loop : goal.invariant-loop
invariant-loop l = HasRead (λ _. done_at l.epoch) l.dones l.count l.counter l.from l.at l.end
