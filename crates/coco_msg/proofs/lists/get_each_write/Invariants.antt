use Rattle.std.proofs.Common.{◌≡◌, ◌≤◌, ◌-◌, length, None}
use Rattle.coco_bytes.specs.Lists.{items_at}
use Rattle.coco_bytes.proofs.ListLemmas.{rest_of}
use Rattle.coco_msg.specs.Reading.{write_at}
use Rattle.coco_msg.proofs.lists.get_each_write.Given as goal

abbrev pub invariant-loop : goal.invariant-loop
invariant-loop l = record {
  so_far : rest_of (λ _. write_at) l.writes (l.count - l.counter) l.from l.end ≡ items_at (λ _. write_at) None l.count l.from l.at;
  within : l.end ≤ length l.from;
}
