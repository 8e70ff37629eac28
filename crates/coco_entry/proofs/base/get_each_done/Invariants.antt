use Rattle.std.proofs.Common.{◌≡◌}
use Rattle.std.specs.Option.{option_map}
use Rattle.coco_bytes.specs.Lists.{last_item}
use Rattle.coco_entry.specs.Bases.{stamp_of, base_done_at}
use Rattle.coco_entry.proofs.Loops.{HasRead}
use Rattle.coco_entry.proofs.base.get_each_done.Given as goal

abbrev pub invariant-loop : goal.invariant-loop
invariant-loop l = record {
  read : HasRead (λ before. base_done_at (option_map stamp_of before)) l.dones l.count l.counter l.from l.at l.end;
  last : l.before ≡ option_map stamp_of (last_item l.dones);
}
