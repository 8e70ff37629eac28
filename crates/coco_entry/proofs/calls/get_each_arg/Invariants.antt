use Rattle.std.proofs.Common.{◌≡◌, length}
use Rattle.coco_bytes.specs.Values.{value_at}
use Rattle.coco_entry.proofs.Loops.{HasRead}
use Rattle.coco_entry.proofs.calls.get_each_arg.Given as goal

abbrev pub invariant-loop : goal.invariant-loop
invariant-loop l = record {
  read : HasRead (λ _. value_at) l.args l.count l.counter l.from l.at l.end;
  count : length l.args ≡ l.counter;
}
