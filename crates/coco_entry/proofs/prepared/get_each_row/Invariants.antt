use Rattle.std.proofs.Common.{◌≡◌}
use Rattle.std.specs.Option.{option_map}
use Rattle.coco_bytes.specs.Lists.{last_item}
use Rattle.coco_entry.specs.Rows.{row_at}
use Rattle.coco_entry.proofs.Loops.{HasRead}
use Rattle.coco_entry.proofs.prepared.get_each_row.Given as goal

abbrev pub invariant-loop : goal.invariant-loop
invariant-loop l = record {
  read : HasRead (λ before. row_at (option_map (λ r. r.key) before)) l.rows l.count l.counter l.from l.at l.end;
  last : l.before ≡ option_map (λ r. r.key) (last_item l.rows);
}
