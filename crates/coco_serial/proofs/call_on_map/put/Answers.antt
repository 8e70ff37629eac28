use Rattle.std.proofs.Common.{ap, sym, ◌∙◌}
use Rattle.coco_ast.specs.Keyed.{write_at}
use Rattle.coco_serial.specs.Applied.{rows_of}
use Rattle.coco_serial.proofs.RowLemmas.{hash_taken}
use Rattle.coco_serial.proofs.call_on_map.put.Goals as goal

pub returns-in-Some-clause-rows : goal.returns-in-Some-clause-rows
returns-in-Some-clause-rows c = c.put_value.ensures.rows ∙ ap (write_at (rows_of c.args.rows.now) c.args.write.now.key) (sym c.in-Some.is)

pub returns-in-None-clause-rows : goal.returns-in-None-clause-rows
returns-in-None-clause-rows c =
    hash_taken c.args.rows.now.entries c.remove.new.self.entries c.args.write.now.key c.remove.ensures.updates.0
    ∙ ap (write_at (rows_of c.args.rows.now) c.args.write.now.key) (sym c.in-None.is)
