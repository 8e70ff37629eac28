use Rattle.std.proofs.Common.{◌≡◌, Some, ap, ◌∙◌, arith}
use Rattle.coco_ast.specs.Keyed.{Rows, write_at}
use Rattle.coco_serial.specs.Applied.{rows_of}
use Rattle.coco_serial.proofs.RowLemmas.{hash_put, on_ok}
use Rattle.coco_serial.proofs.call_on_map.put_value.Goals as goal

pub returns-then-not-replace-clause-rows : goal.returns-then-not-replace-clause-rows
returns-then-not-replace-clause-rows c =
    let same : rows_of c.replace.new.rows ≡ rows_of c.args.rows.now = ap rows_of (c.replace.ensures.missing c.if-not-replace.true) in
    let updates = on_ok c.insert.result _ (c.insert.ensures.succeeds (omega (arith, c.requires, c.replace.ensures.room))) c.insert.ensures.updates in
    hash_put c.replace.new.rows.entries c.insert.new.self.entries c.args.key c.args.value.now updates.0
    ∙ ap (λ (m : Rows). write_at m c.args.key (Some c.args.value.now)) same
