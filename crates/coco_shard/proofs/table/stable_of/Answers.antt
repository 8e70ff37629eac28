use Rattle.std.proofs.Common.{sym, ap, ◌∙◌}
use Rattle.coco_shard.proofs.Entries.{row_in, no_row_in}
use Rattle.coco_shard.proofs.table.stable_of.Goals as goal

pub returns-in-Some : goal.returns-in-Some
returns-in-Some c = c.get-in-Some.ensures ∙ sym (ap (λ row. row.stable) (row_in c.args.rows.now.entries c.args.key c.in-Some.row.now (sym c.in-Some.ensures.value)))

pub returns-in-None : goal.returns-in-None
returns-in-None c = sym (ap (λ row. row.stable) (no_row_in c.args.rows.now.entries c.args.key (sym c.in-None.ensures.value)))
