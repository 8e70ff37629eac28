use Rattle.std.proofs.Common.{◌∙◌, ap}
use Rattle.coco_shard.specs.Kept.{state_of}
use Rattle.coco_shard.specs.Table.{installed}
use Rattle.coco_shard.proofs.Entries.{made_changes}
use Rattle.coco_shard.proofs.tail.put_missing.Goals as goal

pub returns-clause-changes : goal.returns-clause-changes
returns-clause-changes c =
    made_changes c.add_row.result c.args.rows.now.entries c.add_row.new.rows.entries c.args.key c.touch.new.row (installed c.args.time c.args.value.now) c.requires.missing
    (c.touch.ensures.state ∙ c.put.ensures.row ∙ ap (λ row. installed c.args.time c.args.value.now (state_of row)) c.without_value-row.ensures) c.add_row.ensures.ok c.add_row.ensures.err
