use Rattle.std.proofs.Common.{◌∙◌, ap}
use Rattle.coco_shard.specs.Kept.{state_of}
use Rattle.coco_shard.specs.Table.{extended}
use Rattle.coco_shard.proofs.Entries.{made_changes}
use Rattle.coco_shard.proofs.tail.extend_missing.Goals as goal

pub returns-clause-changes : goal.returns-clause-changes
returns-clause-changes c =
    made_changes c.add_row.result c.args.rows.now.entries c.add_row.new.rows.entries c.args.key c.touch.new.row (extended c.args.time) c.requires.missing
    (c.touch.ensures.state ∙ c.raise_read_time.ensures.row ∙ ap (λ row. extended c.args.time (state_of row)) c.without_value-row.ensures) c.add_row.ensures.ok c.add_row.ensures.err
