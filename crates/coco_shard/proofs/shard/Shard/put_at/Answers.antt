use Rattle.std.proofs.Common.{OnErr, subst}
use Rattle.coco_shard.specs.Memory.{TakesMemory}
use Rattle.coco_shard.specs.RowState.{ShardState}
use Rattle.coco_shard.proofs.Entries.{missing_or_on_err}
use Rattle.coco_shard.proofs.shard.Shard.put_at.Goals as goal

pub returns-clause-missing : goal.returns-clause-missing
returns-clause-missing c =
    subst (λ (s : ShardState). OnErr c.put_row.result (TakesMemory s c.args.key c.args.value)) c.self.view_is (missing_or_on_err _ c.put_row.result c.self.inside.rows.entries c.args.key c.put_row.ensures.missing)
