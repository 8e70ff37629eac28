use Rattle.std.proofs.Common.{OnErr, subst}
use Rattle.coco_shard.specs.Memory.{TakesRoom}
use Rattle.coco_shard.specs.RowState.{ShardState}
use Rattle.coco_shard.specs.Table.{key_of}
use Rattle.coco_shard.proofs.Entries.{missing_or_on_err}
use Rattle.coco_shard.proofs.shard.ShardAnswersInPlace.answer.Goals as goal

pub returns-clause-missing : goal.returns-clause-missing
returns-clause-missing c =
    subst (λ (s : ShardState). OnErr c.act_on_rows.result (TakesRoom s c.args.ask.now.op)) c.self.view_is
    (missing_or_on_err _ c.act_on_rows.result c.self.inside.rows.entries (key_of c.args.ask.now.op) c.act_on_rows.ensures.acts.missing)
