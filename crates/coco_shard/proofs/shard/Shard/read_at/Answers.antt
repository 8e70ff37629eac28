use Rattle.std.proofs.Common.{◌≡◌, None, OnErr, subst}
use Rattle.std.specs.FinMap.{get}
use Rattle.coco_shard.specs.RowState.{ShardState}
use Rattle.coco_shard.proofs.Entries.{missing_on_err}
use Rattle.coco_shard.proofs.shard.Shard.read_at.Goals as goal

pub returns-clause-missing : goal.returns-clause-missing
returns-clause-missing c =
    subst (λ (s : ShardState). OnErr c.read_row.result (get s c.args.key ≡ None)) c.self.view_is (missing_on_err c.read_row.result c.self.inside.rows.entries c.args.key c.read_row.ensures.missing)
