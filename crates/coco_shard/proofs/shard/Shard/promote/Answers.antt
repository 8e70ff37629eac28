use Rattle.std.proofs.Common.{false, subst}
use Rattle.coco_shard.specs.RowState.{ShardState, newest_at, value_at, Holds}
use Rattle.coco_shard.specs.Kept.{view_of}
use Rattle.coco_shard.proofs.Steps.{holds_settled}
use Rattle.coco_shard.proofs.ValueLemmas.{settled_holds}
use Rattle.coco_shard.proofs.shard.Shard.promote.Goals as goal

pub returns-clause-values : goal.returns-clause-values
returns-clause-values c = subst (λ (s : ShardState). Holds (newest_at s) (view_of c.settle.new.rows.entries)) c.self.view_is (settled_holds false c.self.inside.rows.entries c.settle.new.rows.entries c.settle.ensures.rows)

pub returns-clause-settled : goal.returns-clause-settled
returns-clause-settled c =
    let es = c.self.inside.rows.entries in
    holds_settled (value_at false (view_of es)) (view_of c.settle.new.rows.entries) (settled_holds false es c.settle.new.rows.entries c.settle.ensures.rows)
