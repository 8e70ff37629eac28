use Rattle.coco_rows.proofs.Settling.{settles_standing, settles_fallen}
use Rattle.coco_rows.proofs.listed.settle_row.Goals as goal

pub returns-then-not-rest_at : goal.returns-then-not-rest_at
returns-then-not-rest_at g c = settles_fallen g.R.EpochRow.kind _ _ _ c.args.key c.args.promotes c.rest_at.result c.rest_at.ensures.missing c.rest_at.ensures.found c.if-not-rest_at.true c.drop_row.ensures.rising c.drop_row.ensures.entries c.drop_row.ensures.at c.drop_row.ensures.len

pub returns-else-not-rest_at : goal.returns-else-not-rest_at
returns-else-not-rest_at g c = settles_standing g.R.EpochRow.kind _ _ c.args.key c.args.promotes c.rest_at.result c.rest_at.ensures.missing c.rest_at.ensures.found c.if-not-rest_at.false
