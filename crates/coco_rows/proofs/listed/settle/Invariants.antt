use Rattle.std.proofs.Common.{vec_len, vec_capacity}
use Rattle.coco_rows.proofs.Settling.{IsSettling}
use Rattle.coco_rows.proofs.listed.settle.Given as goal

abbrev pub invariant-keys : goal.invariant-keys
invariant-keys g l = IsSettling g.R.EpochRow.kind l.initial.rows.entries l.rows.entries l.listed.items l.promotes (vec_capacity l.listed)

abbrev pub decreases-keys : goal.decreases-keys
decreases-keys g l = vec_len l.listed
