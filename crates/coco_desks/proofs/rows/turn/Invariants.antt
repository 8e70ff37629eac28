use Rattle.coco_desks.proofs.RowLemmas.{Turned}
use Rattle.coco_desks.proofs.rows.turn.Given as goal

-- the first rows are turned
abbrev pub invariant-loop-place : goal.invariant-loop-place
invariant-loop-place g l = Turned l.place l.fn.rows l.rows l.fn.columns l.columns
