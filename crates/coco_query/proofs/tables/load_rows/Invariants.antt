use Rattle.std.proofs.Common.{◌≡◌, drop}
use Rattle.coco_ast.specs.Keyed.{put_over}
use Rattle.coco_load.specs.Reading.{puts}
use Rattle.coco_query.proofs.tables.load_rows.Given as goal

-- the other rows come over those that are there
abbrev pub invariant-loop-row : goal.invariant-loop-row
invariant-loop-row l = put_over l.executor.rows (puts (drop l.row-index l.rows)) ≡ put_over l.fn.executor.rows (puts l.rows)
