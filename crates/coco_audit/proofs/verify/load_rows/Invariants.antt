use Rattle.std.proofs.Common.{◌≡◌, drop, map}
use Rattle.coco_ast.specs.Keyed.{put_over}
use Rattle.coco_load.specs.RowMaps.{as_write}
use Rattle.coco_audit.proofs.verify.load_rows.Given as goal

-- the other rows come over those that are there
abbrev pub invariant-loop-row : goal.invariant-loop-row
invariant-loop-row l = put_over l.executor.rows (map as_write (drop l.row-index l.rows)) ≡ put_over l.initial.executor.rows (map as_write l.rows)
