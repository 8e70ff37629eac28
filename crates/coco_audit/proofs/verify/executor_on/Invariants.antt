use Rattle.std.proofs.Common.{◌≡◌, drop, map}
use Rattle.coco_ast.specs.Keyed.{put_over}
use Rattle.coco_load.specs.RowMaps.{as_write, joined, map_with}
use Rattle.coco_audit.proofs.verify.executor_on.Given as goal

-- the rows of the other lists come over those that are there
abbrev pub invariant-loop-list : goal.invariant-loop-list
invariant-loop-list l = put_over l.executor.rows (map as_write (joined (drop l.list-index l.lists))) ≡ map_with (joined l.lists)
