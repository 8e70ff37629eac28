use Rattle.std.proofs.Common.{◌≡◌, drop, map}
use Rattle.coco_ast.specs.Keyed.{put_over}
use Rattle.coco_load.specs.RowMaps.{as_write, lent_map}
use Rattle.coco_load.proofs.merge.merge.Given as goal

-- the other rows come over those that are there
abbrev pub invariant-loop-key : goal.invariant-loop-key
invariant-loop-key l = put_over (lent_map l.merged) (map as_write (drop l.key-index l.rows)) ≡ put_over (lent_map l.initial.merged) (map as_write l.rows)
