use Rattle.std.proofs.Common.{◌≡◌, take}
use Rattle.coco_ast.specs.Keyed.{Rows, put_over}
use Rattle.coco_entry.specs.declared.layout.Layout.{Layout}
use Rattle.coco_query.specs.Replaying.{HoldsItsMap}
use Rattle.coco_query.proofs.tables.load_writes.Given as goal

-- the shards hold the map with the writes so far
abbrev pub invariant-loop-write : goal.invariant-loop-write
invariant-loop-write l = (layout : Layout) (m : Rows) → layout.copies ≡ 0 → HoldsItsMap layout m l.fn.shards.items → HoldsItsMap layout (put_over m (take l.write-index l.writes)) l.shards.items
