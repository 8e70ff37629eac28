use Rattle.std.proofs.Common.{◌≡◌, ◌++◌, length, take}
use Rattle.std.specs.List.{flat_map}
use Rattle.coco_bytes.specs.Fields.{u32_bytes}
use Rattle.coco_msg.specs.Bytes.{write_bytes}
use Rattle.coco_msg.proofs.lists.put_writes.Given as goal

abbrev pub invariant-loop-write : goal.invariant-loop-write
invariant-loop-write l = l.out.items ≡ l.fn.out.items ++ (u32_bytes (length l.writes) ++ flat_map write_bytes (take l.write-index l.writes))
