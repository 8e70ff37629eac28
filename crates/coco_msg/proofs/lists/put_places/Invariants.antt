use Rattle.std.proofs.Common.{◌≡◌, ◌++◌, length, take}
use Rattle.std.specs.List.{flat_map}
use Rattle.coco_bytes.specs.Fields.{u32_bytes}
use Rattle.coco_msg.proofs.lists.put_places.Given as goal

abbrev pub invariant-loop-place : goal.invariant-loop-place
invariant-loop-place l = l.out.items ≡ l.fn.out.items ++ (u32_bytes (length l.places) ++ flat_map u32_bytes (take l.place-index l.places))
