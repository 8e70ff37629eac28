use Rattle.std.proofs.Common.{◌≡◌, ◌++◌, take}
use Rattle.std.specs.List.{flat_map}
use Rattle.coco_bytes.specs.Fields.{u32_bytes}
use Rattle.coco_entry.proofs.layout.put_files.Given as goal

abbrev pub invariant-loop-file : goal.invariant-loop-file
invariant-loop-file l = l.out.items ≡ l.fn.out.items ++ flat_map u32_bytes (take l.file-index l.files)
