use Rattle.std.proofs.Common.{length}
use Rattle.coco_bytes.specs.Fields.{u32_bytes}
use Rattle.coco_entry.specs.Bases.{base_done_bytes, IsBaseDone}
use Rattle.coco_entry.proofs.FitLemmas.{IsPut}
use Rattle.coco_entry.proofs.base.put_each_done.Given as goal

abbrev pub invariant-loop-done : goal.invariant-loop-done
invariant-loop-done l = IsPut base_done_bytes IsBaseDone l.fn.out.items (u32_bytes (length l.dones)) l.dones l.done-index l.out.items
