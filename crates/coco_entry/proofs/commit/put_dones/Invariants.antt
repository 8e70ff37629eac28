use Rattle.std.proofs.Common.{length}
use Rattle.coco_bytes.specs.Fields.{u32_bytes}
use Rattle.coco_entry.specs.Calls.{done_bytes, IsDone}
use Rattle.coco_entry.proofs.FitLemmas.{IsPut}
use Rattle.coco_entry.proofs.commit.put_dones.Given as goal

abbrev pub invariant-loop-done : goal.invariant-loop-done
invariant-loop-done l = IsPut done_bytes IsDone l.fn.out.items (u32_bytes (length l.dones)) l.dones l.done-index l.out.items
