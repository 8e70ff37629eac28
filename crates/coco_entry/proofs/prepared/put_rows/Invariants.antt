use Rattle.std.proofs.Common.{length}
use Rattle.coco_bytes.specs.Fields.{u32_bytes}
use Rattle.coco_entry.specs.Rows.{row_bytes, IsRow}
use Rattle.coco_entry.proofs.FitLemmas.{IsPut}
use Rattle.coco_entry.proofs.prepared.put_rows.Given as goal

abbrev pub invariant-loop-row : goal.invariant-loop-row
invariant-loop-row l = IsPut row_bytes IsRow l.fn.out.items (u32_bytes (length l.rows)) l.rows l.row-index l.out.items
