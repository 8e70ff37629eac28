use Rattle.std.proofs.Common.{length}
use Rattle.coco_bytes.specs.Fields.{u32_bytes}
use Rattle.coco_entry.specs.Bases.{base_row_bytes, IsBaseRow}
use Rattle.coco_entry.proofs.FitLemmas.{IsPut}
use Rattle.coco_entry.proofs.base.put_each_row.Given as goal

abbrev pub invariant-loop-row : goal.invariant-loop-row
invariant-loop-row l = IsPut base_row_bytes IsBaseRow l.fn.out.items (u32_bytes (length l.rows)) l.rows l.row-index l.out.items
