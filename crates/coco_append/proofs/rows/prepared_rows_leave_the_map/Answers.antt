use Rattle.coco_append.proofs.LastWriteLemmas.{rows_leave_the_map}
use Rattle.coco_append.proofs.rows.prepared_rows_leave_the_map.Goals as goal

pub returns : goal.returns
returns c = rows_leave_the_map
