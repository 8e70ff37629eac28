use Rattle.coco_append.proofs.DeclaredTables.{run_stays_in_tables}
use Rattle.coco_append.proofs.runs.runs_stay_in_tables.Goals as goal

pub returns : goal.returns
returns c = run_stays_in_tables
