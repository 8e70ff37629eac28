use Rattle.coco_ast.proofs.RunsPutWrites.{run_puts_writes}
use Rattle.coco_ast.proofs.laws.runs.runs_put_writes.Goals as goal

pub returns : goal.returns
returns c = run_puts_writes
