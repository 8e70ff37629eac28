use Rattle.coco_parse.proofs.Counters.{procedure_begun}
use Rattle.coco_parse.proofs.counter.ProcedureCounter.begin.Goals as goal

pub returns : goal.returns
returns c ws = procedure_begun ws
