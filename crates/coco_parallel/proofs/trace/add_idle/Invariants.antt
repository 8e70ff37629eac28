use Rattle.std.proofs.Common.{◌≡◌, ◌++◌, [], replicate}
use Rattle.coco_parallel.proofs.trace.add_idle.Given as goal

abbrev pub invariant-loop : goal.invariant-loop
invariant-loop l = l.transcripts.items ≡ l.fn.transcripts.items ++ replicate l.counter []
