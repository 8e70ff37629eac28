use Rattle.std.specs.List.{All}
use Rattle.coco_ast.specs.Fitting.{Fits}
use Rattle.coco_tables.proofs.calls.requests_of.Given as goal

abbrev pub invariant-loop-words : goal.invariant-loop-words
invariant-loop-words l = All (λ r. Fits l.procs r.call) l.requests.items
