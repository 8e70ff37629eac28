use Rattle.std.proofs.Common.{◌≡◌, ◌++◌, map, drop}
use Rattle.coco_tail.specs.Running.{FitAll}
use Rattle.coco_epoch_tests.proofs.made.requests_of.Given as goal

abbrev pub invariant-loop-line : goal.invariant-loop-line
invariant-loop-line l = record {
  ids : map (λ r. r.id) l.requests.items ++ map (λ x. x.0) (drop l.line-index l.lines) ≡ map (λ x. x.0) l.lines;
  fit : FitAll l.procs l.requests.items;
}
