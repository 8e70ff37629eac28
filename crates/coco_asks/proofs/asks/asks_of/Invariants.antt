use Rattle.std.proofs.Common.{◌≡◌, ◌++◌, List}
use Rattle.std.specs.List.{AllByRecursion}
use Rattle.coco_ast.specs.Fitting.{Fits}
use Rattle.coco_lines.specs.declared.reader.Line.{Line as Given}
use Rattle.coco_asks.specs.Sorting.{AreSorted}
use Rattle.coco_asks.proofs.asks.asks_of.Given as goal

-- the lines so far are sorted, and the others are left
abbrev pub invariant-loop-line : goal.invariant-loop-line
invariant-loop-line l = record {
  sorted : (before : List Given) × (before ++ l.line-iterator.rest.items ≡ l.fn.lines.items) × AreSorted l.procs before l.asks.refusals.items l.asks.requests.items;
  fit : AllByRecursion (λ r. Fits l.procs r.call) l.asks.requests.items;
}
