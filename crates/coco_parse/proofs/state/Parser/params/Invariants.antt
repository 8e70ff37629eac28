use Rattle.std.proofs.Common.{ℕ, ◌≤◌, List, [], ◌∷◌, ◌++◌}
use Rattle.coco_parse.specs.Machine.{Goal, Params, Named, Listed}
use Rattle.coco_parse.specs.Steps.{Stands, left, chosen}
use Rattle.coco_parse.proofs.state.Parser.params.Given as goal

abbrev pub invariant-loop-more : goal.invariant-loop-more
invariant-loop-more l = record {
  onward : left l.self l.cursor ≤ left l.self l.fn.cursor;
  reads : (k : List (List ℕ) → Goal) → Stands l.self l.fn.cursor (Params k) → Stands l.self l.cursor (chosen l.more (Named (λ name. Listed (l.names.items ++ name ∷ []) k)) (k l.names.items));
}

abbrev pub decreases-loop-more : goal.decreases-loop-more
decreases-loop-more l = left l.self l.cursor
