-- What a case keeps: calls that fit, and turns of these alone.
use Rattle.std.specs.Prelude.{◌<◌, length}
use Rattle.std.specs.List.{All}
use Rattle.coco_ast.specs.Fitting.{Fits}
use Rattle.coco_ast.specs.Tree.{Procedures}
use Rattle.coco_tables.specs.declared.attempts.Case.{Case}

pub record IsCase (procs : Procedures) (c : Case) : Type 0 where
  pub requests : All (λ r. Fits procs r.call) c.requests.items
  pub order : All (λ who. who < length c.requests.items) c.order.items
