-- The trees that the parts of a plan stand for.
use Rattle.std.specs.Prelude.{ℕ, List}
use Rattle.coco_ast.specs.Plans.{expression_at, place_in, statement_in, statements_in}
use Rattle.coco_ast.specs.Tree.{Expression, RowPlace, Statement, Statements}
use Rattle.coco_ast.specs.declared.plan.Plan.{Plan}
use Rattle.coco_ast.specs.declared.plan.Spot.{Spot}
use Rattle.coco_ast.specs.declared.plan.PlanStep.{PlanStep}

abbrev pub expression_by : Plan → ℕ → Expression
expression_by plan place = expression_at plan.names plan.terms.items place

abbrev pub place_by : Plan → Spot → RowPlace
place_by plan spot = place_in plan.names plan.terms.items spot

abbrev pub statement_by : Plan → PlanStep → Statement
statement_by plan step = statement_in plan.names plan.terms.items step

abbrev pub statements_by : Plan → List PlanStep → Statements
statements_by plan steps = statements_in plan.names plan.terms.items steps
