-- What threads may share: accepted trees, with their plans, and a tuple of what they may share.
use mathlib.Core.List.{List}
use mir.Syntax.{Sym}
use denote.RattleType.{RattleType}
use denote.Struct.Declared.{shape}
use denote.Struct.Struct.{Struct}
use denote.Struct.Tuple.{TupleAt, type_at}
use denote.Param.Send.{IsSync, AllSync, sendable, recorded_sync, struct_sync, view_sync}
use Rattle.std.proofs.Crossing.{crosses}
use Rattle.std.proofs.MapsCrossing.{crosses as maps_cross}
use Rattle.coco_ast.proofs.literal.Literal.TheSendSync.{the_sync as literal_sync}
use Rattle.coco_ast.proofs.name.Name.TheSendSync.{the_sync as name_sync}
use Rattle.coco_ast.proofs.plan.Term.TheSendSync.{the_sync as term_sync}
use Rattle.coco_ast.proofs.plan.PlanStep.TheLaws.TheKnot.{crosses as step_crosses}
use Rattle.coco_ast.proofs.tree.Expr.TheLaws.TheKnot.{crosses as expr_crosses}
use Rattle.coco_ast.proofs.tree.Stmt.TheLaws.TheKnot.{crosses as stmt_crosses}
use Rattle.coco_ast.specs.contracts.checked.Checked as checked
use Rattle.coco_ast.specs.contracts.checked.Checked.TheInside as inside
use Rattle.coco_ast.specs.contracts.plan.Plan as plan
use Rattle.coco_ast.specs.contracts.plan.PlanStep as step
use Rattle.coco_ast.specs.contracts.tree.Proc as proc
use Rattle.coco_ast.specs.contracts.tree.Procs as procs
use Rattle.coco_ast.specs.contracts.tree.Stmt as stmt

stmt_sync : IsSync stmt.the_row
stmt_sync = search (sendable, crosses, stmt_crosses, expr_crosses, literal_sync, name_sync) depth 40 fits 20000

step_sync : IsSync step.the_row
step_sync = search (sendable, crosses, maps_cross, step_crosses) depth 40

plan_sync : IsSync plan.the_row
plan_sync = search (sendable, crosses, step_sync, term_sync, name_sync) depth 40 fits 4000

proc_sync : IsSync proc.the_row
proc_sync = search (sendable, crosses, stmt_sync, name_sync) depth 40 fits 4000

procs_sync : IsSync (procs.the_field).row
procs_sync = search (sendable, crosses, proc_sync, name_sync) depth 40 fits 4000

parts_sync : AllSync (shape inside.the_type).fields
parts_sync = (search (sendable, procs_sync) depth 20, (search (sendable, maps_cross, name_sync) depth 20, (search (sendable, crosses, plan_sync) depth 20, tt)))

inside_sync : IsSync inside.the_row
inside_sync = search (recorded_sync, struct_sync, parts_sync)

pub checked_sync : IsSync checked.the_row
checked_sync = search (view_sync, inside_sync)

pub tuple_sync : (ν : Sym) (Ts : List RattleType) → AllSync (shape (type_at ν Ts)).fields → IsSync (TupleAt ν Ts)
tuple_sync ν Ts all = let T = type_at ν Ts in recorded_sync (Struct (shape T)) T.D T.to T.to_one (struct_sync (shape T) all)
