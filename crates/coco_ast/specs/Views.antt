-- The trees that the types of the program stand for.
use Rattle.std.specs.Prelude.{List, [], ◌∷◌, map, None, Some}
use Rattle.coco_ast.specs.Tree.{Expression, Number, Quoted, None as Nothing, Variable, Not, Negate, Two, TwoSign, RowPlace, Statement, Let, Get, Put, Delete, If, IfElse, Repeat, Refuse, Reply, Statements, End, Then, Procedure, Procedures}
use Rattle.coco_ast.specs.Tree as sign
use Rattle.coco_ast.specs.declared.tree.TwoOp.{TwoOp}
use Rattle.coco_ast.specs.declared.tree.TwoOp.TheVariants as op
use Rattle.coco_ast.specs.declared.tree.Expr.{Expr}
use Rattle.coco_ast.specs.declared.tree.Expr.TheOpen.{Expr-F}
use Rattle.coco_ast.specs.declared.tree.Expr.TheFolds.{fold-Expr}
use Rattle.coco_ast.specs.declared.tree.Place.{Place}
use Rattle.coco_ast.specs.declared.tree.Stmt.{Stmt}
use Rattle.coco_ast.specs.declared.tree.Stmt.TheOpen.{Stmt-F}
use Rattle.coco_ast.specs.declared.tree.Stmt.TheFolds.{fold-Stmt}
use Rattle.coco_ast.specs.declared.tree.Proc.{Proc}
use Rattle.coco_ast.specs.declared.tree.Procs.{Procs}

abbrev pub sign_of : TwoOp → TwoSign
sign_of op.Add = sign.Add
sign_of op.Subtract = sign.Subtract
sign_of op.Multiply = sign.Multiply
sign_of op.Divide = sign.Divide
sign_of op.Remainder = sign.Remainder
sign_of op.Equal = sign.Equal
sign_of op.NotEqual = sign.NotEqual
sign_of op.Less = sign.Less
sign_of op.AtMost = sign.AtMost
sign_of op.Greater = sign.Greater
sign_of op.AtLeast = sign.AtLeast
sign_of op.And = sign.And
sign_of op.Or = sign.Or

-- one level, with each expression inside already seen as its tree
abbrev pub expression_step : Expr-F Expression → Expression
expression_step (Expr-F.Number n) = Number n
expression_step (Expr-F.Text text) = Quoted text
expression_step Expr-F.None = Nothing
expression_step (Expr-F.Var name) = Variable name
expression_step (Expr-F.Not e) = Not e.value
expression_step (Expr-F.Negate e) = Negate e.value
expression_step (Expr-F.Two op left right) = Two (sign_of op) left.value right.value

abbrev pub expression_of : Expr → Expression
expression_of = fold-Expr Expression expression_step

abbrev pub place_of : Place → RowPlace
place_of p = record { table = p.table; row = expression_of p.row }

abbrev pub statements_from : List Statement → Statements
statements_from [] = End
statements_from (s ∷ ss) = Then s (statements_from ss)

-- one level, with each statement inside already seen as its tree
abbrev pub statement_step : Stmt-F Statement → Statement
statement_step (Stmt-F.Let name value) = Let name (expression_of value)
statement_step (Stmt-F.Get name place) = Get name (place_of place)
statement_step (Stmt-F.Put place value) = Put (place_of place) (expression_of value)
statement_step (Stmt-F.Delete place) = Delete (place_of place)
statement_step (Stmt-F.If test then_part None) = If (expression_of test) (statements_from then_part.items)
statement_step (Stmt-F.If test then_part (Some else_part)) = IfElse (expression_of test) (statements_from then_part.items) (statements_from else_part.items)
statement_step (Stmt-F.Repeat bound name block) = Repeat bound name (statements_from block.items)
statement_step (Stmt-F.Refuse n) = Refuse n
statement_step (Stmt-F.Reply value) = Reply (expression_of value)

abbrev pub statement_of : Stmt → Statement
statement_of = fold-Stmt Statement statement_step

abbrev pub statements_of : List Stmt → Statements
statements_of ss = statements_from (map statement_of ss)

abbrev pub procedure_of : Proc → Procedure
procedure_of p = record { name = p.name; params = p.params; body = statements_of p.body.items }

abbrev pub procedures_of : Procs → Procedures
procedures_of ps = record { tables = ps.tables; procs = map procedure_of ps.procs }
