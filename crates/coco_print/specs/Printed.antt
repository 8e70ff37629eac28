-- The text of procedures: the tables, then the procedures, one statement a line, and each block two blanks further in.
use Rattle.std.specs.Prelude.{ℕ, Bool, true, false, if◌then◌else◌, List, [], ◌∷◌, ◌++◌, codes, decimal}
use Rattle.std.specs.Fmt.{signed_decimal}
use Rattle.std.specs.List.{flat_map}
use Rattle.coco_ast.specs.Tree.{TwoSign, Add, Subtract, Multiply, Divide, Remainder, Equal, NotEqual, Less, AtMost, Greater, AtLeast, And, Or, Expression, Number, Quoted, None, Variable, Not, Negate, Two, RowPlace, Statement, Let, Get, Put, Delete, If, IfElse, Repeat, Refuse, Reply, Statements, End, Then, Procedure, Procedures}
use Rattle.coco_lex.specs.Lexeme.{spelled}

abbrev pub operator_text : TwoSign → List ℕ
operator_text Add = codes " + "
operator_text Subtract = codes " - "
operator_text Multiply = codes " * "
operator_text Divide = codes " / "
operator_text Remainder = codes " % "
operator_text Equal = codes " == "
operator_text NotEqual = codes " != "
operator_text Less = codes " < "
operator_text AtMost = codes " <= "
operator_text Greater = codes " > "
operator_text AtLeast = codes " >= "
operator_text And = codes " and "
operator_text Or = codes " or "

-- in quotes, with a backslash before each quote and backslash
abbrev pub quoted : List ℕ → List ℕ
quoted content = codes "\"" ++ spelled content ++ codes "\""

abbrev pub is_operator : Expression → Bool
is_operator (Not e) = true
is_operator (Negate e) = true
is_operator (Two sign d e) = true
is_operator _ = false

-- the text of an operand, in parentheses where it is itself an operator
abbrev pub operand_text : Expression → List ℕ → List ℕ
operand_text e text = if is_operator e then codes "(" ++ text ++ codes ")" else text

abbrev pub expression_text : Expression → List ℕ
expression_text (Number n) = signed_decimal n
expression_text (Quoted content) = quoted content
expression_text None = codes "none"
expression_text (Variable name) = name
expression_text (Not e) = codes "not " ++ operand_text e (expression_text e)
expression_text (Negate e) = codes "-" ++ operand_text e (expression_text e)
expression_text (Two sign d e) = operand_text d (expression_text d) ++ operator_text sign ++ operand_text e (expression_text e)

abbrev pub place_text : RowPlace → List ℕ
place_text p = p.table ++ codes "[" ++ expression_text p.row ++ codes "]"

-- what stands before each line of a block
abbrev pub deeper : List ℕ → List ℕ
deeper margin = margin ++ codes "  "

-- a block with these lines
abbrev pub braced : List ℕ → List ℕ → List ℕ
braced margin lines = codes "{\n" ++ lines ++ margin ++ codes "}"

abbrev mutual
  -- behind the margin of its first line
  pub statement_text : List ℕ → Statement → List ℕ
  statement_text margin (Let x e) = codes "let " ++ x ++ codes " = " ++ expression_text e ++ codes ";"
  statement_text margin (Get x p) = codes "let " ++ x ++ codes " = get " ++ place_text p ++ codes ";"
  statement_text margin (Put p e) = codes "put " ++ place_text p ++ codes " = " ++ expression_text e ++ codes ";"
  statement_text margin (Delete p) = codes "delete " ++ place_text p ++ codes ";"
  statement_text margin (If e body) = codes "if " ++ expression_text e ++ codes " " ++ braced margin (lines_text (deeper margin) body)
  statement_text margin (IfElse e body other) =
      codes "if " ++ expression_text e ++ codes " " ++ braced margin (lines_text (deeper margin) body) ++ codes " else " ++ braced margin (lines_text (deeper margin) other)
  statement_text margin (Repeat n x body) = codes "repeat " ++ decimal n ++ codes " as " ++ x ++ codes " " ++ braced margin (lines_text (deeper margin) body)
  statement_text margin (Refuse n) = codes "refuse " ++ decimal n ++ codes ";"
  statement_text margin (Reply e) = codes "reply " ++ expression_text e ++ codes ";"

  pub lines_text : List ℕ → Statements → List ℕ
  lines_text margin End = []
  lines_text margin (Then first rest) = margin ++ statement_text margin first ++ codes "\n" ++ lines_text margin rest

abbrev pub block_text : List ℕ → Statements → List ℕ
block_text margin body = braced margin (lines_text (deeper margin) body)

abbrev pub further_param : List ℕ → List ℕ
further_param name = codes ", " ++ name

abbrev pub params_text : List (List ℕ) → List ℕ
params_text [] = []
params_text (name ∷ names) = name ++ flat_map further_param names

abbrev pub procedure_text : Procedure → List ℕ
procedure_text p = codes "proc " ++ p.name ++ codes "(" ++ params_text p.params ++ codes ") " ++ block_text [] p.body ++ codes "\n"

abbrev pub table_text : List ℕ → List ℕ
table_text name = codes "table " ++ name ++ codes ";\n"

abbrev pub printed : Procedures → List ℕ
printed t = flat_map table_text t.tables ++ flat_map procedure_text t.procs
