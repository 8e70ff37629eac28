-- A machine that reads a file of procedures word by word. What it does next is a goal. Only contracts of private functions and
-- proofs name it: the definition is the grammar.
use Rattle.std.specs.Prelude.{ℕ, suc, Bool, true, false, ◌&&◌, nat_le, nat_eq, if◌then◌else◌, List, [], ◌∷◌, ◌++◌, Option, None, Some, option_map, option_and_then, pos}
use Rattle.coco_ast.specs.Tree.{Expression, Variable, Quoted, Negate, RowPlace, Statement, Statements, Procedure}
use Rattle.coco_ast.specs.Tree as tree
use Rattle.coco_ast.specs.Views.{sign_of, statements_from}
use Rattle.coco_ast.specs.declared.tree.TwoOp.{TwoOp}
use Rattle.coco_ast.specs.declared.tree.TwoOp.TheVariants.{Add, Subtract, Multiply, Divide, Remainder, Equal, NotEqual, Less, AtMost, Greater, AtLeast, And, Or}
use Rattle.coco_parse.specs.declared.word.Word.{Word}
use Rattle.coco_parse.specs.declared.word.Word.TheVariants as word
use Rattle.coco_parse.specs.declared.word.Word.TheVariants.{Two, OpenParen, CloseParen, OpenBrace, CloseBrace, OpenBracket, CloseBracket, Comma, Semicolon, Assign}

-- ---- expressions

-- what waits for an operand: a parenthesis, `not`, a minus, or an operator with what stands on its left
pub data Frame : Type 0 where
  Opened : Frame
  Inverted : Frame
  Negated : Frame
  Left : TwoOp → Expression → Frame

abbrev pub binding : TwoOp → ℕ
binding Or = 0
binding And = 1
binding Equal = 3
binding NotEqual = 3
binding Less = 3
binding AtMost = 3
binding Greater = 3
binding AtLeast = 3
binding Add = 4
binding Subtract = 4
binding Multiply = 5
binding Divide = 5
binding Remainder = 5

-- an operand holds operators that bind at least so much
abbrev pub wants : List Frame → ℕ
wants [] = 0
wants (Opened ∷ fs) = 0
wants (Inverted ∷ fs) = 2
wants (Negated ∷ fs) = 6
wants (Left op e ∷ fs) = suc (binding op)

-- the frames behind an operator that follows an operand
abbrev pub operate : Expression → List Frame → TwoOp → Option (List Frame)
operate e [] op = Some (Left op e ∷ [])
operate e (Opened ∷ fs) op = Some (Left op e ∷ Opened ∷ fs)
operate e (Inverted ∷ fs) op = if nat_le 2 (binding op) then Some (Left op e ∷ Inverted ∷ fs) else operate (tree.Not e) fs op
operate e (Negated ∷ fs) op = operate (Negate e) fs op
operate e (Left o d ∷ fs) op =
    if nat_le (suc (binding o)) (binding op) then Some (Left op e ∷ Left o d ∷ fs)
    else (if nat_eq (binding o) 3 && nat_eq (binding op) 3 then None else operate (tree.Two (sign_of o) d e) fs op)

-- the operand that a closing parenthesis makes, with the frames around it
abbrev pub enclose : Expression → List Frame → Option (Expression × List Frame)
enclose e [] = None
enclose e (Opened ∷ fs) = Some (e, fs)
enclose e (Inverted ∷ fs) = enclose (tree.Not e) fs
enclose e (Negated ∷ fs) = enclose (Negate e) fs
enclose e (Left o d ∷ fs) = enclose (tree.Two (sign_of o) d e) fs

-- the whole expression that ends behind an operand
abbrev pub conclude : Expression → List Frame → Option Expression
conclude e [] = Some e
conclude e (Opened ∷ fs) = None
conclude e (Inverted ∷ fs) = conclude (tree.Not e) fs
conclude e (Negated ∷ fs) = conclude (Negate e) fs
conclude e (Left o d ∷ fs) = conclude (tree.Two (sign_of o) d e) fs

-- ---- goals

-- the words that stand alone at a place of the grammar
pub data Mark : Type 0 where
  ParenMark BraceMark BracketMark EndBracketMark SemicolonMark AssignMark AsMark : Mark

abbrev pub mark_word : Mark → Word
mark_word ParenMark = OpenParen
mark_word BraceMark = OpenBrace
mark_word BracketMark = OpenBracket
mark_word EndBracketMark = CloseBracket
mark_word SemicolonMark = Semicolon
mark_word AssignMark = Assign
mark_word AsMark = word.As

abbrev pub marks : Mark → Word → Bool
marks ParenMark OpenParen = true
marks BraceMark OpenBrace = true
marks BracketMark OpenBracket = true
marks EndBracketMark CloseBracket = true
marks SemicolonMark Semicolon = true
marks AssignMark Assign = true
marks AsMark word.As = true
marks _ _ = false

-- what is read next, and what becomes of it
pub data Goal : Type 0 where
  -- tables and procedures
  Items : List (List ℕ) → List Procedure → Goal
  Fixed : Mark → Goal → Goal
  Named : (List ℕ → Goal) → Goal
  Numbered : (ℕ → Goal) → Goal
  -- parameters and their closing parenthesis; behind a parameter, with those so far
  Params : (List (List ℕ) → Goal) → Goal
  Listed : List (List ℕ) → (List (List ℕ) → Goal) → Goal
  -- an expression and the mark behind it: its next operand, or what stands behind an operand
  Operand : List Frame → Mark → (Expression → Goal) → Goal
  Operator : Expression → List Frame → Mark → (Expression → Goal) → Goal
  -- an expression or `get` and a place, and a semicolon
  Valued : (Expression → Goal) → (RowPlace → Goal) → Goal
  -- statements and their closing brace; behind the first block of an `if`
  Within : List Statement → (Statements → Goal) → Goal
  Tested : Expression → Statements → List Statement → (Statements → Goal) → Goal

abbrev pub at_place : (RowPlace → Goal) → Goal
at_place k = Named (λ t. Fixed BracketMark (Operand [] EndBracketMark (λ e. k (record { table = t; row = e }))))

abbrev pub in_braces : (Statements → Goal) → Goal
in_braces k = Fixed BraceMark (Within [] k)

abbrev pub with_statement : List Statement → (Statements → Goal) → Statement → Goal
with_statement ss k s = Within (ss ++ s ∷ []) k

abbrev pub operand_step : List Frame → Mark → (Expression → Goal) → Word → Option Goal
operand_step fs m k (word.Number n) = Some (Operator (tree.Number (pos n)) fs m k)
operand_step fs m k (word.Text bytes) = Some (Operator (Quoted bytes) fs m k)
operand_step fs m k word.None = Some (Operator tree.None fs m k)
operand_step fs m k (word.Name name) = Some (Operator (Variable name) fs m k)
operand_step fs m k OpenParen = Some (Operand (Opened ∷ fs) m k)
operand_step fs m k (Two Subtract) = Some (Operand (Negated ∷ fs) m k)
operand_step fs m k word.Not = if nat_le (wants fs) 2 then Some (Operand (Inverted ∷ fs) m k) else None
operand_step fs m k _ = None

abbrev pub operator_step : Expression → List Frame → Mark → (Expression → Goal) → Word → Option Goal
operator_step e fs m k (Two op) = option_map (λ gs. Operand gs m k) (operate e fs op)
operator_step e fs m k CloseParen = option_map (λ p. Operator p.0 p.1 m k) (enclose e fs)
operator_step e fs m k w = if marks m w then option_map k (conclude e fs) else None

abbrev pub within_step : List Statement → (Statements → Goal) → Word → Option Goal
within_step ss k word.Let = Some (Named (λ x. Fixed AssignMark (Valued (λ e. with_statement ss k (tree.Let x e)) (λ p. with_statement ss k (tree.Get x p)))))
within_step ss k word.Put = Some (at_place (λ p. Fixed AssignMark (Operand [] SemicolonMark (λ e. with_statement ss k (tree.Put p e)))))
within_step ss k word.Delete = Some (at_place (λ p. Fixed SemicolonMark (with_statement ss k (tree.Delete p))))
within_step ss k word.If = Some (Operand [] BraceMark (λ e. Within [] (λ body. Tested e body ss k)))
within_step ss k word.Repeat = Some (Numbered (λ n. Fixed AsMark (Named (λ x. in_braces (λ body. with_statement ss k (tree.Repeat n x body))))))
within_step ss k word.Refuse = Some (Numbered (λ n. Fixed SemicolonMark (with_statement ss k (tree.Refuse n))))
within_step ss k word.Reply = Some (Operand [] SemicolonMark (λ e. with_statement ss k (tree.Reply e)))
within_step ss k CloseBrace = Some (k (statements_from ss))
within_step ss k _ = None

abbrev pub step : Goal → Word → Option Goal
step (Items ts ps) word.Table = Some (Named (λ name. Fixed SemicolonMark (Items (ts ++ name ∷ []) ps)))
step (Items ts ps) word.Proc = Some (Named (λ name. Fixed ParenMark (Params (λ params. in_braces (λ body. Items ts (ps ++ record { name = name; params = params; body = body } ∷ []))))))
step (Items ts ps) _ = None
step (Fixed m g) w = if marks m w then Some g else None
step (Named k) (word.Name name) = Some (k name)
step (Named k) _ = None
step (Numbered k) (word.Number n) = Some (k n)
step (Numbered k) _ = None
step (Params k) (word.Name name) = Some (Listed (name ∷ []) k)
step (Params k) CloseParen = Some (k [])
step (Params k) _ = None
step (Listed names k) Comma = Some (Named (λ name. Listed (names ++ name ∷ []) k))
step (Listed names k) CloseParen = Some (k names)
step (Listed names k) _ = None
step (Operand fs m k) w = operand_step fs m k w
step (Operator e fs m k) w = operator_step e fs m k w
step (Valued set get) word.Get = Some (at_place (λ p. Fixed SemicolonMark (get p)))
step (Valued set get) w = operand_step [] SemicolonMark set w
step (Within ss k) w = within_step ss k w
step (Tested e body ss k) word.Else = Some (in_braces (λ other. with_statement ss k (tree.IfElse e body other)))
step (Tested e body ss k) w = within_step (ss ++ tree.If e body ∷ []) k w

-- the goal behind some words, and none where one of them can't stand
abbrev pub after : Goal → List Word → Option Goal
after g [] = Some g
after g (w ∷ ws) = option_and_then (λ h. after h ws) (step g w)

-- before the first word
abbrev pub start : Goal
start = Items [] []
