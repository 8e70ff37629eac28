-- The grammar of procedure texts, over tokens without their places.
use Rattle.std.specs.Prelude.{ℕ, List, [], ◌∷◌, ◌++◌, pos}
use Rattle.coco_ast.specs.Tree.{Expression, None, Variable, Quoted, Negate, RowPlace, Statement, Statements, End, Then, Procedure, Procedures}
use Rattle.coco_ast.specs.Tree as tree
use Rattle.coco_ast.specs.Views.{sign_of}
use Rattle.coco_ast.specs.declared.tree.TwoOp.{TwoOp}
use Rattle.coco_ast.specs.declared.tree.TwoOp.TheVariants.{Add, Subtract, Multiply, Divide, Remainder, Equal, NotEqual, Less, AtMost, Greater, AtLeast, And, Or}
use Rattle.coco_parse.specs.declared.word.Word.{Word}
use Rattle.coco_parse.specs.declared.word.Word.TheVariants as word
use Rattle.coco_parse.specs.declared.word.Word.TheVariants.{Two, OpenParen, CloseParen, OpenBrace, CloseBrace, OpenBracket, CloseBracket, Comma, Semicolon, Assign}

-- ---- expressions

-- from the operators that bind least to what they bind
pub data Level : Type 0 where
  Disjunction Conjunction Inversion Comparison Sum Product Negation Atom : Level

-- the operators of a level whose chains group to the left
pub data Joins : Level → TwoOp → Type 0 where
  or : Joins Disjunction Or
  and : Joins Conjunction And
  add : Joins Sum Add
  subtract : Joins Sum Subtract
  multiply : Joins Product Multiply
  divide : Joins Product Divide
  remainder : Joins Product Remainder

-- those that stand between two sums, once
pub data Compares : TwoOp → Type 0 where
  equal : Compares Equal
  not_equal : Compares NotEqual
  less : Compares Less
  at_most : Compares AtMost
  greater : Compares Greater
  at_least : Compares AtLeast

-- the level of the operands of a level's operators
pub data Within : Level → Level → Type 0 where
  disjunction : Within Disjunction Conjunction
  conjunction : Within Conjunction Inversion
  inversion : Within Inversion Comparison
  comparison : Within Comparison Sum
  sum : Within Sum Product
  product : Within Product Negation
  negation : Within Negation Atom

pub data IsExpression : Level → List Word → Expression → Type 0 where
  -- without an operator of its level
  plain : {l k : Level} {ws : List Word} {e : Expression} → Within l k → IsExpression k ws e → IsExpression l ws e
  joined : {l k : Level} {op : TwoOp} {us vs : List Word} {d e : Expression} → Joins l op → Within l k → IsExpression l us d → IsExpression k vs e → IsExpression l (us ++ Two op ∷ vs) (tree.Two (sign_of op) d e)
  compared : {op : TwoOp} {us vs : List Word} {d e : Expression} → Compares op → IsExpression Sum us d → IsExpression Sum vs e → IsExpression Comparison (us ++ Two op ∷ vs) (tree.Two (sign_of op) d e)
  inverted : {ws : List Word} {e : Expression} → IsExpression Inversion ws e → IsExpression Inversion (word.Not ∷ ws) (tree.Not e)
  negated : {ws : List Word} {e : Expression} → IsExpression Negation ws e → IsExpression Negation (Two Subtract ∷ ws) (Negate e)
  number : {n : ℕ} → IsExpression Atom (word.Number n ∷ []) (tree.Number (pos n))
  text : {bytes : List ℕ} → IsExpression Atom (word.Text bytes ∷ []) (Quoted bytes)
  none : IsExpression Atom (word.None ∷ []) None
  variable : {name : List ℕ} → IsExpression Atom (word.Name name ∷ []) (Variable name)
  -- parentheses leave no mark
  enclosed : {ws : List Word} {e : Expression} → IsExpression Disjunction ws e → IsExpression Atom (OpenParen ∷ ws ++ CloseParen ∷ []) e

abbrev pub IsWhole : List Word → Expression → Type 0
IsWhole = IsExpression Disjunction

pub data IsPlace : List Word → RowPlace → Type 0 where
  row : {table : List ℕ} {ws : List Word} {e : Expression} → IsWhole ws e → IsPlace (word.Name table ∷ OpenBracket ∷ ws ++ CloseBracket ∷ []) (record { table = table; row = e })

-- ---- statements

mutual
  pub data IsStatement : List Word → Statement → Type 0 where
    sets : {x : List ℕ} {ws : List Word} {e : Expression} → IsWhole ws e → IsStatement (word.Let ∷ word.Name x ∷ Assign ∷ ws ++ Semicolon ∷ []) (tree.Let x e)
    gets : {x : List ℕ} {ws : List Word} {p : RowPlace} → IsPlace ws p → IsStatement (word.Let ∷ word.Name x ∷ Assign ∷ word.Get ∷ ws ++ Semicolon ∷ []) (tree.Get x p)
    puts : {us vs : List Word} {p : RowPlace} {e : Expression} → IsPlace us p → IsWhole vs e → IsStatement (word.Put ∷ us ++ Assign ∷ vs ++ Semicolon ∷ []) (tree.Put p e)
    deletes : {ws : List Word} {p : RowPlace} → IsPlace ws p → IsStatement (word.Delete ∷ ws ++ Semicolon ∷ []) (tree.Delete p)
    tests : {us vs : List Word} {e : Expression} {yes : Statements} → IsWhole us e → IsBlock vs yes → IsStatement (word.If ∷ us ++ vs) (tree.If e yes)
    chooses : {us vs ws : List Word} {e : Expression} {yes no : Statements} → IsWhole us e → IsBlock vs yes → IsBlock ws no → IsStatement (word.If ∷ us ++ vs ++ word.Else ∷ ws) (tree.IfElse e yes no)
    repeats : {n : ℕ} {x : List ℕ} {ws : List Word} {body : Statements} → IsBlock ws body → IsStatement (word.Repeat ∷ word.Number n ∷ word.As ∷ word.Name x ∷ ws) (tree.Repeat n x body)
    refuses : {n : ℕ} → IsStatement (word.Refuse ∷ word.Number n ∷ Semicolon ∷ []) (tree.Refuse n)
    replies : {ws : List Word} {e : Expression} → IsWhole ws e → IsStatement (word.Reply ∷ ws ++ Semicolon ∷ []) (tree.Reply e)

  pub data IsBlock : List Word → Statements → Type 0 where
    braces : {ws : List Word} {body : Statements} → AreStatements ws body → IsBlock (OpenBrace ∷ ws ++ CloseBrace ∷ []) body

  pub data AreStatements : List Word → Statements → Type 0 where
    end : AreStatements [] End
    next : {us vs : List Word} {first : Statement} {rest : Statements} → IsStatement us first → AreStatements vs rest → AreStatements (us ++ vs) (Then first rest)

-- ---- procedures and files

-- names with commas between them
pub data AreListed : List Word → List (List ℕ) → Type 0 where
  last : {name : List ℕ} → AreListed (word.Name name ∷ []) (name ∷ [])
  listed : {name : List ℕ} {ws : List Word} {names : List (List ℕ)} → AreListed ws names → AreListed (word.Name name ∷ Comma ∷ ws) (name ∷ names)

pub data AreParams : List Word → List (List ℕ) → Type 0 where
  none : AreParams [] []
  some : {ws : List Word} {names : List (List ℕ)} → AreListed ws names → AreParams ws names

pub data IsProcedure : List Word → Procedure → Type 0 where
  procedure : {name : List ℕ} {us vs : List Word} {params : List (List ℕ)} {body : Statements} → AreParams us params → IsBlock vs body
      → IsProcedure (word.Proc ∷ word.Name name ∷ OpenParen ∷ us ++ CloseParen ∷ vs) (record { name = name; params = params; body = body })

-- a tree holds the tables and the procedures, each in the order of the text
pub data IsFile : List Word → List (List ℕ) → List Procedure → Type 0 where
  nothing : IsFile [] [] []
  table : {name : List ℕ} {ws : List Word} {tables : List (List ℕ)} {procs : List Procedure} → IsFile ws tables procs → IsFile (word.Table ∷ word.Name name ∷ Semicolon ∷ ws) (name ∷ tables) procs
  proc : {p : Procedure} {us vs : List Word} {tables : List (List ℕ)} {procs : List Procedure} → IsProcedure us p → IsFile vs tables procs → IsFile (us ++ vs) tables (p ∷ procs)

-- the words of a file of procedures, with its tree
abbrev pub IsText : List Word → Procedures → Type 0
IsText ws t = IsFile ws t.tables t.procs

-- with some words behind them these are a file's
abbrev pub IsFront : List Word → Type 0
IsFront ws = (rest : List Word) × (t : Procedures) × IsText (ws ++ rest) t
