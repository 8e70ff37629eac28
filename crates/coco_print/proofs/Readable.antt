-- What a tree has that some text gave: each name, number and text in it may be a token.
use Rattle.std.specs.Prelude.{ℕ, ◌≤◌, pos, negsuc, List, [], ◌∷◌, length, All}
use Rattle.coco_ast.specs.Tree.{Expression, Number, Quoted, None, Variable, Not, Negate, Two, RowPlace, Statement, Let, Get, Put, Delete, If, IfElse, Repeat, Refuse, Reply, Statements, End, Then, Procedure, Procedures}
use Rattle.coco_print.proofs.Parts.{IsName}

-- a number of a text
abbrev pub IsCount : ℕ → Type 0
IsCount n = n ≤ 9223372036854775807

-- what may stand between quotes
pub record IsQuotable (content : List ℕ) : Type 0 where
  pub printable : All (λ b. 32 ≤ b) content
  pub short : length content ≤ 256

abbrev pub IsReadable : Expression → Type 0
IsReadable (Number (pos n)) = IsCount n
IsReadable (Number (negsuc n)) = ⊥
IsReadable (Quoted content) = IsQuotable content
IsReadable None = Unit {0}
IsReadable (Variable name) = IsName name
IsReadable (Not e) = IsReadable e
IsReadable (Negate e) = IsReadable e
IsReadable (Two sign d e) = IsReadable d × IsReadable e

abbrev pub IsReadablePlace : RowPlace → Type 0
IsReadablePlace p = IsName p.table × IsReadable p.row

abbrev mutual
  pub IsReadableStatement : Statement → Type 0
  IsReadableStatement (Let x e) = IsName x × IsReadable e
  IsReadableStatement (Get x p) = IsName x × IsReadablePlace p
  IsReadableStatement (Put p e) = IsReadablePlace p × IsReadable e
  IsReadableStatement (Delete p) = IsReadablePlace p
  IsReadableStatement (If e body) = IsReadable e × AreReadable body
  IsReadableStatement (IfElse e body other) = IsReadable e × AreReadable body × AreReadable other
  IsReadableStatement (Repeat n x body) = IsCount n × IsName x × AreReadable body
  IsReadableStatement (Refuse n) = IsCount n
  IsReadableStatement (Reply e) = IsReadable e

  pub AreReadable : Statements → Type 0
  AreReadable End = Unit {0}
  AreReadable (Then first rest) = IsReadableStatement first × AreReadable rest

abbrev pub AreNames : List (List ℕ) → Type 0
AreNames [] = Unit {0}
AreNames (name ∷ names) = IsName name × AreNames names

pub record IsReadableProcedure (p : Procedure) : Type 0 where
  pub name : IsName p.name
  pub params : AreNames p.params
  pub body : AreReadable p.body

abbrev pub AreReadableProcedures : List Procedure → Type 0
AreReadableProcedures [] = Unit {0}
AreReadableProcedures (p ∷ ps) = IsReadableProcedure p × AreReadableProcedures ps

pub record IsReadableTree (t : Procedures) : Type 0 where
  pub tables : AreNames t.tables
  pub procs : AreReadableProcedures t.procs
