-- The trees of procedures, as the text of a file of procedures gives them. A name is its bytes.
use Rattle.std.specs.Prelude.{ℕ, ℤ, List}

pub data TwoSign : Type 0 where
  Add Subtract Multiply Divide Remainder Equal NotEqual Less AtMost Greater AtLeast And Or : TwoSign

pub data Expression : Type 0 where
  Number : ℤ → Expression
  Quoted : List ℕ → Expression
  None : Expression
  Variable : List ℕ → Expression
  Not : Expression → Expression
  Negate : Expression → Expression
  Two : TwoSign → Expression → Expression → Expression

-- a row of a table
pub record RowPlace : Type 0 where
  pub table : List ℕ
  pub row : Expression

mutual
  pub data Statement : Type 0 where
    Let : List ℕ → Expression → Statement
    Get : List ℕ → RowPlace → Statement
    Put : RowPlace → Expression → Statement
    Delete : RowPlace → Statement
    If : Expression → Statements → Statement
    IfElse : Expression → Statements → Statements → Statement
    Repeat : ℕ → List ℕ → Statements → Statement
    Refuse : ℕ → Statement
    Reply : Expression → Statement

  pub data Statements : Type 0 where
    End : Statements
    Then : Statement → Statements → Statements

pub record Procedure : Type 0 where
  pub name : List ℕ
  pub params : List (List ℕ)
  pub body : Statements

-- the tables and the procedures, each in the order of their numbers, built-in ones included
pub record Procedures : Type 0 where
  pub tables : List (List ℕ)
  pub procs : List Procedure
