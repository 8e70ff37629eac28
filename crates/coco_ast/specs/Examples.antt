-- Small procedures, and what the meaning answers to them.
use Rattle.std.specs.Prelude.{◌≡◌, ℕ, false, List, [], ◌∷◌, map, codes, pos, negsuc, None, Some}
use Rattle.std.specs.FinMap.{empty, remove}
use Rattle.coco_types.specs.RowKey.{RowKey}
use Rattle.coco_types.specs.declared.value.Value.TheVariants.{Int, Text}
use Rattle.coco_types.specs.declared.call.Cause.TheVariants.{User, Overflow, ZeroDivide, Kind, BadRow}
use Rattle.coco_types.specs.declared.call.Reply.{Reply}
use Rattle.coco_types.specs.declared.call.Reply.TheVariants.{Ok as Answers, Refused}
use Rattle.coco_types.specs.declared.call.Write.{Write}
use Rattle.coco_ast.specs.Keyed.{Rows, write_at}
use Rattle.coco_ast.specs.Meaning.{Datum, Run, run}
use Rattle.coco_ast.specs.Tree.{Expression, Number, Quoted, None as Nothing, Variable, Not, Negate, Two, Add, Subtract, Multiply, Divide, Remainder, Equal, NotEqual, Less, AtMost, Greater, AtLeast, And, Or, RowPlace, Let, Get, Put, Delete, If, IfElse, Repeat, Refuse, Reply as Replies, Statements, End, Then}

-- ---- one call of one procedure without parameters, on the table t

abbrev pub called : Statements → Rows → Run
called body m =
    run (record { tables = codes "t" ∷ []; procs = record { name = codes "p"; params = []; body = body } ∷ [] })
    (record { proc_no = 0; args = []; snapshot = false })
    m

abbrev pub answer : Statements → Reply
answer body = (called body empty).reply

abbrev pub value : Expression → Reply
value e = answer (Then (Replies e) End)

-- ---- words for the trees

abbrev pub number : ℕ → Expression
number n = Number (pos n)

abbrev pub words : Expression
words = Quoted (codes "abc")

-- the ends of 64 bits
abbrev pub greatest : Expression
greatest = number 9223372036854775807

abbrev pub least : Expression
least = Two Subtract (Negate greatest) (number 1)

abbrev pub zero_divide : Expression
zero_divide = Two Divide (number 1) (number 0)

abbrev pub too_great : Expression
too_great = Two Add greatest (number 1)

abbrev pub row : Expression → RowPlace
row e = record { table = codes "t"; row = e }

abbrev pub x : Expression
x = Variable (codes "x")

abbrev pub i : Expression
i = Variable (codes "i")

abbrev pub gives : ℕ → Reply
gives n = Answers (Some (Int (pos n)))

-- minus n + 1
abbrev pub gives_negative : ℕ → Reply
gives_negative n = Answers (Some (Int (negsuc n)))

-- ---- tables of examples

-- the meaning gives each of these expressions the value beside it
abbrev pub HaveValues : List (Expression × Reply) → Type 0
HaveValues rows = map (λ r. value r.0) rows ≡ map (λ r. r.1) rows

abbrev pub HaveAnswers : List (Statements × Reply) → Type 0
HaveAnswers rows = map (λ r. answer r.0) rows ≡ map (λ r. r.1) rows

-- sums, differences, products and signs at the ends of 64 bits
abbrev pub ends : List (Expression × Reply)
ends =
    (greatest, gives 9223372036854775807)
    ∷ (least, gives_negative 9223372036854775807)
    ∷ (Two Add greatest (number 1), Refused Overflow)
    ∷ (Two Add greatest least, gives_negative 0)
    ∷ (Two Add least (Negate (number 1)), Refused Overflow)
    ∷ (Two Subtract least (number 1), Refused Overflow)
    ∷ (Two Subtract greatest (Negate (number 1)), Refused Overflow)
    ∷ (Two Subtract (Negate (number 1)) greatest, gives_negative 9223372036854775807)
    ∷ (Two Subtract (Negate (number 2)) greatest, Refused Overflow)
    ∷ (Two Subtract (number 0) least, Refused Overflow)
    ∷ (Two Multiply greatest (number 2), Refused Overflow)
    ∷ (Two Multiply greatest (Negate (number 1)), gives_negative 9223372036854775806)
    ∷ (Two Multiply (number 4294967296) (Negate (number 2147483648)), gives_negative 9223372036854775807)
    ∷ (Two Multiply (number 4294967296) (number 2147483648), Refused Overflow)
    ∷ (Two Multiply least (Negate (number 1)), Refused Overflow)
    ∷ (Negate greatest, gives_negative 9223372036854775806)
    ∷ (Negate least, Refused Overflow)
    ∷ []

-- quotients go towards zero, and a remainder has the sign of the left
abbrev pub quotients : List (Expression × Reply)
quotients =
    (Two Divide (number 7) (number 2), gives 3)
    ∷ (Two Divide (Negate (number 7)) (number 2), gives_negative 2)
    ∷ (Two Divide (number 7) (Negate (number 2)), gives_negative 2)
    ∷ (Two Divide (Negate (number 7)) (Negate (number 2)), gives 3)
    ∷ (Two Remainder (number 7) (number 2), gives 1)
    ∷ (Two Remainder (Negate (number 7)) (number 2), gives_negative 0)
    ∷ (Two Remainder (number 7) (Negate (number 2)), gives 1)
    ∷ (Two Remainder (Negate (number 7)) (Negate (number 2)), gives_negative 0)
    ∷ (Two Divide least (number 1), gives_negative 9223372036854775807)
    ∷ (Two Divide least (Negate (number 1)), Refused Overflow)
    ∷ (Two Remainder least (Negate (number 1)), Refused Overflow)
    ∷ (Two Divide (number 1) (number 0), Refused ZeroDivide)
    ∷ (Two Remainder (number 1) (number 0), Refused ZeroDivide)
    ∷ []

-- the kind of the operands is refused first, then a divisor of 0, then what is out of range.
-- Operands are computed from the left, and both before either is looked at
abbrev pub refusals : List (Expression × Reply)
refusals =
    (Two Divide Nothing (number 0), Refused Kind)
    ∷ (Two Remainder words (number 0), Refused Kind)
    ∷ (Two Divide least (number 0), Refused ZeroDivide)
    ∷ (Two Remainder least (number 0), Refused ZeroDivide)
    ∷ (Two Add zero_divide too_great, Refused ZeroDivide)
    ∷ (Two Add too_great zero_divide, Refused Overflow)
    ∷ (Two Add Nothing zero_divide, Refused ZeroDivide)
    ∷ (Two Multiply words too_great, Refused Overflow)
    ∷ (Two Add (Two Add Nothing (number 1)) zero_divide, Refused Kind)
    ∷ (Two Subtract (number 1) words, Refused Kind)
    ∷ (Negate Nothing, Refused Kind)
    ∷ (Negate zero_divide, Refused ZeroDivide)
    ∷ (Not words, Refused Kind)
    ∷ (Two Less words words, Refused Kind)
    ∷ (Two AtLeast (number 1) Nothing, Refused Kind)
    ∷ []

-- comparisons give 1 or 0. Values of different kinds are unequal
abbrev pub comparisons : List (Expression × Reply)
comparisons =
    (Two Equal (number 3) (number 3), gives 1)
    ∷ (Two Equal (number 3) (Negate (number 3)), gives 0)
    ∷ (Two Equal words words, gives 1)
    ∷ (Two Equal words (Quoted (codes "ab")), gives 0)
    ∷ (Two Equal (number 1) (Quoted (codes "1")), gives 0)
    ∷ (Two Equal (number 0) Nothing, gives 0)
    ∷ (Two Equal Nothing (Quoted []), gives 0)
    ∷ (Two Equal Nothing Nothing, gives 1)
    ∷ (Two NotEqual Nothing (number 0), gives 1)
    ∷ (Two NotEqual words words, gives 0)
    ∷ (Two Equal zero_divide Nothing, Refused ZeroDivide)
    ∷ (Two Less (Negate (number 1)) (number 0), gives 1)
    ∷ (Two Less (number 2) (number 2), gives 0)
    ∷ (Two AtMost (number 2) (number 2), gives 1)
    ∷ (Two AtMost (number 3) (number 2), gives 0)
    ∷ (Two Greater (number 3) (number 2), gives 1)
    ∷ (Two Greater (number 2) (number 2), gives 0)
    ∷ (Two AtLeast (number 2) (number 2), gives 1)
    ∷ (Two AtLeast least greatest, gives 0)
    ∷ []

-- a number other than 0 is true, and both operands are always computed
abbrev pub connectives : List (Expression × Reply)
connectives =
    (Two And (number 5) (Negate (number 1)), gives 1)
    ∷ (Two And (number 5) (number 0), gives 0)
    ∷ (Two And (number 0) zero_divide, Refused ZeroDivide)
    ∷ (Two And (number 0) Nothing, Refused Kind)
    ∷ (Two Or (number 0) (number 2), gives 1)
    ∷ (Two Or (number 0) (number 0), gives 0)
    ∷ (Two Or (number 1) zero_divide, Refused ZeroDivide)
    ∷ (Two Or (number 1) words, Refused Kind)
    ∷ (Not (number 0), gives 1)
    ∷ (Not (Negate (number 2)), gives 0)
    ∷ []

-- variables, conditions, ends and repeats
abbrev pub statements : List (Statements × Reply)
statements =
    -- a variable holds none until it is set
    (Then (Replies x) End, Answers None)
    ∷ (Then (If (number 0) (Then (Let (codes "x") (number 1)) End)) (Then (Replies x) End), Answers None)
    ∷ (Then (Let (codes "x") words) (Then (Let (codes "x") (number 2)) (Then (Replies x) End)), gives 2)
    -- a condition is a number
    ∷ (Then (If words (Then (Replies (number 1)) End)) End, Refused Kind)
    ∷ (Then (If Nothing (Then (Replies (number 1)) End)) End, Refused Kind)
    ∷ (Then (IfElse zero_divide (Then (Replies (number 1)) End) (Then (Replies (number 2)) End)) End, Refused ZeroDivide)
    ∷ (Then (IfElse (Negate (number 1)) (Then (Replies (number 1)) End) (Then (Replies (number 2)) End)) End, gives 1)
    ∷ (Then (IfElse (number 0) (Then (Replies (number 1)) End) (Then (Replies (number 2)) End)) End, gives 2)
    -- what ends the procedure ends it at once, within blocks too
    ∷ (Then (Replies (number 1)) (Then (Refuse 2) End), gives 1)
    ∷ (Then (Refuse 65535) (Then (Replies (number 1)) End), Refused (User 65535))
    ∷ (Then (Repeat 3 (codes "i") (Then (Replies i) End)) (Then (Replies (number 9)) End), gives 0)
    -- a counter goes from 0 on, and keeps its last value
    ∷ (Then (Repeat 3 (codes "i") End) (Then (Replies i) End), gives 2)
    ∷ (Then (Let (codes "x") (number 0)) (Then (Repeat 5 (codes "i") (Then (Let (codes "x") (Two Add (Two Multiply (number 10) x) i)) End)) (Then (Replies x) End)), gives 1234)
    -- what a turn sets it to lasts to the next turn
    ∷ (Then (Repeat 2 (codes "i") (Then (Let (codes "i") (Two Add i (number 7))) End)) (Then (Replies i) End), gives 8)
    -- a place is a number from 0 on, and is looked at before the value
    ∷ (Then (Get (codes "x") (row words)) (Then (Replies x) End), Refused Kind)
    ∷ (Then (Get (codes "x") (row Nothing)) (Then (Replies x) End), Refused Kind)
    ∷ (Then (Get (codes "x") (row (Negate (number 1)))) (Then (Replies x) End), Refused BadRow)
    ∷ (Then (Delete (row least)) (Then (Replies x) End), Refused BadRow)
    ∷ (Then (Put (row (Negate (number 1))) zero_divide) (Then (Replies x) End), Refused BadRow)
    ∷ (Then (Put (row words) zero_divide) (Then (Replies x) End), Refused Kind)
    ∷ (Then (Put (row (number 0)) zero_divide) (Then (Replies x) End), Refused ZeroDivide)
    ∷ []

-- ---- examples on a map

abbrev pub at : ℕ → RowKey
at n = record { table = 0; row = n }

abbrev pub written : ℕ → Datum → Write
written n v = record { key = at n; value = v }

abbrev pub seven : Datum
seven = Some (Int (pos 7))

-- put t[5] = e;
abbrev pub puts : Expression → Statements → Statements
puts e rest = Then (Put (row (number 5)) e) rest

-- let x = get t[n];
abbrev pub reads : ℕ → Statements → Statements
reads n rest = Then (Get (codes "x") (row (number n))) rest

abbrev pub replies_x : Statements
replies_x = Then (Replies x) End

pub record OnAMap (m : Rows) : Type 0 where
  -- a call reads what it wrote, and such a key isn't needed
  pub reads_its_writes : called (puts (number 7) (reads 5 replies_x)) m ≡ record { reply = Answers seven; rows = write_at m (at 5) seven; needs = []; writes = written 5 seven ∷ [] }
  -- to put none takes the row away, and is a write
  pub put_of_none : called (puts Nothing (reads 5 replies_x)) m ≡ record { reply = Answers None; rows = remove m (at 5); needs = []; writes = written 5 None ∷ [] }
  pub delete : called (Then (Delete (row (number 5))) (reads 5 replies_x)) m ≡ record { reply = Answers None; rows = remove m (at 5); needs = []; writes = written 5 None ∷ [] }
  -- a refusal behind a put leaves the map. What was read stays needed
  pub refused_after_put : called (reads 4 (puts (number 7) (Then (Refuse 3) End))) m ≡ record { reply = Refused (User 3); rows = m; needs = at 4 ∷ []; writes = [] }
  -- a key is needed once, in the order of first need, and not behind a write of it
  pub needs_in_order : (called (reads 9 (reads 2 (puts (number 7) (reads 9 (reads 5 (reads 3 replies_x)))))) m).needs ≡ at 9 ∷ at 2 ∷ at 3 ∷ []
  -- a key that is read before it is written is needed
  pub need_before_put : (called (reads 5 (puts x replies_x)) m).needs ≡ at 5 ∷ []
  -- writes ascend, each with the last value of its key
  pub writes_ascend :
      (called (Then (Put (row (number 9)) words) (puts (number 1) (Then (Delete (row (number 0))) (puts (number 7) (Then (Replies Nothing) End))))) m).writes
      ≡ written 0 None ∷ written 5 seven ∷ written 9 (Some (Text (codes "abc"))) ∷ []

-- all of them
pub record Examples : Type 0 where
  pub ends : HaveValues ends
  pub quotients : HaveValues quotients
  pub refusals : HaveValues refusals
  pub comparisons : HaveValues comparisons
  pub connectives : HaveValues connectives
  pub statements : HaveAnswers statements
  pub on_a_map : (m : Rows) → OnAMap m
