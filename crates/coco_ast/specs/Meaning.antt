-- What a call of a procedure means: its reply, the map that it leaves, the keys that it needs and its writes, on one map.
use Rattle.std.specs.Prelude.{ℕ, zero, suc, ◌+◌, ◌^◌, Bool, true, false, not, ◌&&◌, ◌||◌, if◌then◌else◌, nat_eq, nat_lt, List, [], ◌∷◌, ◌++◌, Option, None, Some, Result, Ok, Err, ℤ, pos, negsuc, ◌+ℤ◌, ◌-ℤ◌, ◌*ℤ◌, neg_ℤ, int_lt, int_le, int_div, int_rem}
use Rattle.std.specs.List.{list_any}
use Rattle.std.specs.Ordering.{int_eq, is_eq, match_ordering}
use Rattle.std.specs.Cmp.Lexicographic.{pointwise}
use Rattle.coco_types.specs.RowKey.{RowKey, key_cmp}
use Rattle.coco_types.specs.declared.value.Value.{Value}
use Rattle.coco_types.specs.declared.value.Value.TheVariants.{Int, Text}
use Rattle.coco_types.specs.declared.call.Cause.{Cause}
use Rattle.coco_types.specs.declared.call.Cause.TheVariants.{User, Overflow, ZeroDivide, Kind, BadRow}
use Rattle.coco_types.specs.declared.call.Call.{Call}
use Rattle.coco_types.specs.declared.call.Write.{Write}
use Rattle.coco_types.specs.declared.call.Reply.{Reply}
use Rattle.coco_types.specs.declared.call.Reply.TheVariants.{Ok as Answers, Refused}
use Rattle.coco_ast.specs.Tree.{Expression, Number, Quoted, None as Nothing, Variable, Not, Negate, Two, TwoSign, Add, Subtract, Multiply, Divide, Remainder, Equal, NotEqual, Less, AtMost, Greater, AtLeast, And, Or, RowPlace, Statement, Let, Get, Put, Delete, If, IfElse, Repeat, Refuse, Reply as Replies, Statements, End, Then, Procedure, Procedures}
use Rattle.coco_ast.specs.Keyed.{Rows, value_at, write_at}

-- ---- values

-- a value, or none
abbrev pub Datum : Type 0
Datum = Option Value

abbrev pub Computed : Type 0 → Type 0
Computed A = Result A Cause

-- what comes first refuses first
abbrev pub and_then : {A B : Type 0} → Computed A → (A → Computed B) → Computed B
and_then (Ok a) f = f a
and_then (Err c) f = Err c

abbrev pub truth : Bool → Computed Datum
truth true = Ok (Some (Int (pos 1)))
truth false = Ok (Some (Int (pos 0)))

abbrev pub fits : ℤ → Bool
fits (pos n) = nat_lt n (2 ^ 63)
fits (negsuc n) = nat_lt n (2 ^ 63)

abbrev pub within_range : ℤ → Computed Datum
within_range z = if fits z then Ok (Some (Int z)) else Err Overflow

abbrev pub number_of : Datum → Computed ℤ
number_of (Some (Int z)) = Ok z
number_of (Some (Text bytes)) = Err Kind
number_of None = Err Kind

abbrev pub same : Datum → Datum → Bool
same None None = true
same (Some (Int a)) (Some (Int b)) = int_eq a b
same (Some (Text a)) (Some (Text b)) = pointwise nat_eq a b
same _ _ = false

abbrev pub is_true : ℤ → Bool
is_true z = not (int_eq z (pos 0))

-- towards zero, the remainder with the sign of the left
abbrev pub divided : (ℤ → ℤ → ℤ) → ℤ → ℤ → Computed Datum
divided op a b = if int_eq b (pos 0) then Err ZeroDivide else (if fits (int_div a b) then Ok (Some (Int (op a b))) else Err Overflow)

abbrev pub numbers : TwoSign → ℤ → ℤ → Computed Datum
numbers Add a b = within_range (a +ℤ b)
numbers Subtract a b = within_range (a -ℤ b)
numbers Multiply a b = within_range (a *ℤ b)
numbers Divide a b = divided int_div a b
numbers Remainder a b = divided int_rem a b
numbers Equal a b = truth (int_eq a b)
numbers NotEqual a b = truth (not (int_eq a b))
numbers Less a b = truth (int_lt a b)
numbers AtMost a b = truth (int_le a b)
numbers Greater a b = truth (int_lt b a)
numbers AtLeast a b = truth (int_le b a)
numbers And a b = truth (is_true a && is_true b)
numbers Or a b = truth (is_true a || is_true b)

abbrev pub combined : TwoSign → Datum → Datum → Computed Datum
combined Equal a b = truth (same a b)
combined NotEqual a b = truth (not (same a b))
combined sign a b = and_then (number_of a) (λ x. and_then (number_of b) (λ y. numbers sign x y))

-- ---- expressions

-- the variables with their values, the newest first; a variable holds none until it is set
abbrev pub Variables : Type 0
Variables = List (List ℕ × Datum)

abbrev pub variable_at : Variables → List ℕ → Datum
variable_at [] x = None
variable_at (v ∷ vs) x = if pointwise nat_eq v.0 x then v.1 else variable_at vs x

abbrev pub value_of : Variables → Expression → Computed Datum
value_of vs (Number n) = Ok (Some (Int n))
value_of vs (Quoted bytes) = Ok (Some (Text bytes))
value_of vs Nothing = Ok None
value_of vs (Variable x) = Ok (variable_at vs x)
value_of vs (Not e) = and_then (value_of vs e) (λ v. and_then (number_of v) (λ z. truth (not (is_true z))))
value_of vs (Negate e) = and_then (value_of vs e) (λ v. and_then (number_of v) (λ z. within_range (neg_ℤ z)))
value_of vs (Two sign l r) = and_then (value_of vs l) (λ a. and_then (value_of vs r) (λ b. combined sign a b))

-- the number of a table or of a procedure: its place in the list of names
abbrev pub place_of : List (List ℕ) → List ℕ → ℕ
place_of [] x = 0
place_of (n ∷ ns) x = if pointwise nat_eq n x then 0 else suc (place_of ns x)

abbrev pub row_key : ℕ → Datum → Computed RowKey
row_key t (Some (Int (pos n))) = Ok (record { table = t; row = n })
row_key t (Some (Int (negsuc n))) = Err BadRow
row_key t (Some (Text bytes)) = Err Kind
row_key t None = Err Kind

abbrev pub key_of : List (List ℕ) → Variables → RowPlace → Computed RowKey
key_of tables vs place = and_then (value_of vs place.row) (λ v. row_key (place_of tables place.table) v)

-- ---- statements

-- a key is read, or it is written
pub data Access : Type 0 where
  Reads : RowKey → Access
  Writes : RowKey → Datum → Access

pub record State : Type 0 where
  pub variables : Variables
  pub rows : Rows
  pub accesses : List Access

-- what statements lead to: the statement behind them, or the end
pub data Flow : Type 0 where
  Goes : State → Flow
  Ends : State → Datum → Flow
  Refuses : State → Cause → Flow

abbrev pub set_variable : State → List ℕ → Datum → State
set_variable s x v = record s { variables = (x, v) ∷ s.variables }

abbrev pub read_row : State → List ℕ → RowKey → State
read_row s x k = record { variables = (x, value_at s.rows k) ∷ s.variables; rows = s.rows; accesses = s.accesses ++ Reads k ∷ [] }

abbrev pub write_row : State → RowKey → Datum → State
write_row s k v = record { variables = s.variables; rows = write_at s.rows k v; accesses = s.accesses ++ Writes k v ∷ [] }

-- goes on with what was computed, or refuses
abbrev pub with : {A : Type 0} → State → Computed A → (A → Flow) → Flow
with s (Ok a) f = f a
with s (Err c) f = Refuses s c

abbrev pub after : Flow → (State → Flow) → Flow
after (Goes s) f = f s
after (Ends s v) f = Ends s v
after (Refuses s c) f = Refuses s c

-- n turns from the number i on
abbrev pub turns : (State → Flow) → List ℕ → ℕ → ℕ → State → Flow
turns body x zero i s = Goes s
turns body x (suc n) i s = after (body (set_variable s x (Some (Int (pos i))))) (λ t. turns body x n (i + 1) t)

abbrev mutual
  pub statement_flow : List (List ℕ) → Statement → State → Flow
  statement_flow ts (Let x e) s = with s (value_of s.variables e) (λ v. Goes (set_variable s x v))
  statement_flow ts (Get x p) s = with s (key_of ts s.variables p) (λ k. Goes (read_row s x k))
  statement_flow ts (Put p e) s = with s (key_of ts s.variables p) (λ k. with s (value_of s.variables e) (λ v. Goes (write_row s k v)))
  statement_flow ts (Delete p) s = with s (key_of ts s.variables p) (λ k. Goes (write_row s k None))
  statement_flow ts (If e then_part) s = with s (and_then (value_of s.variables e) number_of) (λ z. if is_true z then statements_flow ts then_part s else Goes s)
  statement_flow ts (IfElse e then_part else_part) s = with s (and_then (value_of s.variables e) number_of) (λ z. if is_true z then statements_flow ts then_part s else statements_flow ts else_part s)
  statement_flow ts (Repeat n x body) s = turns (λ t. statements_flow ts body t) x n 0 s
  statement_flow ts (Refuse n) s = Refuses s (User n)
  statement_flow ts (Replies e) s = with s (value_of s.variables e) (λ v. Ends s v)

  pub statements_flow : List (List ℕ) → Statements → State → Flow
  statements_flow ts End s = Goes s
  statements_flow ts (Then first rest) s = after (statement_flow ts first s) (λ t. statements_flow ts rest t)

-- ---- calls

abbrev pub bound : List (List ℕ) → List Datum → Variables
bound (p ∷ ps) (v ∷ vs) = (p, v) ∷ bound ps vs
bound _ _ = []

abbrev pub is_key : RowKey → RowKey → Bool
is_key a b = is_eq (key_cmp a b)

-- the keys that are read before they are read or written, in the order of first need; seen are those before
abbrev pub needs_after : List RowKey → List Access → List RowKey
needs_after seen [] = []
needs_after seen (Reads k ∷ xs) = if list_any (is_key k) seen then needs_after seen xs else k ∷ needs_after (k ∷ seen) xs
needs_after seen (Writes k v ∷ xs) = needs_after (k ∷ seen) xs

-- the keys that are written, ascending, each with its last value
abbrev pub put_write : RowKey → Datum → List Write → List Write
put_write k v [] = record { key = k; value = v } ∷ []
put_write k v (w ∷ ws) = match_ordering (key_cmp k w.key) (record { key = k; value = v } ∷ w ∷ ws) (record { key = k; value = v } ∷ ws) (w ∷ put_write k v ws)

abbrev pub writes_after : List Write → List Access → List Write
writes_after ws [] = ws
writes_after ws (Reads k ∷ xs) = writes_after ws xs
writes_after ws (Writes k v ∷ xs) = writes_after (put_write k v ws) xs

pub record Run : Type 0 where
  pub reply : Reply
  pub rows : Rows
  pub needs : List RowKey
  pub writes : List Write

-- a refusal leaves the map as it was. (A procedure that was accepted always ends; where a tree doesn't, it answers none.)
abbrev pub run_of : Rows → Flow → Run
run_of m (Goes s) = record { reply = Answers None; rows = s.rows; needs = needs_after [] s.accesses; writes = writes_after [] s.accesses }
run_of m (Ends s v) = record { reply = Answers v; rows = s.rows; needs = needs_after [] s.accesses; writes = writes_after [] s.accesses }
run_of m (Refuses s c) = record { reply = Refused c; rows = m; needs = needs_after [] s.accesses; writes = [] }

abbrev pub procedure_at : List Procedure → ℕ → Option Procedure
procedure_at [] n = None
procedure_at (p ∷ ps) zero = Some p
procedure_at (p ∷ ps) (suc n) = procedure_at ps n

abbrev pub opened : Rows → Procedure → List Datum → State
opened m p args = record { variables = bound p.params args; rows = m; accesses = [] }

-- a call of a procedure that isn't there answers none
abbrev pub flow_of : Procedures → Rows → Option Procedure → List Datum → Flow
flow_of ps m None args = Ends (record { variables = []; rows = m; accesses = [] }) None
flow_of ps m (Some p) args = statements_flow ps.tables p.body (opened m p args)

unfoldable pub run : Procedures → Call → Rows → Run
run ps call m = run_of m (flow_of ps m (procedure_at ps.procs call.proc_no) call.args)
