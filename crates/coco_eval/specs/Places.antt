-- How a run goes on on a map, by what it keeps, from the start of its statements and from a place within them.
use Rattle.std.specs.Prelude.{ℕ, zero, suc, ◌+◌, ◌-◌, ◌*◌, nat_le, max, Bool, true, false, ◌&&◌, if◌then◌else◌, List, [], ◌∷◌, ◌++◌, length, Option, Some, None, Ok, Err, pos, slice_get}
use Rattle.coco_types.specs.Limits.{most_bound}
use Rattle.coco_types.specs.RowKey.{RowKey}
use Rattle.coco_types.specs.declared.value.Value.TheVariants.{Int}
use Rattle.coco_types.specs.declared.call.Cause.TheVariants.{User}
use Rattle.coco_types.specs.declared.call.Write.{Write}
use Rattle.coco_types.specs.declared.call.Reply.{Reply}
use Rattle.coco_types.specs.declared.call.Reply.TheVariants.{Ok as Answers, Refused}
use Rattle.coco_ast.specs.Tree.{Expression, RowPlace, Statement, Let, Get, Put, Delete, If, IfElse, Repeat, Refuse, Reply as Replies, Statements, End, Then}
use Rattle.coco_ast.specs.Keyed.{Rows, value_at}
use Rattle.coco_ast.specs.Checks.{key_weight}
use Rattle.coco_ast.specs.Meaning.{Datum, Computed, Variables, and_then, number_of, is_true, value_of, key_of, is_key, put_write}
use Rattle.coco_eval.specs.Slots.{set_at}
use Rattle.coco_eval.specs.declared.machine.Frame.{Frame}
use Rattle.coco_eval.specs.declared.machine.Given.{Given}
use Rattle.coco_eval.specs.declared.machine.Way.{Way}
use Rattle.coco_eval.specs.declared.machine.Way.TheVariants as way

-- ---- what is kept

pub record Kept : Type 0 where
  pub variables : Variables
  pub given : List Given
  pub writes : List Write

abbrev pub written_at : List Write → RowKey → Option Datum
written_at [] k = None
written_at (w ∷ ws) k = if is_key k w.key then Some w.value else written_at ws k

abbrev pub given_at : List Given → RowKey → Option Datum
given_at [] k = None
given_at (g ∷ gs) k = if is_key k g.key then Some g.value else given_at gs k

abbrev pub or_else : Option Datum → Option Datum → Option Datum
or_else (Some d) o = Some d
or_else None o = o

-- what was written under a key last, or else given for it
abbrev pub known_at : Kept → RowKey → Option Datum
known_at c k = or_else (written_at c.writes k) (given_at c.given k)

abbrev pub with_variable : Kept → List ℕ → Datum → Kept
with_variable c x d = record c { variables = set_at c.variables x d }

abbrev pub with_given : Kept → RowKey → Datum → Kept
with_given c k d = record c { given = c.given ++ record { key = k; value = d } ∷ [] }

abbrev pub with_write : Kept → RowKey → Datum → Kept
with_write c k d = record c { writes = put_write k d c.writes }

abbrev pub value_of_given : Option Given → Datum
value_of_given None = None
value_of_given (Some g) = g.value

-- the value that was given last
abbrev pub newest : List Given → Datum
newest gs = value_of_given (slice_get gs (length gs - 1))

-- ---- from the start

-- what statements lead to: the statement behind them, or the end
pub data Onward : Type 0 where
  Goes : Kept → Onward
  Ends : Kept → Reply → Onward

abbrev pub behind : Onward → (Kept → Onward) → Onward
behind (Goes c) f = f c
behind (Ends c r) f = Ends c r

abbrev pub with : {A : Type 0} → Kept → Computed A → (A → Onward) → Onward
with c (Ok a) f = f a
with c (Err e) f = Ends c (Refused e)

abbrev pub read : Rows → Kept → List ℕ → RowKey → Option Datum → Onward
read m c x k (Some d) = Goes (with_variable c x d)
read m c x k None = Goes (with_variable (with_given c k (value_at m k)) x (value_at m k))

-- whether the first block of an `if` is taken, where it wasn't settled before
abbrev pub chosen : Way → Kept → Expression → Computed Bool
chosen way.Then c e = Ok true
chosen way.Else c e = Ok false
chosen _ c e = and_then (and_then (value_of c.variables e) number_of) (λ z. Ok (is_true z))

abbrev pub turns : (Kept → Onward) → List ℕ → ℕ → ℕ → Kept → Onward
turns body x zero i c = Goes c
turns body x (suc n) i c = behind (body (with_variable c x (Some (Int (pos i))))) (λ d. turns body x n (i + 1) d)

abbrev mutual
  pub runs_one : Rows → List (List ℕ) → Statement → Kept → Onward
  runs_one m ts (Let x e) c = with c (value_of c.variables e) (λ d. Goes (with_variable c x d))
  runs_one m ts (Get x p) c = with c (key_of ts c.variables p) (λ k. read m c x k (known_at c k))
  runs_one m ts (Put p e) c = with c (key_of ts c.variables p) (λ k. with c (value_of c.variables e) (λ d. Goes (with_write c k d)))
  runs_one m ts (Delete p) c = with c (key_of ts c.variables p) (λ k. Goes (with_write c k None))
  runs_one m ts (If e then_part) c = with c (chosen way.Fresh c e) (λ b. if b then runs m ts then_part c else Goes c)
  runs_one m ts (IfElse e then_part else_part) c = with c (chosen way.Fresh c e) (λ b. if b then runs m ts then_part c else runs m ts else_part c)
  runs_one m ts (Repeat n x body) c = turns (λ d. runs m ts body d) x n 0 c
  runs_one m ts (Refuse n) c = Ends c (Refused (User n))
  runs_one m ts (Replies e) c = with c (value_of c.variables e) (λ d. Ends c (Answers d))

  pub runs : Rows → List (List ℕ) → Statements → Kept → Onward
  runs m ts End c = Goes c
  runs m ts (Then first rest) c = behind (runs_one m ts first c) (λ d. runs m ts rest d)

-- ---- from a place within

abbrev pub from : ℕ → Statements → Statements
from zero b = b
from (suc n) End = End
from (suc n) (Then first rest) = from n rest

-- a `get` whose value was given sets its variable
abbrev pub goes_on_get : Rows → List (List ℕ) → Way → List ℕ → RowPlace → Kept → Onward
goes_on_get m ts way.Given x p c = Goes (with_variable c x (newest c.given))
goes_on_get m ts _ x p c = runs_one m ts (Get x p) c

abbrev pub goes_on_repeat : Way → (Statements → Kept → Onward) → (Statements → Kept → Onward) → ℕ → List ℕ → Statements → Kept → Onward
goes_on_repeat (way.Turn i) inner fresh n x body c = behind (inner body c) (λ d. turns (fresh body) x (n - suc i) (i + 1) d)
goes_on_repeat _ inner fresh n x body c = turns (fresh body) x n 0 c

-- on from within a statement, where the blocks within go on by `inner`
abbrev pub goes_on_one : Rows → List (List ℕ) → Way → (Statements → Kept → Onward) → Statement → Kept → Onward
goes_on_one m ts w inner (Let x e) c = runs_one m ts (Let x e) c
goes_on_one m ts w inner (Get x p) c = goes_on_get m ts w x p c
goes_on_one m ts w inner (Put p e) c = runs_one m ts (Put p e) c
goes_on_one m ts w inner (Delete p) c = runs_one m ts (Delete p) c
goes_on_one m ts w inner (If e then_part) c = with c (chosen w c e) (λ b. if b then inner then_part c else Goes c)
goes_on_one m ts w inner (IfElse e then_part else_part) c = with c (chosen w c e) (λ b. if b then inner then_part c else inner else_part c)
goes_on_one m ts w inner (Repeat n x body) c = goes_on_repeat w inner (runs m ts) n x body c
goes_on_one m ts w inner (Refuse n) c = runs_one m ts (Refuse n) c
goes_on_one m ts w inner (Replies e) c = runs_one m ts (Replies e) c

abbrev pub goes_on_first : Rows → List (List ℕ) → Way → (Statements → Kept → Onward) → Statements → Kept → Onward
goes_on_first m ts w inner End c = Goes c
goes_on_first m ts w inner (Then first rest) c = behind (goes_on_one m ts w inner first c) (λ d. runs m ts rest d)

-- on from a place, which says for each open block where in it the run stands, the outermost first
abbrev pub goes_on : Rows → List (List ℕ) → List Frame → Statements → Kept → Onward
goes_on m ts [] b c = runs m ts b c
goes_on m ts (f ∷ fs) b c = goes_on_first m ts f.way (λ inner d. goes_on m ts fs inner d) (from f.at b) c

-- ---- what is ahead

-- how many keys may still be read or written from a place on
abbrev pub weight_repeat : Way → (Statements → ℕ) → ℕ → Statements → ℕ
weight_repeat (way.Turn i) inner n body = inner body + (n - suc i) * key_weight body
weight_repeat _ inner n body = n * key_weight body

abbrev pub weight_get : Way → ℕ
weight_get way.Given = 0
weight_get _ = 1

abbrev pub weight_if : Way → ℕ → ℕ → ℕ
weight_if way.Then a b = a
weight_if way.Else a b = b
weight_if _ a b = max a b

abbrev pub weight_one : Way → (Statements → ℕ) → Statement → ℕ
weight_one w inner (Let x e) = 0
weight_one w inner (Get x p) = weight_get w
weight_one w inner (Put p e) = 1
weight_one w inner (Delete p) = 1
weight_one w inner (If e then_part) = weight_if w (inner then_part) 0
weight_one w inner (IfElse e then_part else_part) = weight_if w (inner then_part) (inner else_part)
weight_one w inner (Repeat n x body) = weight_repeat w inner n body
weight_one w inner (Refuse n) = 0
weight_one w inner (Replies e) = 0

abbrev pub weight_first : Way → (Statements → ℕ) → Statements → ℕ
weight_first w inner End = 0
weight_first w inner (Then first rest) = weight_one w inner first + key_weight rest

abbrev pub weight_on : List Frame → Statements → ℕ
weight_on [] b = key_weight b
weight_on (f ∷ fs) b = weight_first f.way (λ inner. weight_on fs inner) (from f.at b)

-- no `repeat` has more turns than it may
abbrev mutual
  pub are_bounded_in : Statement → Bool
  are_bounded_in (Let x e) = true
  are_bounded_in (Get x p) = true
  are_bounded_in (Put p e) = true
  are_bounded_in (Delete p) = true
  are_bounded_in (If e then_part) = are_bounded then_part
  are_bounded_in (IfElse e then_part else_part) = are_bounded then_part && are_bounded else_part
  are_bounded_in (Repeat n x body) = nat_le n most_bound && are_bounded body
  are_bounded_in (Refuse n) = true
  are_bounded_in (Replies e) = true

  pub are_bounded : Statements → Bool
  are_bounded End = true
  are_bounded (Then first rest) = are_bounded_in first && are_bounded rest
