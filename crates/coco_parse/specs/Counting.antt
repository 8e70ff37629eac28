-- What the counter of limits knows of the words so far. Only contracts of private functions and proofs name it.
use Rattle.std.specs.Prelude.{◌≡◌, ℕ, ◌+◌, ◌^◌, ◌<◌, nat_lt, Bool, true, false, not, ◌&&◌, List, [], ◌∷◌, ◌++◌, length, Option, None, Some}
use Rattle.std.specs.List.{list_any}
use Rattle.coco_parse.specs.Limits.{is_proc, opens, closes_list, closes, begins_expression, since, count, operators, header_names, Passes}
use Rattle.coco_ast.specs.declared.tree.TwoOp.{TwoOp}
use Rattle.coco_parse.specs.declared.counter.Counter.{Counter}
use Rattle.coco_parse.specs.declared.counter.ExpressionCounter.{ExpressionCounter}
use Rattle.coco_parse.specs.declared.counter.ProcedureCounter.{ProcedureCounter}
use Rattle.coco_parse.specs.declared.error.ParseKind.{ParseKind}
use Rattle.coco_parse.specs.declared.limits.TheConstants.{MOST_CODE}
use Rattle.coco_parse.specs.declared.word.Word.{Word}
use Rattle.coco_parse.specs.declared.word.Word.TheVariants.{Refuse, Name, Number, Two}

abbrev pub is_refuse : Word → Bool
is_refuse Refuse = true
is_refuse _ = false

abbrev pub ends_in : (Word → Bool) → List Word → Bool
ends_in is [] = false
ends_in is (w ∷ []) = is w
ends_in is (w ∷ v ∷ ws) = ends_in is (v ∷ ws)

-- whether a procedure has begun, and no parenthesis has closed since
abbrev pub in_header : List Word → Bool
in_header ws = list_any is_proc ws && not (list_any closes_list (since is_proc ws))

-- what stands behind the last `proc`, if there is one
pub record CountsProcedure (c : ProcedureCounter) (ws : List Word) : Type 0 where
  pub begun : c.begun ≡ list_any is_proc ws
  pub in_header : c.in_header ≡ in_header ws
  pub opened : c.opened ≡ count opens (since is_proc ws)
  pub closed : c.closed ≡ count closes (since is_proc ws)
  pub names : c.names ≡ header_names ws

-- what stands behind the last word that begins an expression, if there is one
pub record CountsExpression (c : ExpressionCounter) (ws : List Word) : Type 0 where
  pub begun : c.begun ≡ list_any begins_expression ws
  pub operators : c.operators ≡ operators ws

pub record Counts (c : Counter) (ws : List Word) : Type 0 where
  pub procedure : CountsProcedure c.procedure ws
  pub expression : CountsExpression c.expression ws
  pub refuses : c.refuses ≡ ends_in is_refuse ws

-- the last of the words passes this limit; or it passes none, and then it is counted
abbrev pub Counted : Option ParseKind → (List Word → Type 0) → List Word → Type 0
Counted None Counts ws = Counts ws × ((k : ParseKind) → ¬ (Passes k ws))
Counted (Some k) Counts ws = Passes k ws

-- over any word of this class, while the counts fit
abbrev pub CountsOver : (Word → Bool) → (List Word → Type 0) → (List Word → Type 0) → Option ParseKind → Type 0
CountsOver is Old New o = (ws : List Word) (w : Word) → length ws + 1 < 2 ^ 64 → is w ≡ true → Old ws → Counted o New (ws ++ w ∷ [])

abbrev pub is_wide : Word → Bool
is_wide (Number n) = nat_lt MOST_CODE n
is_wide _ = false

abbrev pub name_in : Word → Option (List ℕ)
name_in (Name name) = Some name
name_in _ = None

abbrev pub number_in : Word → Option ℕ
number_in (Number n) = Some n
number_in _ = None

abbrev pub operator_in : Word → Option TwoOp
operator_in (Two op) = Some op
operator_in _ = None
