-- The trees that plans stand for, and what a plan has of its procedure.
use Rattle.std.specs.Prelude.{◌≡◌, ⊤, ℕ, suc, min, max, Bool, true, ◌&&◌, if◌then◌else◌, nat_lt, List, [], ◌∷◌, ◌++◌, map, length, take, Option, None, Some, slice_index_or}
use Rattle.std.specs.Borrow.{Bor}
use Rattle.std.specs.List.{flat_map}
use Rattle.coco_ast.specs.Checks.{Placed, own_variables, set_by, statements_in as statements_of}
use Rattle.coco_ast.specs.Meaning.{place_of}
use Rattle.coco_ast.specs.Tree.{Expression, Number, Quoted, None as Nothing, Variable, Not, Negate, Two, RowPlace, Statement, Let, Get, Put, Delete, If, IfElse, Repeat, Refuse, Reply, Statements, End, Then, Procedure}
use Rattle.coco_ast.specs.Views.{sign_of, statements_from}
use Rattle.coco_ast.specs.declared.plan.Term.{Term}
use Rattle.coco_ast.specs.declared.plan.Term.TheVariants as term
use Rattle.coco_ast.specs.declared.plan.Spot.{Spot}
use Rattle.coco_ast.specs.declared.plan.PlanStep.{PlanStep}
use Rattle.coco_ast.specs.declared.plan.PlanStep.TheOpen.{PlanStep-F}
use Rattle.coco_ast.specs.declared.plan.PlanStep.TheFolds.{fold-PlanStep}
use Rattle.coco_ast.specs.declared.plan.Plan.{Plan}

-- ---- trees

-- the name of a slot; beyond the last one it is no name
abbrev pub name_at : List (List ℕ) → ℕ → List ℕ
name_at names slot = slice_index_or names slot []

-- the tree of a part, of which there is none beyond the last one
abbrev pub part_at : List Expression → ℕ → Expression
part_at before place = slice_index_or before place Nothing

-- a term, where those before it are seen as their trees
abbrev pub term_tree : List (List ℕ) → List Expression → Term → Expression
term_tree names before (term.Number n) = Number n
term_tree names before (term.Text text) = Quoted text
term_tree names before term.None = Nothing
term_tree names before (term.Variable slot) = Variable (name_at names slot)
term_tree names before (term.Not e) = Not (part_at before e)
term_tree names before (term.Negate e) = Negate (part_at before e)
term_tree names before (term.Two op left right) = Two (sign_of op) (part_at before left) (part_at before right)

-- the trees of terms, each behind its parts; before are those of the terms before them
abbrev pub trees_behind : List (List ℕ) → List Expression → List Term → List Expression
trees_behind names before [] = before
trees_behind names before (t ∷ ts) = trees_behind names (before ++ term_tree names before t ∷ []) ts

abbrev pub expression_at : List (List ℕ) → List Term → ℕ → Expression
expression_at names terms place = part_at (trees_behind names [] terms) place

abbrev pub place_in : List (List ℕ) → List Term → Spot → RowPlace
place_in names terms s = record { table = s.table; row = expression_at names terms s.row }

-- one level, with each statement inside already seen as its tree
abbrev pub step_tree : List (List ℕ) → List Term → PlanStep-F Statement → Statement
step_tree names terms (PlanStep-F.Let slot value) = Let (name_at names slot) (expression_at names terms value)
step_tree names terms (PlanStep-F.Get slot spot) = Get (name_at names slot) (place_in names terms spot)
step_tree names terms (PlanStep-F.Put spot value) = Put (place_in names terms spot) (expression_at names terms value)
step_tree names terms (PlanStep-F.Delete spot) = Delete (place_in names terms spot)
step_tree names terms (PlanStep-F.If test then_part None) = If (expression_at names terms test) (statements_from then_part.items)
step_tree names terms (PlanStep-F.If test then_part (Some else_part)) = IfElse (expression_at names terms test) (statements_from then_part.items) (statements_from else_part.items)
step_tree names terms (PlanStep-F.Repeat bound slot block) = Repeat bound (name_at names slot) (statements_from block.items)
step_tree names terms (PlanStep-F.Refuse n) = Refuse n
step_tree names terms (PlanStep-F.Reply value) = Reply (expression_at names terms value)

abbrev pub statement_in : List (List ℕ) → List Term → PlanStep → Statement
statement_in names terms = fold-PlanStep Statement (step_tree names terms)

abbrev pub statements_in : List (List ℕ) → List Term → List PlanStep → Statements
statements_in names terms steps = statements_from (map (statement_in names terms) steps)

-- ---- what a plan has

-- each name stands at its own slot alone, and none is empty
abbrev pub AreSlots : List (List ℕ) → Type 0
AreSlots names = (slot : ℕ) → place_of names (name_at names slot) ≡ min slot (length names)

abbrev pub has_slot : List (List ℕ) → List ℕ → Bool
has_slot names x = nat_lt (place_of names x) (length names)

-- each variable that the statements set has a slot
abbrev mutual
  pub has_slots_in : List (List ℕ) → Statement → Bool
  has_slots_in names (Let x e) = has_slot names x
  has_slots_in names (Get x p) = has_slot names x
  has_slots_in names (Put p e) = true
  has_slots_in names (Delete p) = true
  has_slots_in names (If e then_part) = has_slots names then_part
  has_slots_in names (IfElse e then_part else_part) = has_slots names then_part && has_slots names else_part
  has_slots_in names (Repeat n x body) = has_slot names x && has_slots names body
  has_slots_in names (Refuse n) = true
  has_slots_in names (Reply e) = true

  pub has_slots : List (List ℕ) → Statements → Bool
  has_slots names End = true
  has_slots names (Then first rest) = has_slots_in names first && has_slots names rest

-- how deep blocks stand in one another
abbrev mutual
  pub depth_one : Statement → ℕ
  depth_one (Let x e) = 0
  depth_one (Get x p) = 0
  depth_one (Put p e) = 0
  depth_one (Delete p) = 0
  depth_one (If e then_part) = depth then_part
  depth_one (IfElse e then_part else_part) = max (depth then_part) (depth else_part)
  depth_one (Repeat n x body) = depth body
  depth_one (Refuse n) = 0
  depth_one (Reply e) = 0

  pub depth : Statements → ℕ
  depth End = 0
  depth (Then first rest) = max (suc (depth_one first)) (depth rest)

-- the names with one more, behind the others where it isn't there yet
abbrev pub with_name : List (List ℕ) → List ℕ → List (List ℕ)
with_name names x = if has_slot names x then names else names ++ x ∷ []

abbrev pub with_names : List (List ℕ) → List (List ℕ) → List (List ℕ)
with_names names [] = names
with_names names (x ∷ xs) = with_names (with_name names x) xs

-- the variables of a statement's own expressions, and that which it sets
abbrev pub names_at : Placed → List (List ℕ)
names_at s = own_variables s.statement ++ set_by s.statement

-- the names of a procedure's slots: its parameters, and then its variables in the order of the text
abbrev pub names_of : Procedure → List (List ℕ)
names_of p = with_names [] (p.params ++ flat_map names_at (statements_of p))

-- the plan is one of this procedure
pub record IsPlanOf (p : Procedure) (plan : Plan) : Type 0 where
  pub names : plan.names ≡ names_of p
  pub body : statements_in plan.names plan.terms.items plan.steps.items ≡ p.body
  pub params : take (length p.params) plan.names ≡ p.params
  pub slots : AreSlots plan.names
  pub has_all : has_slots plan.names p.body ≡ true
  pub deep : plan.depth ≡ depth p.body

-- each procedure has its plan
abbrev pub ArePlansOf : List Procedure → List Plan → Type 0
ArePlansOf [] [] = ⊤
ArePlansOf (p ∷ ps) (plan ∷ plans) = IsPlanOf p plan × ArePlansOf ps plans
ArePlansOf _ _ = ⊥

-- the plan that was found is that of the procedure, if there is one
abbrev pub IsPlanFor : Option Procedure → Option (Bor Plan) → Type 0
IsPlanFor None None = ⊤
IsPlanFor (Some p) (Some plan) = IsPlanOf p plan.now
IsPlanFor _ _ = ⊥
