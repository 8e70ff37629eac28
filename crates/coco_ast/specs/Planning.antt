-- Slots as they are given out, and what the parts of a plan have of a procedure's parts, whatever names and terms come later.
use Rattle.std.specs.Prelude.{◌≡◌, ℕ, true, if◌then◌else◌, List, [], ◌++◌, Option, None, Some}
use Rattle.std.specs.BTreeMap.{BTreeMap, get}
use Rattle.std.specs.Cmp.Lexicographic.{slice_cmp}
use Rattle.std.specs.Ordering.{nat_cmp}
use Rattle.std.specs.List.{flat_map}
use Rattle.coco_ast.specs.Checks.{StandsTwice, and_within, in_order}
use Rattle.coco_ast.specs.Meaning.{place_of}
use Rattle.coco_ast.specs.Plans.{AreSlots, has_slot, has_slots, has_slots_in, expression_at, term_tree, trees_behind, place_in, statement_in, statements_in, names_at, with_names}
use Rattle.coco_ast.specs.Tree.{Expression, RowPlace, Statement, Statements}
use Rattle.coco_ast.specs.declared.plan.Term.{Term}
use Rattle.coco_ast.specs.declared.plan.Spot.{Spot}
use Rattle.coco_ast.specs.declared.plan.PlanStep.{PlanStep}

-- ---- slots

abbrev pub slot_for : List (List ℕ) → List ℕ → Option ℕ
slot_for names x = if has_slot names x then Some (place_of names x) else None

-- the map has the slot of each name, and of nothing else
pub record AreIndexed (names : List (List ℕ)) (numbers : BTreeMap (List ℕ) ℕ) : Type 0 where
  pub slots : AreSlots names
  pub numbered : (x : List ℕ) → get (slice_cmp nat_cmp) numbers x ≡ slot_for names x

-- no name is given twice
abbrev pub HasOwnNames : List (List ℕ) → Type 0
HasOwnNames names = (i : ℕ) → StandsTwice names i → ⊥

-- ---- parts of plans

-- the names of a statement and of those within it, in the order of the text
abbrev pub names_in : Statement → List (List ℕ)
names_in s = flat_map names_at (and_within 1 s)

abbrev pub names_throughout : Statements → List (List ℕ)
names_throughout body = flat_map names_at (in_order 1 body)

-- further names came behind
pub record IsLonger (names later : List (List ℕ)) : Type 0 where
  pub more : List (List ℕ)
  pub is : later ≡ names ++ more

-- further terms came behind
pub record AreMore (terms all : List Term) : Type 0 where
  pub more : List Term
  pub is : all ≡ terms ++ more

-- what a part of a procedure adds: its names, in the order of the text, each new one behind the others, and terms behind those before
pub record Adds (names later : List (List ℕ)) (terms all : List Term) (part : List (List ℕ)) : Type 0 where
  pub named : later ≡ with_names names part
  pub more : AreMore terms all

-- the expression whose term comes next
abbrev pub ReadsAs : List (List ℕ) → List Term → Term → Expression → Type 0
ReadsAs names terms term e = (later : List (List ℕ)) → IsLonger names later → term_tree later (trees_behind later [] terms) term ≡ e

abbrev pub StandsFor : List (List ℕ) → List Term → ℕ → Expression → Type 0
StandsFor names terms place e = (later : List (List ℕ)) (all : List Term) → IsLonger names later → AreMore terms all → expression_at later all place ≡ e

abbrev pub StandsForPlace : List (List ℕ) → List Term → Spot → RowPlace → Type 0
StandsForPlace names terms spot p = (later : List (List ℕ)) (all : List Term) → IsLonger names later → AreMore terms all → place_in later all spot ≡ p

-- the step is that of the statement, and what it sets has a slot
pub record IsStepOf (names : List (List ℕ)) (terms : List Term) (s : Statement) (step : PlanStep) : Type 0 where
  pub stands : (later : List (List ℕ)) (all : List Term) → IsLonger names later → AreMore terms all → statement_in later all step ≡ s
  pub has_all : (later : List (List ℕ)) → IsLonger names later → has_slots_in later s ≡ true

pub record AreStepsOf (names : List (List ℕ)) (terms : List Term) (body : Statements) (steps : List PlanStep) : Type 0 where
  pub stand : (later : List (List ℕ)) (all : List Term) → IsLonger names later → AreMore terms all → statements_in later all steps ≡ body
  pub has_all : (later : List (List ℕ)) → IsLonger names later → has_slots later body ≡ true
