-- The trees of plans as they are made.
use Rattle.std.proofs.Common.{◌≡◌, ℕ, ◌+◌, ◌*◌, ◌<◌, Bool, true, false, ◌&&◌, List, [], ◌∷◌, ◌++◌, map, length, get_or, take, Option, None, Some, Global, refl, sym, ap, ◌∙◌, subst}
use Rattle.std.specs.declared.vec.Vec.{Vec}
use Rattle.std.specs.Global.{Box}
use Rattle.std.specs.List.{flat_map}
use Rattle.std.proofs.lemmas.Bool.{and_parts}
use Rattle.std.proofs.lemmas.List.{append-nil, append_assoc, map-append, take_more}
use Rattle.std.proofs.Math.Seq.{take-append_seam}
use Rattle.coco_ast.specs.Checks.{Placed, and_within, in_order, variables_of}
use Rattle.coco_ast.specs.Meaning.{place_of as slot_of}
use Rattle.coco_ast.specs.Planning.{Adds, names_in, names_throughout, IsLonger, AreMore, ReadsAs, StandsFor, StandsForPlace, IsStepOf, AreStepsOf}
use Rattle.coco_ast.specs.Plans.{AreSlots, ArePlansOf, IsPlanOf, depth, name_at, expression_at, place_in, statement_in, step_tree, statements_in, has_slots, has_slots_in, with_name, names_at, names_of}
use Rattle.coco_ast.specs.Tree as tree
use Rattle.coco_ast.specs.Tree.{Expression, RowPlace, Statement, Statements, Procedure}
use Rattle.coco_ast.specs.Views.{sign_of, expression_of, expression_step, place_of, procedure_of, statement_of, statements_of, statements_from}
use Rattle.coco_ast.specs.declared.tree.TwoOp.{TwoOp}
use Rattle.coco_ast.specs.declared.tree.Expr.{Expr}
use Rattle.coco_ast.specs.declared.tree.Expr.TheOpen.{Expr-F}
use Rattle.coco_ast.specs.declared.tree.Expr.TheFolds.{fold-roll-Expr}
use Rattle.coco_ast.specs.declared.tree.Expr.TheVariants as expr
use Rattle.coco_ast.specs.declared.tree.Place.{Place}
use Rattle.coco_ast.specs.declared.tree.Proc.{Proc}
use Rattle.coco_ast.specs.declared.tree.Stmt.{Stmt}
use Rattle.coco_ast.specs.declared.tree.Stmt.TheVariants as stmt
use Rattle.coco_ast.specs.declared.plan.Term.{Term}
use Rattle.coco_ast.specs.declared.plan.Term.TheVariants as term
use Rattle.coco_ast.specs.declared.plan.Plan.{Plan}
use Rattle.coco_ast.specs.declared.plan.Spot.{Spot}
use Rattle.coco_ast.specs.declared.plan.PlanStep.{PlanStep}
use Rattle.coco_ast.specs.declared.plan.PlanStep.TheOpen.{PlanStep-F}
use Rattle.coco_ast.specs.declared.plan.PlanStep.TheFolds.{fold-roll-PlanStep}
use Rattle.coco_ast.specs.declared.plan.PlanStep.TheVariants as step
use Rattle.coco_ast.proofs.Trees.{statement-if, statement-if_else, statement-repeat, statements-push}
use Rattle.coco_ast.proofs.SlotLemmas.{longer_on, with_names-on, with_names-longer, slot_stands, slot_has}
use Rattle.coco_ast.proofs.TermLemmas.{more_none, more_on}

-- ---- what parts add

-- a part, and what comes behind it
module _ {a b : List (List ℕ)} {ts us : List Term} {xs : List (List ℕ)} (one : Adds a b ts us xs) where
  pub adds_longer : IsLonger a b
  adds_longer = subst (IsLonger a) (sym one.named) (with_names-longer a xs)

  longer_still : (later : List (List ℕ)) → IsLonger b later → IsLonger a later
  longer_still later longer = longer_on a b later adds_longer longer

  more_still : (all : List Term) → AreMore us all → AreMore ts all
  more_still all more = more_on ts us all one.more more

  pub adds_on : {c : List (List ℕ)} {vs : List Term} {ys : List (List ℕ)} → Adds b c us vs ys → Adds a c ts vs (xs ++ ys)
  adds_on {c} {vs} {ys} other = record { named = with_names-on a b c xs ys one.named other.named; more = more_on ts us vs one.more other.more }

  -- where no names come behind
  pub adds_alone : Adds a b ts us (xs ++ [])
  adds_alone = adds_on (record { named = refl; more = more_none us })

pub adds_slot : {a b : List (List ℕ)} {ts : List Term} (x : List ℕ) → b ≡ with_name a x → Adds a b ts ts (x ∷ [])
adds_slot {a} {b} {ts} x is = record { named = is; more = more_none ts }

-- ---- terms

expression-var : (x : List ℕ) → expression_of (expr.Var x) ≡ tree.Variable x
expression-var x = ap expression_of (sym (expr.rolls-Var x)) ∙ fold-roll-Expr Expression expression_step (Expr-F.Var x)

expression-not : (e : Box Expr) → expression_of (expr.Not e) ≡ tree.Not (expression_of e.value)
expression-not e = ap expression_of (sym (expr.rolls-Not e)) ∙ fold-roll-Expr Expression expression_step (Expr-F.Not e)

expression-negate : (e : Box Expr) → expression_of (expr.Negate e) ≡ tree.Negate (expression_of e.value)
expression-negate e = ap expression_of (sym (expr.rolls-Negate e)) ∙ fold-roll-Expr Expression expression_step (Expr-F.Negate e)

expression-two : (op : TwoOp) (a b : Box Expr) → expression_of (expr.Two op a b) ≡ tree.Two (sign_of op) (expression_of a.value) (expression_of b.value)
expression-two op a b = ap expression_of (sym (expr.rolls-Two op a b)) ∙ fold-roll-Expr Expression expression_step (Expr-F.Two op a b)

pub reads-variable : (ns new : List (List ℕ)) (ts : List Term) (x : List ℕ) (slot : ℕ) (whole : Expr) → whole ≡ expr.Var x → new ≡ with_name ns x → slot ≡ slot_of ns x → ReadsAs new ts (term.Variable slot) (expression_of whole)
reads-variable ns new ts x slot whole of is at later longer =
    ap tree.Variable (ap (name_at later) at ∙ slot_stands ns later x (subst (λ (l : List (List ℕ)). IsLonger l later) is longer)) ∙ sym (ap expression_of of ∙ expression-var x)

pub reads-not : (ns : List (List ℕ)) (ts : List Term) (a : ℕ) (e : Box Expr) (whole : Expr) → whole ≡ expr.Not e → StandsFor ns ts a (expression_of e.value) → ReadsAs ns ts (term.Not a) (expression_of whole)
reads-not ns ts a e whole of stands later longer = ap tree.Not (stands later ts longer (more_none ts)) ∙ sym (ap expression_of of ∙ expression-not e)

pub reads-negate : (ns : List (List ℕ)) (ts : List Term) (a : ℕ) (e : Box Expr) (whole : Expr) → whole ≡ expr.Negate e → StandsFor ns ts a (expression_of e.value) → ReadsAs ns ts (term.Negate a) (expression_of whole)
reads-negate ns ts a e whole of stands later longer = ap tree.Negate (stands later ts longer (more_none ts)) ∙ sym (ap expression_of of ∙ expression-negate e)

pub reads-two : (ns new : List (List ℕ)) (ts us : List Term) {xs : List (List ℕ)} (op : TwoOp) (a b : ℕ) (d e : Box Expr) (whole : Expr) → whole ≡ expr.Two op d e → Adds ns new ts us xs
    → StandsFor ns ts a (expression_of d.value) → StandsFor new us b (expression_of e.value) → ReadsAs new us (term.Two op a b) (expression_of whole)
reads-two ns new ts us op a b d e whole of adds one other later longer =
    ap (λ (l : Expression). tree.Two (sign_of op) l (expression_at later us b)) (one later us (longer_still adds later longer) adds.more)
    ∙ ap (tree.Two (sign_of op) (expression_of d.value)) (other later us longer (more_none us)) ∙ sym (ap expression_of of ∙ expression-two op d e)

-- ---- statements

module _ (ns : List (List ℕ)) (ts : List Term) where
  step-let : (slot a : ℕ) → statement_in ns ts (step.Let slot a) ≡ tree.Let (name_at ns slot) (expression_at ns ts a)
  step-let slot a = ap (statement_in ns ts) (sym (step.rolls-Let slot a)) ∙ fold-roll-PlanStep Statement (step_tree ns ts) (PlanStep-F.Let slot a)

  step-get : (slot : ℕ) (p : Spot) → statement_in ns ts (step.Get slot p) ≡ tree.Get (name_at ns slot) (place_in ns ts p)
  step-get slot p = ap (statement_in ns ts) (sym (step.rolls-Get slot p)) ∙ fold-roll-PlanStep Statement (step_tree ns ts) (PlanStep-F.Get slot p)

  step-put : (p : Spot) (a : ℕ) → statement_in ns ts (step.Put p a) ≡ tree.Put (place_in ns ts p) (expression_at ns ts a)
  step-put p a = ap (statement_in ns ts) (sym (step.rolls-Put p a)) ∙ fold-roll-PlanStep Statement (step_tree ns ts) (PlanStep-F.Put p a)

  step-delete : (p : Spot) → statement_in ns ts (step.Delete p) ≡ tree.Delete (place_in ns ts p)
  step-delete p = ap (statement_in ns ts) (sym (step.rolls-Delete p)) ∙ fold-roll-PlanStep Statement (step_tree ns ts) (PlanStep-F.Delete p)

  step-if : (test : ℕ) (then_part : Vec PlanStep Global) → statement_in ns ts (step.If test then_part None) ≡ tree.If (expression_at ns ts test) (statements_in ns ts then_part.items)
  step-if test then_part = ap (statement_in ns ts) (sym (step.rolls-If test then_part None)) ∙ fold-roll-PlanStep Statement (step_tree ns ts) (PlanStep-F.If test then_part None)

  step-if_else : (test : ℕ) (then_part else_part : Vec PlanStep Global)
      → statement_in ns ts (step.If test then_part (Some else_part)) ≡ tree.IfElse (expression_at ns ts test) (statements_in ns ts then_part.items) (statements_in ns ts else_part.items)
  step-if_else test then_part else_part = ap (statement_in ns ts) (sym (step.rolls-If test then_part (Some else_part))) ∙ fold-roll-PlanStep Statement (step_tree ns ts) (PlanStep-F.If test then_part (Some else_part))

  step-repeat : (n slot : ℕ) (block : Vec PlanStep Global) → statement_in ns ts (step.Repeat n slot block) ≡ tree.Repeat n (name_at ns slot) (statements_in ns ts block.items)
  step-repeat n slot block = ap (statement_in ns ts) (sym (step.rolls-Repeat n slot block)) ∙ fold-roll-PlanStep Statement (step_tree ns ts) (PlanStep-F.Repeat n slot block)

  step-reply : (a : ℕ) → statement_in ns ts (step.Reply a) ≡ tree.Reply (expression_at ns ts a)
  step-reply a = ap (statement_in ns ts) (sym (step.rolls-Reply a)) ∙ fold-roll-PlanStep Statement (step_tree ns ts) (PlanStep-F.Reply a)

both : (a b : Bool) → a ≡ true → b ≡ true → a && b ≡ true
both true b h k = k
both false b h k = let e : false ≡ true = h in cc

abbrev located : List ℕ → Expression → RowPlace
located table row = record { table = table; row = row }

pub place_stands : (ns : List (List ℕ)) (ts : List Term) (table : List ℕ) (a : ℕ) (p : Place) → StandsFor ns ts a (expression_of p.row) → table ≡ p.table → StandsForPlace ns ts (record { table = table; row = a }) (place_of p)
place_stands ns ts table a p row same later all longer more = ap (λ (t : List ℕ). located t (expression_at later all a)) same ∙ ap (located p.table) (row later all longer more)

pub let_step : (ns new : List (List ℕ)) (ts : List Term) (x : List ℕ) (slot a : ℕ) (e : Expression) → new ≡ with_name ns x → slot ≡ slot_of ns x → StandsFor ns ts a e → IsStepOf new ts (tree.Let x e) (step.Let slot a)
let_step ns new ts x slot a e is at stands = record {
  stands = λ later all longer more.
      step-let later all slot a ∙ ap (λ (y : List ℕ). tree.Let y (expression_at later all a)) (ap (name_at later) at ∙ slot_stands ns later x (subst (λ (l : List (List ℕ)). IsLonger l later) is longer))
      ∙ ap (tree.Let x) (stands later all (longer_still (adds_slot {ts = ts} x is) later longer) more);
  has_all = λ later longer. slot_has ns later x (subst (λ (l : List (List ℕ)). IsLonger l later) is longer);
}

pub get_step : (ns new : List (List ℕ)) (ts : List Term) (x : List ℕ) (slot : ℕ) (a : Spot) (p : RowPlace) → new ≡ with_name ns x → slot ≡ slot_of ns x → StandsForPlace ns ts a p → IsStepOf new ts (tree.Get x p) (step.Get slot a)
get_step ns new ts x slot a p is at stands = record {
  stands = λ later all longer more.
      step-get later all slot a ∙ ap (λ (y : List ℕ). tree.Get y (place_in later all a)) (ap (name_at later) at ∙ slot_stands ns later x (subst (λ (l : List (List ℕ)). IsLonger l later) is longer))
      ∙ ap (tree.Get x) (stands later all (longer_still (adds_slot {ts = ts} x is) later longer) more);
  has_all = λ later longer. slot_has ns later x (subst (λ (l : List (List ℕ)). IsLonger l later) is longer);
}

pub put_step : (ns new : List (List ℕ)) (ts us : List Term) {xs : List (List ℕ)} (a : Spot) (p : RowPlace) (b : ℕ) (e : Expression) → Adds ns new ts us xs → StandsForPlace ns ts a p → StandsFor new us b e → IsStepOf new us (tree.Put p e) (step.Put a b)
put_step ns new ts us a p b e adds one other = record {
  stands = λ later all longer more.
      step-put later all a b ∙ ap (λ (q : RowPlace). tree.Put q (expression_at later all b)) (one later all (longer_still adds later longer) (more_still adds all more))
      ∙ ap (tree.Put p) (other later all longer more);
  has_all = λ later longer. refl;
}

pub delete_step : (ns : List (List ℕ)) (ts : List Term) (a : Spot) (p : RowPlace) → StandsForPlace ns ts a p → IsStepOf ns ts (tree.Delete p) (step.Delete a)
delete_step ns ts a p stands = record {
  stands = λ later all longer more. step-delete later all a ∙ ap tree.Delete (stands later all longer more);
  has_all = λ later longer. refl;
}

pub reply_step : (ns : List (List ℕ)) (ts : List Term) (a : ℕ) (e : Expression) → StandsFor ns ts a e → IsStepOf ns ts (tree.Reply e) (step.Reply a)
reply_step ns ts a e stands = record {
  stands = λ later all longer more. step-reply later all a ∙ ap tree.Reply (stands later all longer more);
  has_all = λ later longer. refl;
}

if_is : (e : Expr) (body : Vec Stmt Global) (other : Option (Vec Stmt Global)) → other ≡ None → statement_of (stmt.If e body other) ≡ tree.If (expression_of e) (statements_of body.items)
if_is e body other none = ap (λ (o : Option (Vec Stmt Global)). statement_of (stmt.If e body o)) none ∙ statement-if e body

if_else_is : (e : Expr) (body behind : Vec Stmt Global) (other : Option (Vec Stmt Global)) → other ≡ Some behind
    → statement_of (stmt.If e body other) ≡ tree.IfElse (expression_of e) (statements_of body.items) (statements_of behind.items)
if_else_is e body behind other some = ap (λ (o : Option (Vec Stmt Global)). statement_of (stmt.If e body o)) some ∙ statement-if_else e body behind

pub if_step : (ns new : List (List ℕ)) (ts us : List Term) {xs : List (List ℕ)} (test : ℕ) (steps : Vec PlanStep Global) (e : Expr) (body : Vec Stmt Global) (other : Option (Vec Stmt Global)) → other ≡ None
    → Adds ns new ts us xs → StandsFor ns ts test (expression_of e) → AreStepsOf new us (statements_of body.items) steps.items → IsStepOf new us (statement_of (stmt.If e body other)) (step.If test steps None)
if_step ns new ts us test steps e body other none adds stands block =
    subst (λ (s : Statement). IsStepOf new us s (step.If test steps None)) (sym (if_is e body other none)) (record {
      stands = λ later all longer more.
          step-if later all test steps
          ∙ ap (λ (d : Expression). tree.If d (statements_in later all steps.items)) (stands later all (longer_still adds later longer) (more_still adds all more))
          ∙ ap (tree.If (expression_of e)) (block.stand later all longer more);
      has_all = block.has_all;
    })

pub if_else_step : (ns mid new : List (List ℕ)) (ts us vs : List Term) {xs ys : List (List ℕ)} (test : ℕ) (steps others : Vec PlanStep Global) (e : Expr) (body behind : Vec Stmt Global) (other : Option (Vec Stmt Global))
    → other ≡ Some behind → Adds ns mid ts us xs → Adds mid new us vs ys → StandsFor ns ts test (expression_of e)
    → AreStepsOf mid us (statements_of body.items) steps.items → AreStepsOf new vs (statements_of behind.items) others.items → IsStepOf new vs (statement_of (stmt.If e body other)) (step.If test steps (Some others))
if_else_step ns mid new ts us vs test steps others e body behind other some first second stands one two =
    subst (λ (s : Statement). IsStepOf new vs s (step.If test steps (Some others))) (sym (if_else_is e body behind other some)) (record {
      stands = λ later all longer more.
          step-if_else later all test steps others
          ∙ ap (λ (d : Expression). tree.IfElse d (statements_in later all steps.items) (statements_in later all others.items))
          (stands later all (longer_still (adds_on first second) later longer) (more_still (adds_on first second) all more))
          ∙ ap (λ (b : Statements). tree.IfElse (expression_of e) b (statements_in later all others.items)) (one.stand later all (longer_still second later longer) (more_still second all more))
          ∙ ap (tree.IfElse (expression_of e) (statements_of body.items)) (two.stand later all longer more);
      has_all = λ later longer. both _ _ (one.has_all later (longer_still second later longer)) (two.has_all later longer);
    })

pub repeat_step : (ns mid new : List (List ℕ)) (ts us : List Term) {xs : List (List ℕ)} (n slot : ℕ) (x : List ℕ) (steps : Vec PlanStep Global) (body : Vec Stmt Global) (whole : Stmt) → whole ≡ stmt.Repeat n x body
    → mid ≡ with_name ns x → slot ≡ slot_of ns x → Adds mid new ts us xs → AreStepsOf new us (statements_of body.items) steps.items → IsStepOf new us (statement_of whole) (step.Repeat n slot steps)
repeat_step ns mid new ts us n slot x steps body whole of is at adds block =
    let up : (later : List (List ℕ)) → IsLonger new later → IsLonger (with_name ns x) later = λ later longer. subst (λ (l : List (List ℕ)). IsLonger l later) is (longer_still adds later longer) in
    subst (λ (s : Statement). IsStepOf new us s (step.Repeat n slot steps)) (sym (ap statement_of of ∙ statement-repeat n x body)) (record {
      stands = λ later all longer more.
          step-repeat later all n slot steps ∙ ap (λ (y : List ℕ). tree.Repeat n y (statements_in later all steps.items)) (ap (name_at later) at ∙ slot_stands ns later x (up later longer))
          ∙ ap (tree.Repeat n x) (block.stand later all longer more);
      has_all = λ later longer. both _ _ (slot_has ns later x (up later longer)) (block.has_all later longer);
    })

-- ---- one statement more

has_slots-more : (ns : List (List ℕ)) (ss : List Statement) (s : Statement) → has_slots ns (statements_from ss) ≡ true → has_slots_in ns s ≡ true → has_slots ns (statements_from (ss ++ s ∷ [])) ≡ true
has_slots-more ns [] s all one = both _ _ one refl
has_slots-more ns (t ∷ ss) s all one = let parts = and_parts (has_slots_in ns t) (has_slots ns (statements_from ss)) all in both _ _ parts.0 (has_slots-more ns ss s parts.1 one)

-- the statements so far, by their list, which grows at its end
pub record AreStepsBelow (names : List (List ℕ)) (terms : List Term) (block : List Stmt) (steps : List PlanStep) : Type 0 where
  pub stand : (later : List (List ℕ)) (all : List Term) → IsLonger names later → AreMore terms all → map (statement_in later all) steps ≡ map statement_of block
  pub has_all : (later : List (List ℕ)) → IsLonger names later → has_slots later (statements_of block) ≡ true

pub steps_more : (ns new : List (List ℕ)) (ts us : List Term) {xs : List (List ℕ)} (block ss : List Stmt) (s : Stmt) (steps whole : List PlanStep) (a : PlanStep) → ss ≡ block ++ s ∷ [] → whole ≡ steps ++ a ∷ []
    → Adds ns new ts us xs → AreStepsBelow ns ts block steps → IsStepOf new us (statement_of s) a → AreStepsBelow new us ss whole
steps_more ns new ts us block ss s steps whole a front behind adds below one = record {
  stand = λ later all longer more.
      ap (map (statement_in later all)) behind ∙ map-append (statement_in later all) steps (a ∷ [])
      ∙ ap (λ (l : List Statement). l ++ statement_in later all a ∷ []) (below.stand later all (longer_still adds later longer) (more_still adds all more))
      ∙ ap (λ (t : Statement). map statement_of block ++ t ∷ []) (one.stands later all longer more) ∙ sym (statements-push ss block s front);
  has_all = λ later longer.
      subst (λ (l : List Statement). has_slots later (statements_from l) ≡ true) (sym (statements-push ss block s front))
      (has_slots-more later (map statement_of block) (statement_of s) (below.has_all later (longer_still adds later longer)) (one.has_all later longer));
}

pub steps_whole : (ns : List (List ℕ)) (ts : List Term) (block ss : List Stmt) (steps : List PlanStep) → ss ≡ block → AreStepsBelow ns ts ss steps → AreStepsOf ns ts (statements_of block) steps
steps_whole ns ts block ss steps is below = record {
  stand = λ later all longer more. ap statements_from (below.stand later all longer more) ∙ ap statements_of is;
  has_all = λ later longer. subst (λ (l : List Stmt). has_slots later (statements_of l) ≡ true) is (below.has_all later longer);
}

-- ---- the order of names

flat_map-append : (xs ys : List Placed) → flat_map names_at (xs ++ ys) ≡ flat_map names_at xs ++ flat_map names_at ys
flat_map-append [] ys = refl
flat_map-append (x ∷ xs) ys = ap (λ (l : List (List ℕ)). names_at x ++ l) (flat_map-append xs ys) ∙ sym (append_assoc (names_at x) (flat_map names_at xs) (flat_map names_at ys))

-- how often a statement is run doesn't matter
mutual
  same_within : (m n : ℕ) (s : Statement) → flat_map names_at (and_within m s) ≡ flat_map names_at (and_within n s)
  same_within m n (tree.Let x e) = refl
  same_within m n (tree.Get x p) = refl
  same_within m n (tree.Put p e) = refl
  same_within m n (tree.Delete p) = refl
  same_within m n (tree.If e b) = ap (λ (l : List (List ℕ)). names_at (record { statement = tree.If e b; around = n }) ++ l) (same_in_order m n b)
  same_within m n (tree.IfElse e b d) =
      ap (λ (l : List (List ℕ)). names_at (record { statement = tree.IfElse e b d; around = n }) ++ l)
      (flat_map-append (in_order m b) (in_order m d) ∙ ap (λ (l : List (List ℕ)). l ++ flat_map names_at (in_order m d)) (same_in_order m n b)
      ∙ ap (λ (l : List (List ℕ)). flat_map names_at (in_order n b) ++ l) (same_in_order m n d) ∙ sym (flat_map-append (in_order n b) (in_order n d)))
  same_within m n (tree.Repeat k x b) = ap (λ (l : List (List ℕ)). names_at (record { statement = tree.Repeat k x b; around = n }) ++ l) (same_in_order (m * k) (n * k) b)
  same_within m n (tree.Refuse k) = refl
  same_within m n (tree.Reply e) = refl

  same_in_order : (m n : ℕ) (b : Statements) → flat_map names_at (in_order m b) ≡ flat_map names_at (in_order n b)
  same_in_order m n tree.End = refl
  same_in_order m n (tree.Then s r) =
      flat_map-append (and_within m s) (in_order m r) ∙ ap (λ (l : List (List ℕ)). l ++ flat_map names_at (in_order m r)) (same_within m n s)
      ∙ ap (λ (l : List (List ℕ)). flat_map names_at (and_within n s) ++ l) (same_in_order m n r) ∙ sym (flat_map-append (and_within n s) (in_order n r))

throughout-more : (ss : List Statement) (s : Statement) → names_throughout (statements_from (ss ++ s ∷ [])) ≡ names_throughout (statements_from ss) ++ names_in s
throughout-more [] s = flat_map-append (and_within 1 s) [] ∙ append-nil (names_in s)
throughout-more (t ∷ ss) s =
    flat_map-append (and_within 1 t) (in_order 1 (statements_from (ss ++ s ∷ []))) ∙ ap (λ (l : List (List ℕ)). names_in t ++ l) (throughout-more ss s)
    ∙ sym (append_assoc (names_in t) (names_throughout (statements_from ss)) (names_in s))
    ∙ ap (λ (l : List (List ℕ)). l ++ names_in s) (sym (flat_map-append (and_within 1 t) (in_order 1 (statements_from ss))))

pub adds_statement : {a b c : List (List ℕ)} {ts us vs : List Term} (block ss : List Stmt) (s : Stmt) → ss ≡ block ++ s ∷ []
    → Adds a b ts us (names_throughout (statements_of block)) → Adds b c us vs (names_in (statement_of s)) → Adds a c ts vs (names_throughout (statements_of ss))
adds_statement {a} {c = c} {ts = ts} {vs = vs} block ss s front before one =
    subst (Adds a c ts vs) (sym (ap (λ (l : List Statement). names_throughout (statements_from l)) (statements-push ss block s front) ∙ throughout-more (map statement_of block) (statement_of s))) (adds_on before one)

pub adds_two : {a b c : List (List ℕ)} {ts us vs : List Term} (op : TwoOp) (d e : Box Expr) (whole : Expr) → whole ≡ expr.Two op d e
    → Adds a b ts us (variables_of (expression_of d.value)) → Adds b c us vs (variables_of (expression_of e.value)) → Adds a c ts vs (variables_of (expression_of whole))
adds_two {a} {c = c} {ts = ts} {vs = vs} op d e whole of one other = subst (λ (t : Expression). Adds a c ts vs (variables_of t)) (sym (ap expression_of of ∙ expression-two op d e)) (adds_on one other)

pub adds_if : {a b c : List (List ℕ)} {ts us vs : List Term} (e : Expr) (body : Vec Stmt Global) (other : Option (Vec Stmt Global)) → other ≡ None
    → Adds a b ts us (variables_of (expression_of e)) → Adds b c us vs (names_throughout (statements_of body.items)) → Adds a c ts vs (names_in (statement_of (stmt.If e body other)))
adds_if {a} {c = c} {ts = ts} {vs = vs} e body other none one two = subst (λ (s : Statement). Adds a c ts vs (names_in s)) (sym (if_is e body other none)) (adds_on (adds_alone one) two)

pub adds_if_else : {a b c d : List (List ℕ)} {ts us vs ws : List Term} (e : Expr) (body behind : Vec Stmt Global) (other : Option (Vec Stmt Global)) → other ≡ Some behind
    → Adds a b ts us (variables_of (expression_of e)) → Adds b c us vs (names_throughout (statements_of body.items)) → Adds c d vs ws (names_throughout (statements_of behind.items))
    → Adds a d ts ws (names_in (statement_of (stmt.If e body other)))
adds_if_else {a} {b} {d = d} {ts = ts} {us = us} {ws = ws} e body behind other some one two three =
    subst (λ (s : Statement). Adds a d ts ws (names_in s)) (sym (if_else_is e body behind other some))
    (adds_on (adds_alone one) (subst (Adds b d us ws) (sym (flat_map-append (in_order 1 (statements_of body.items)) (in_order 1 (statements_of behind.items)))) (adds_on two three)))

pub adds_repeat : {a b c : List (List ℕ)} {ts us : List Term} (n : ℕ) (x : List ℕ) (body : Vec Stmt Global) (whole : Stmt) → whole ≡ stmt.Repeat n x body
    → b ≡ with_name a x → Adds b c ts us (names_throughout (statements_of body.items)) → Adds a c ts us (names_in (statement_of whole))
adds_repeat {a} {b} {c} {ts} {us} n x body whole of is one =
    subst (λ (s : Statement). Adds a c ts us (names_in s)) (sym (ap statement_of of ∙ statement-repeat n x body))
    (adds_on (adds_slot x is) (subst (Adds b c ts us) (same_in_order 1 (1 * n) (statements_of body.items)) one))

-- ---- plans

pub plan_made : (p : Procedure) (plan : Plan) → IsLonger p.params plan.names → AreStepsOf plan.names plan.terms.items p.body plan.steps.items → AreSlots plan.names → plan.depth ≡ depth p.body → plan.names ≡ names_of p → IsPlanOf p plan
plan_made p plan longer all slots is names =
    let same : IsLonger plan.names plan.names = record { more = []; is = sym (append-nil plan.names) } in
    record {
      names = names;
      body = all.stand plan.names plan.terms.items same (more_none plan.terms.items);
      params = ap (take (length p.params)) longer.is ∙ take-append_seam p.params longer.more;
      slots = slots;
      has_all = all.has_all plan.names same;
      deep = is;
    }

plans_push : (ps : List Procedure) (plans : List Plan) (p : Procedure) (plan : Plan) → ArePlansOf ps plans → IsPlanOf p plan → ArePlansOf (ps ++ p ∷ []) (plans ++ plan ∷ [])
plans_push [] [] p plan all one = (one, tt)
plans_push [] (q ∷ plans) p plan all one = absurd all
plans_push (r ∷ ps) [] p plan all one = absurd all
plans_push (r ∷ ps) (q ∷ plans) p plan all one = (all.0, plans_push ps plans p plan all.1 one)

-- one procedure more has its plan
pub plans_more : (ps : List Proc) (i : ℕ) (p : Proc) (plans all : List Plan) (plan : Plan) → i < length ps → p ≡ get_or ps i p → all ≡ plans ++ plan ∷ []
    → ArePlansOf (map procedure_of (take i ps)) plans → IsPlanOf (procedure_of p) plan → ArePlansOf (map procedure_of (take (i + 1) ps)) all
plans_more ps i p plans all plan lt at behind below one =
    let front : take (i + 1) ps ≡ take i ps ++ p ∷ [] = take_more ps i p lt ∙ ap (λ (q : Proc). take i ps ++ q ∷ []) (sym at) in
    subst (λ (qs : List Plan). ArePlansOf (map procedure_of (take (i + 1) ps)) qs) (sym behind)
    (subst (λ (qs : List Procedure). ArePlansOf qs (plans ++ plan ∷ [])) (sym (ap (map procedure_of) front ∙ map-append procedure_of (take i ps) (p ∷ [])))
    (plans_push (map procedure_of (take i ps)) plans (procedure_of p) plan below one))
