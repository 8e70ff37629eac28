-- A procedure's plan stands at its number.
use Rattle.std.proofs.Common.{◌≡◌, ℕ, zero, suc, ◌<◌, ◌≤◌, List, [], ◌∷◌, length, get_or, Option, None, Some, MatchOption, Bor, refl, sym, subst, arith}
use Rattle.std.specs.List.{HoldsAt}
use Rattle.coco_ast.specs.Meaning.{procedure_at}
use Rattle.coco_ast.specs.Plans.{ArePlansOf, IsPlanFor, IsPlanOf}
use Rattle.coco_ast.specs.Tree.{Procedure}
use Rattle.coco_ast.specs.declared.plan.Plan.{Plan}

past : (ps : List Procedure) (plans : List Plan) (n : ℕ) → ArePlansOf ps plans → length plans ≤ n → procedure_at ps n ≡ None
past [] [] n all le = refl
past [] (q ∷ plans) n all le = absurd all
past (p ∷ ps) [] n all le = absurd all
past (p ∷ ps) (q ∷ plans) zero all le = absurd (omega arith)
past (p ∷ ps) (q ∷ plans) (suc n) all le = past ps plans n all.1 (omega arith)

at : (ps : List Procedure) (plans : List Plan) (n : ℕ) (d : Plan) → ArePlansOf ps plans → n < length plans → (p : Procedure) × (procedure_at ps n ≡ Some p) × IsPlanOf p (get_or plans n d)
at [] [] n d all lt = absurd (omega arith)
at [] (q ∷ plans) n d all lt = absurd all
at (p ∷ ps) [] n d all lt = absurd all
at (p ∷ ps) (q ∷ plans) zero d all lt = (p, refl, all.0)
at (p ∷ ps) (q ∷ plans) (suc n) d all lt = at ps plans n d all.1 (omega arith)

-- what a look-up by `get` found
pub looked_up_plan : (ps : List Procedure) (plans : List Plan) (n : ℕ) (r : Option (Bor Plan)) → ArePlansOf ps plans
    → MatchOption r (length plans ≤ n) (λ x. (n < length plans) × HoldsAt (λ y. x.now ≡ y) plans n) → IsPlanFor (procedure_at ps n) r
looked_up_plan ps plans n None all found = subst (λ (o : Option Procedure). IsPlanFor o None) (sym (past ps plans n all found)) tt
looked_up_plan ps plans n (Some x) all found =
    let here = at ps plans n x.now all found.0 in
    subst (λ (o : Option Procedure). IsPlanFor o (Some x)) (sym here.1) (subst (IsPlanOf here.0) (sym (found.1 x.now)) here.2)
