-- A walk over statements goes on where a walk over the first of them ended.
use Rattle.std.proofs.Common.{◌≡◌, ℕ, suc, ◌+◌, ◌<◌, List, [], ◌∷◌, ◌++◌, length, get_or, drop, Option, None, Some, Global, Result, Ok, Err, refl, sym, ap, ◌∙◌, add-one, drop-cons, append-nil}
use Rattle.coco_ast.proofs.Trees.{statement-if, statement-if_else}
use Rattle.coco_ast.specs.Checks.{Placed, in_order, and_within}
use Rattle.coco_ast.specs.Views.{statement_of, statements_of}
use Rattle.coco_ast.specs.declared.tree.Stmt.{Stmt}
use Rattle.coco_ast.specs.declared.tree.Expr.{Expr}
use Rattle.coco_ast.specs.declared.tree.Stmt.{If}
use Rattle.std.specs.declared.vec.Vec.{Vec}
use Rattle.coco_check.specs.declared.body.Body.{Body}
use Rattle.coco_check.specs.declared.fault.BodyFault.{BodyFault}
use Rattle.coco_check.specs.declared.fault.BodyFault.TheVariants.{Refused, NoMemory}
use Rattle.coco_check.specs.Search.{Names, Walk, Fault, and_then, step, walk}
use Rattle.coco_check.specs.Walking.{Follows, StopsAt, within}

and_then-and_then : (r : Result Walk Fault) (f g : Walk → Result Walk Fault) → and_then (and_then r f) g ≡ and_then r (λ v. and_then (f v) g)
and_then-and_then (Ok w) f g = refl
and_then-and_then (Err e) f g = refl

and_then-same : (r : Result Walk Fault) (f g : Walk → Result Walk Fault) → ((v : Walk) → f v ≡ g v) → and_then r f ≡ and_then r g
and_then-same (Ok w) f g same = same w
and_then-same (Err e) f g same = refl

pub walk-append : (ts : Names) (w : Walk) (xs ys : List Placed) → walk ts w (xs ++ ys) ≡ and_then (walk ts w xs) (λ v. walk ts v ys)
walk-append ts w [] ys = refl
walk-append ts w (x ∷ xs) ys =
    and_then-same (step ts w x) (λ v. walk ts v (xs ++ ys)) (λ v. and_then (walk ts v xs) (λ u. walk ts u ys)) (λ v. walk-append ts v xs ys)
    ∙ sym (and_then-and_then (step ts w x) (λ v. walk ts v xs) (λ u. walk ts u ys))

pub walk_on : (ts : Names) (w v : Walk) (xs ys : List Placed) → walk ts w xs ≡ Ok v → walk ts w (xs ++ ys) ≡ walk ts v ys
walk_on ts w v xs ys e = walk-append ts w xs ys ∙ ap (λ r. and_then r (λ u. walk ts u ys)) e

pub walk_stops : (ts : Names) (w : Walk) (f : Fault) (xs ys : List Placed) → walk ts w xs ≡ Err f → walk ts w (xs ++ ys) ≡ Err f
walk_stops ts w f xs ys e = walk-append ts w xs ys ∙ ap (λ r. and_then r (λ u. walk ts u ys)) e

-- what follows one walk follows another that ends in the same fault
pub follows_fault : {A : Type 0} (r : Result A BodyFault) (f : BodyFault) (new : Body) (u w : Result Walk Fault) → r ≡ Err f
    → ((e : Fault) → u ≡ Err e → w ≡ Err e) → StopsAt f u → Follows r new w
follows_fault r (Refused n kind) new u w is same h = rw is (same (n, kind) h)
follows_fault r NoMemory new u w is same h = rw is tt

-- the statements from a place of a block on
pub order_from : (n : ℕ) (block : List Stmt) (i : ℕ) (s : Stmt) → i < length block → s ≡ get_or block i s
    → in_order n (statements_of (drop i block)) ≡ and_within n (statement_of s) ++ in_order n (statements_of (drop (i + 1) block))
order_from n block i s within is =
    let parts : drop i block ≡ s ∷ drop (i + 1) block = rw add-one (drop-cons block i s within ∙ ap (λ (x : Stmt). x ∷ drop (suc i) block) (sym is)) in
    ap (λ ss. in_order n (statements_of ss)) parts

-- the first block of an `if` stands first within it
pub if_within : (n : ℕ) (test : Expr) (then_part : Vec Stmt Global) (else_part : Option (Vec Stmt Global))
    → (behind : List Placed) × (within n (statement_of (If test then_part else_part)) ≡ in_order n (statements_of then_part.items) ++ behind)
if_within n test then_part None = ([], rw (statement-if test then_part, append-nil) refl)
if_within n test then_part (Some else_part) = (in_order n (statements_of else_part.items), rw (statement-if_else test then_part else_part) refl)

pub if_else_within : (n : ℕ) (test : Expr) (then_part behind : Vec Stmt Global) (else_part : Option (Vec Stmt Global)) → else_part ≡ Some behind
    → within n (statement_of (If test then_part else_part)) ≡ in_order n (statements_of then_part.items) ++ in_order n (statements_of behind.items)
if_else_within n test then_part behind else_part is =
    ap (λ (o : Option (Vec Stmt Global)). within n (statement_of (If test then_part o))) is ∙ ap (within n) (statement-if_else test then_part behind)
