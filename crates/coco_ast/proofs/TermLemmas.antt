-- The trees of a plan's terms, to which further terms behind change nothing.
use Rattle.std.proofs.Common.{◌≡◌, ℕ, ◌+◌, List, [], ◌∷◌, ◌++◌, length, refl, sym, ap, ◌∙◌, subst, arith, append_assoc, length-append}
use Rattle.std.proofs.Math.Seq.{get_or-append_seam}
use Rattle.std.proofs.lemmas.List.{append-nil}
use Rattle.coco_ast.specs.Planning.{AreMore, ReadsAs, StandsFor}
use Rattle.coco_ast.specs.Plans.{expression_at, part_at, term_tree, trees_behind}
use Rattle.coco_ast.specs.Tree.{Expression, None as Nothing}
use Rattle.coco_ast.specs.declared.plan.Term.{Term}

trees_on : (ns : List (List ℕ)) (before : List Expression) (ts us : List Term) → trees_behind ns before (ts ++ us) ≡ trees_behind ns (trees_behind ns before ts) us
trees_on ns before [] us = refl
trees_on ns before (t ∷ ts) us = trees_on ns (before ++ term_tree ns before t ∷ []) ts us

-- the trees of the terms before stand first
trees_after : (ns : List (List ℕ)) (before : List Expression) (ts : List Term) → (rest : List Expression) × (trees_behind ns before ts ≡ before ++ rest)
trees_after ns before [] = ([], sym (append-nil before))
trees_after ns before (t ∷ ts) =
    let e = term_tree ns before t in let after = trees_after ns (before ++ e ∷ []) ts in
    (e ∷ after.0, after.1 ∙ append_assoc before (e ∷ []) after.0)

pub trees_count : (ns : List (List ℕ)) (before : List Expression) (ts : List Term) → length (trees_behind ns before ts) ≡ length before + length ts
trees_count ns before [] = omega arith
trees_count ns before (t ∷ ts) =
    let e = term_tree ns before t in
    omega (arith, trees_count ns (before ++ e ∷ []) ts, length-append before (e ∷ []))

pub tree_there : (ns : List (List ℕ)) (ts : List Term) (t : Term) (all : List Term) → AreMore (ts ++ t ∷ []) all → expression_at ns all (length ts) ≡ term_tree ns (trees_behind ns [] ts) t
tree_there ns ts t all more =
    let before = trees_behind ns [] ts in let e = term_tree ns before t in
    let after = trees_after ns (before ++ e ∷ []) more.more in
    let whole : trees_behind ns [] all ≡ before ++ e ∷ after.0 =
    ap (trees_behind ns []) more.is ∙ trees_on ns [] (ts ++ t ∷ []) more.more ∙ ap (λ (b : List Expression). trees_behind ns b more.more) (trees_on ns [] ts (t ∷ []))
    ∙ after.1 ∙ append_assoc before (e ∷ []) after.0 in
    let count : length ts ≡ length before = omega (arith, trees_count ns [] ts) in
    ap (λ (es : List Expression). part_at es (length ts)) whole ∙ ap (part_at (before ++ e ∷ after.0)) count ∙ get_or-append_seam before e after.0 Nothing

-- ---- terms behind others

pub more_none : (ts : List Term) → AreMore ts ts
more_none ts = record { more = []; is = sym (append-nil ts) }

pub more_on : (a b c : List Term) → AreMore a b → AreMore b c → AreMore a c
more_on a b c one other = record {
  more = one.more ++ other.more;
  is = other.is ∙ ap (λ (ts : List Term). ts ++ other.more) one.is ∙ append_assoc a one.more other.more;
}

-- a term stands for its expression once it has its place behind the others
pub stands_there : (ns : List (List ℕ)) (ts us : List Term) (t : Term) (place : ℕ) (e : Expression) → us ≡ ts ++ t ∷ [] → place ≡ length ts → ReadsAs ns ts t e → StandsFor ns us place e
stands_there ns ts us t place e is at reads later all longer more =
    ap (expression_at later all) at ∙ tree_there later ts t all (subst (λ (l : List Term). AreMore l all) is more) ∙ reads later longer
