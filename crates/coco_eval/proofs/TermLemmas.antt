-- The tree of the term at a place.
use Rattle.std.proofs.Common.{◌≡◌, ℕ, ◌+◌, ◌<◌, ◌≤◌, List, [], ◌∷◌, ◌++◌, length, take, drop, get_or, ap, sym, ◌∙◌, arith, append_assoc, take-append-drop}
use Rattle.std.proofs.lemmas.List.{get_or_past, length-take}
use Rattle.coco_ast.proofs.TermLemmas.{tree_there, trees_count}
use Rattle.coco_ast.specs.Plans.{expression_at, term_tree, trees_behind}
use Rattle.coco_ast.specs.Tree.{None as Nothing}
use Rattle.coco_ast.specs.declared.plan.Term.{Term}
use Rattle.coco_eval.proofs.SlotLemmas.{drop_first}

pub tree_at : (names : List (List ℕ)) (terms : List Term) (place : ℕ) (t : Term) → place < length terms → t ≡ get_or terms place t
    → expression_at names terms place ≡ term_tree names (trees_behind names [] (take place terms)) t
tree_at names terms place t lt is =
    let long : place ≡ length (take place terms) = omega (arith, length-take place terms) in
    let split : terms ≡ (take place terms ++ t ∷ []) ++ drop (place + 1) terms =
    sym (take-append-drop place terms) ∙ ap (λ (b : List Term). take place terms ++ b) (drop_first terms place t lt)
    ∙ ap (λ (u : Term). take place terms ++ u ∷ drop (place + 1) terms) (sym is) ∙ sym (append_assoc (take place terms) (t ∷ []) (drop (place + 1) terms)) in
    ap (expression_at names terms) long ∙ tree_there names (take place terms) t terms (record { more = drop (place + 1) terms; is = split })

pub no_tree : (names : List (List ℕ)) (terms : List Term) (place : ℕ) → length terms ≤ place → expression_at names terms place ≡ Nothing
no_tree names terms place le = get_or_past (trees_behind names [] terms) place Nothing (omega (arith, trees_count names [] terms))
