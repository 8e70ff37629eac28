-- From each goal some words lead to the end of a file.
use Rattle.std.proofs.Common.{◌≡◌, ℕ, true, List, [], ◌∷◌, ◌++◌, Some, None, option_map, option_and_then, if◌then◌else◌, ◌⊎◌, inl, inr, refl, ap, ◌∙◌}
use Rattle.coco_ast.specs.Tree.{Expression, Procedure}
use Rattle.coco_ast.specs.Tree as tree
use Rattle.coco_ast.specs.Views.{sign_of, statements_from}
use Rattle.coco_parse.specs.Machine as machine
use Rattle.coco_parse.specs.Machine.{Frame, Opened, Inverted, Left, enclose, conclude, Mark, ParenMark, BraceMark, BracketMark, EndBracketMark, SemicolonMark, AssignMark, AsMark, mark_word, marks, Goal, Items, Fixed, Named, Numbered, Params, Listed, Operand, Operator, Valued, Within, Tested, operator_step, step, after}
use Rattle.coco_parse.specs.declared.word.Word.{Word}
use Rattle.coco_parse.specs.declared.word.Word.TheVariants as word
use Rattle.coco_parse.specs.declared.word.Word.TheVariants.{CloseParen, CloseBrace}

abbrev pub IsMet : Goal → Type 0
IsMet g = (rest : List Word) × (ts : List (List ℕ)) × (ps : List Procedure) × (after g rest ≡ Some (Items ts ps))

-- by one word and what meets the goal behind it
met_by : (g h : Goal) (w : Word) → step g w ≡ Some h → IsMet h → IsMet g
met_by g h w e met = (w ∷ met.0, met.1, met.2, ap (option_and_then (λ k. after k met.0)) e ∙ met.3)

marks-mark : (m : Mark) → marks m (mark_word m) ≡ true
marks-mark ParenMark = refl
marks-mark BraceMark = refl
marks-mark BracketMark = refl
marks-mark EndBracketMark = refl
marks-mark SemicolonMark = refl
marks-mark AssignMark = refl
marks-mark AsMark = refl

operator_mark : (e : Expression) (fs : List Frame) (m : Mark) (k : Expression → Goal) → operator_step e fs m k (mark_word m) ≡ option_map k (conclude e fs)
operator_mark e fs ParenMark k = refl
operator_mark e fs BraceMark k = refl
operator_mark e fs BracketMark k = refl
operator_mark e fs EndBracketMark k = refl
operator_mark e fs SemicolonMark k = refl
operator_mark e fs AssignMark k = refl
operator_mark e fs AsMark k = refl

module _ (m : Mark) (k : Expression → Goal) (all_met : (d : Expression) → IsMet (k d)) where
  -- the innermost open parenthesis can be closed, or none is open
  Ends : Expression → List Frame → Type 0
  Ends e fs = ((d : Expression) × (gs : List Frame) × (enclose e fs ≡ Some (d, gs)) × IsMet (Operator d gs m k)) ⊎ ((d : Expression) × (conclude e fs ≡ Some d))

  ended : (e : Expression) (fs : List Frame) → Ends e fs → IsMet (Operator e fs m k)
  unfolding Ends
  ended e fs (inl c) = met_by (Operator e fs m k) (Operator c.0 c.1 m k) CloseParen (ap (option_map (λ p. Operator p.0 p.1 m k)) c.2) c.3
  ended e fs (inr c) = met_by (Operator e fs m k) (k c.0) (mark_word m) (operator_mark e fs m k ∙ ap (option_map k) c.1) (all_met c.0)

  ends : (fs : List Frame) (e : Expression) → Ends e fs
  unfolding Ends
  ends [] e = inr (e, refl)
  ends (Opened ∷ fs) e = inl (e, fs, refl, ended e fs (ends fs e))
  ends (Inverted ∷ fs) e = ends fs (tree.Not e)
  ends (machine.Negated ∷ fs) e = ends fs (tree.Negate e)
  ends (Left op d ∷ fs) e = ends fs (tree.Two (sign_of op) d e)

  met_behind : (e : Expression) (fs : List Frame) → IsMet (Operator e fs m k)
  met_behind e fs = ended e fs (ends fs e)

  met_before : (fs : List Frame) → IsMet (Operand fs m k)
  met_before fs = met_by (Operand fs m k) (Operator tree.None fs m k) word.None refl (met_behind tree.None fs)

pub met : (g : Goal) → IsMet g
met (Items ts ps) = ([], ts, ps, refl)
met (Fixed m g) = met_by (Fixed m g) g (mark_word m) (ap (λ b. if b then Some g else None) (marks-mark m)) (met g)
met (Named k) = met_by (Named k) (k []) (word.Name []) refl (met (k []))
met (Numbered k) = met_by (Numbered k) (k 0) (word.Number 0) refl (met (k 0))
met (Params k) = met_by (Params k) (k []) CloseParen refl (met (k []))
met (Listed names k) = met_by (Listed names k) (k names) CloseParen refl (met (k names))
met (Operand fs m k) = met_before m k (λ d. met (k d)) fs
met (Operator e fs m k) = met_behind m k (λ d. met (k d)) e fs
met (Valued set get) = met_by (Valued set get) (Operator tree.None [] SemicolonMark set) word.None refl (met_behind SemicolonMark set (λ d. met (set d)) tree.None [])
met (Within ss k) = met_by (Within ss k) (k (statements_from ss)) CloseBrace refl (met (k (statements_from ss)))
met (Tested e body ss k) = met_by (Tested e body ss k) (k (statements_from (ss ++ tree.If e body ∷ []))) CloseBrace refl (met (k (statements_from (ss ++ tree.If e body ∷ []))))
