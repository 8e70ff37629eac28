-- What the machine's goals do with a word.
use Rattle.std.proofs.Common.{◌≡◌, ℕ, Bool, true, false, cond, List, [], ◌∷◌, ◌++◌, Option, None, Some, refl, sym, ap, ◌∙◌, subst}
use Rattle.coco_ast.specs.Tree.{Expression, RowPlace, Statement, Statements, Procedure}
use Rattle.coco_ast.specs.Tree as tree
use Rattle.coco_ast.specs.declared.tree.TwoOp.{TwoOp}
use Rattle.std.specs.Prelude.{option_map}
use Rattle.coco_parse.specs.Counting.{name_in, number_in, operator_in}
use Rattle.coco_parse.specs.Limits.{closes_list}
use Rattle.coco_parse.specs.Machine.{Goal, Fixed, Named, Numbered, Params, Listed, Operand, Operator, Valued, Within, Tested, SemicolonMark, Mark, marks, Frame, operate, enclose, conclude, at_place, in_braces, with_statement, step}
use Rattle.std.proofs.Common.{map}
use Rattle.std.proofs.lemmas.List.{reverse-append}
use Rattle.coco_parse.specs.declared.frames.Frame.{Frame as RustFrame}
use Rattle.coco_parse.specs.Steps.{Operates, Collapses, frame_of, frames_of, atom_in, Opens, Chooses, is_optional, closes_block}
use Rattle.coco_ast.specs.Views.{expression_of}
use Rattle.coco_ast.specs.declared.tree.Expr.{Expr}
use Rattle.coco_parse.specs.declared.choice.Optional.TheVariants as optional
use Rattle.coco_parse.specs.declared.word.Word.{Word}
use Rattle.coco_parse.specs.declared.word.Word.TheVariants.{Name, Number, Two, Comma, CloseParen, CloseBrace, Get, Else}

pub fixed_some : (m : Mark) (g : Goal) (w : Word) → marks m w ≡ true → step (Fixed m g) w ≡ Some g
fixed_some m g w h = ap (λ b. cond b (Some g) None) h

pub fixed_none : (m : Mark) (g : Goal) (w : Word) → marks m w ≡ false → step (Fixed m g) w ≡ None
fixed_none m g w h = ap (λ b. cond b (Some g) None) h

pub named_some : (k : List ℕ → Goal) (w : Word) (name : List ℕ) → name_in w ≡ Some name → step (Named k) w ≡ Some (k name)
named_some k (Name n) name h = let e : n ≡ name = cc h in ap (λ x. Some (k x)) e
named_some k _ name h = absurd (cc h)

pub named_none : (k : List ℕ → Goal) (w : Word) → name_in w ≡ None → step (Named k) w ≡ None
named_none k (Name n) h = absurd (cc h)
named_none k _ h = refl

pub numbered_some : (k : ℕ → Goal) (w : Word) (n : ℕ) → number_in w ≡ Some n → step (Numbered k) w ≡ Some (k n)
numbered_some k (Number m) n h = let e : m ≡ n = cc h in ap (λ x. Some (k x)) e
numbered_some k _ n h = absurd (cc h)

pub numbered_none : (k : ℕ → Goal) (w : Word) → number_in w ≡ None → step (Numbered k) w ≡ None
numbered_none k (Number m) h = absurd (cc h)
numbered_none k _ h = refl

pub listed_none : (names : List (List ℕ)) (k : List (List ℕ) → Goal) (w : Word) → (w ≡ Comma → ⊥) → (w ≡ CloseParen → ⊥) → step (Listed names k) w ≡ None
listed_none names k Comma a b = absurd (a refl)
listed_none names k CloseParen a b = absurd (b refl)
listed_none names k _ a b = refl

pub block_closed : (w : Word) → closes_block w ≡ true → w ≡ CloseBrace
block_closed CloseBrace h = refl
block_closed _ h = absurd (cc h)

pub list_closed : (w : Word) → closes_list w ≡ true → w ≡ CloseParen
list_closed CloseParen h = refl
list_closed _ h = absurd (cc h)

get_only : (w : Word) → is_optional optional.Get w ≡ true → w ≡ Get
get_only Get h = refl
get_only _ h = absurd (cc h)

else_only : (w : Word) → is_optional optional.Else w ≡ true → w ≡ Else
else_only Else h = refl
else_only _ h = absurd (cc h)

close_only : (w : Word) → is_optional optional.CloseParen w ≡ true → w ≡ CloseParen
close_only CloseParen h = refl
close_only _ h = absurd (cc h)

valued_missing : (set : Expression → Goal) (get : RowPlace → Goal) (w : Word) → is_optional optional.Get w ≡ false → step (Valued set get) w ≡ step (Operand [] SemicolonMark set) w
valued_missing set get Get h = absurd (cc h)
valued_missing set get _ h = refl

pub chooses_get : (set : Expression → Goal) (get : RowPlace → Goal) → Chooses optional.Get (Valued set get) (at_place (λ p. Fixed SemicolonMark (get p))) (Operand [] SemicolonMark set)
chooses_get set get = record {
  taken = λ w h. ap (step (Valued set get)) (get_only w h);
  missing = valued_missing set get;
  within = λ i. cc i.2;
  unfinished = λ i. cc i.2;
}

tested_missing : (e : Expression) (body : Statements) (ss : List Statement) (k : Statements → Goal) (w : Word) → is_optional optional.Else w ≡ false → step (Tested e body ss k) w ≡ step (Within (ss ++ tree.If e body ∷ []) k) w
tested_missing e body ss k Else h = absurd (cc h)
tested_missing e body ss k _ h = refl

pub chooses_else : (e : Expression) (body : Statements) (ss : List Statement) (k : Statements → Goal)
    → Chooses optional.Else (Tested e body ss k) (in_braces (λ other. with_statement ss k (tree.IfElse e body other))) (with_statement ss k (tree.If e body))
chooses_else e body ss k = record {
  taken = λ w h. ap (step (Tested e body ss k)) (else_only w h);
  missing = tested_missing e body ss k;
  within = λ i. cc i.2;
  unfinished = λ i. cc i.2;
}

params_missing : (k : List (List ℕ) → Goal) (w : Word) → is_optional optional.CloseParen w ≡ false → step (Params k) w ≡ step (Named (λ name. Listed (name ∷ []) k)) w
params_missing k CloseParen h = absurd (cc h)
params_missing k _ h = refl

pub chooses_close : (k : List (List ℕ) → Goal) → Chooses optional.CloseParen (Params k) (k []) (Named (λ name. Listed (name ∷ []) k))
chooses_close k = record {
  taken = λ w h. ap (step (Params k)) (close_only w h);
  missing = params_missing k;
  within = λ i. cc i.2;
  unfinished = λ i. cc i.2;
}

-- ---- behind an operand

pub operator_some : (e : Expression) (fs gs : List Frame) (m : Mark) (k : Expression → Goal) (op : TwoOp) → operate e fs op ≡ Some gs → step (Operator e fs m k) (Two op) ≡ Some (Operand gs m k)
operator_some e fs gs m k op h = ap (option_map (λ hs. Operand hs m k)) h

pub operator_none : (e : Expression) (fs : List Frame) (m : Mark) (k : Expression → Goal) (op : TwoOp) → operate e fs op ≡ None → step (Operator e fs m k) (Two op) ≡ None
operator_none e fs m k op h = ap (option_map (λ hs. Operand hs m k)) h

pub paren_some : (e d : Expression) (fs gs : List Frame) (m : Mark) (k : Expression → Goal) (w : Word) → closes_list w ≡ true → enclose e fs ≡ Some (d, gs) → step (Operator e fs m k) w ≡ Some (Operator d gs m k)
paren_some e d fs gs m k w c h = ap (step (Operator e fs m k)) (list_closed w c) ∙ ap (option_map (λ p. Operator p.0 p.1 m k)) h

pub paren_none : (e : Expression) (fs : List Frame) (m : Mark) (k : Expression → Goal) (w : Word) → closes_list w ≡ true → enclose e fs ≡ None → step (Operator e fs m k) w ≡ None
paren_none e fs m k w c h = ap (step (Operator e fs m k)) (list_closed w c) ∙ ap (option_map (λ p. Operator p.0 p.1 m k)) h

marked : (e : Expression) (fs : List Frame) (m : Mark) (k : Expression → Goal) (w : Word) → operator_in w ≡ None → closes_list w ≡ false → step (Operator e fs m k) w ≡ cond (marks m w) (option_map k (conclude e fs)) None
marked e fs m k (Two op) a b = absurd (cc a)
marked e fs m k CloseParen a b = absurd (cc b)
marked e fs m k _ a b = refl

pub whole_some : (e d : Expression) (fs : List Frame) (m : Mark) (k : Expression → Goal) (w : Word) → operator_in w ≡ None → closes_list w ≡ false → marks m w ≡ true → conclude e fs ≡ Some d → step (Operator e fs m k) w ≡ Some (k d)
whole_some e d fs m k w a b c h = marked e fs m k w a b ∙ ap (λ t. cond t (option_map k (conclude e fs)) None) c ∙ ap (option_map k) h

pub whole_unmarked : (e : Expression) (fs : List Frame) (m : Mark) (k : Expression → Goal) (w : Word) → operator_in w ≡ None → closes_list w ≡ false → marks m w ≡ false → step (Operator e fs m k) w ≡ None
whole_unmarked e fs m k w a b c = marked e fs m k w a b ∙ ap (λ t. cond t (option_map k (conclude e fs)) None) c

none_either : (b : Bool) (o : Option Goal) → o ≡ None → cond b o None ≡ None
none_either true o h = h
none_either false o h = refl

pub whole_open : (e : Expression) (fs : List Frame) (m : Mark) (k : Expression → Goal) (w : Word) → operator_in w ≡ None → closes_list w ≡ false → conclude e fs ≡ None → step (Operator e fs m k) w ≡ None
whole_open e fs m k w a b h = marked e fs m k w a b ∙ none_either (marks m w) (option_map k (conclude e fs)) (ap (option_map k) h)

pub listed_more : (names : List (List ℕ)) (k : List (List ℕ) → Goal) (w : Word) → w ≡ Comma → step (Listed names k) w ≡ Some (Named (λ name. Listed (names ++ name ∷ []) k))
listed_more names k w e = ap (step (Listed names k)) e

pub listed_end : (names : List (List ℕ)) (k : List (List ℕ) → Goal) (w : Word) → w ≡ CloseParen → step (Listed names k) w ≡ Some (k names)
listed_end names k w e = ap (step (Listed names k)) e

pub follows_some : (b : Bool) (o : Option (List Frame)) (fs : List Frame) → b ≡ true → Operates b o fs → o ≡ Some fs
follows_some b o fs h f = subst (λ t. Operates t o fs) h f

pub follows_none : (b : Bool) (o : Option (List Frame)) (fs : List Frame) → b ≡ false → Operates b o fs → o ≡ None
follows_none b o fs h f = subst (λ t. Operates t o fs) h f

pub collapses_opened : (b : Bool) (d e : Expression) (fs gs : List Frame) → b ≡ true → Collapses b d e fs gs → (enclose e fs ≡ Some (d, gs)) × (conclude e fs ≡ None)
collapses_opened b d e fs gs h f = subst (λ t. Collapses t d e fs gs) h f

pub collapses_ended : (b : Bool) (d e : Expression) (fs gs : List Frame) → b ≡ false → Collapses b d e fs gs → (enclose e fs ≡ None) × (conclude e fs ≡ Some d)
collapses_ended b d e fs gs h f = subst (λ t. Collapses t d e fs gs) h f

pub frames_push : (fs : List RustFrame) (f : RustFrame) → frames_of (fs ++ f ∷ []) ≡ frame_of f ∷ frames_of fs
frames_push fs f = ap (map frame_of) (reverse-append fs (f ∷ []))

-- ---- before an operand

atom_step : (fs : List Frame) (m : Mark) (k : Expression → Goal) (w : Word) (a : Option Expression) → atom_in w ≡ a → Opens None fs w → step (Operand fs m k) w ≡ option_map (λ e. Operator e fs m k) a
atom_step fs m k w a h opens = opens m k ∙ ap (option_map (λ e. Operator e fs m k)) h

pub atom_some : (fs : List Frame) (m : Mark) (k : Expression → Goal) (w : Word) (a : Option Expr) (x : Expr) → a ≡ Some x → option_map expression_of a ≡ atom_in w → Opens None fs w → step (Operand fs m k) w ≡ Some (Operator (expression_of x) fs m k)
atom_some fs m k w a x e h opens = atom_step fs m k w (Some (expression_of x)) (sym h ∙ ap (option_map expression_of) e) opens

pub atom_none : (fs : List Frame) (m : Mark) (k : Expression → Goal) (w : Word) (a : Option Expr) → a ≡ None → option_map expression_of a ≡ atom_in w → Opens None fs w → step (Operand fs m k) w ≡ None
atom_none fs m k w a e h opens = atom_step fs m k w None (sym h ∙ ap (option_map expression_of) e) opens
