-- By the grammar, which words may stand before a goal: those that, with whatever the goal asks for put behind them, may stand
-- before what becomes of it.
use Rattle.std.proofs.Common.{◌≡◌, ℕ, Bool, true, false, if◌then◌else◌, nat_le, List, [], ◌∷◌, ◌++◌, Option, Some, None, IfSome, option_map, option_and_then, refl, sym, ap, ◌∙◌, subst, append_assoc, append-nil, true≢false, leb-true}
use Rattle.coco_ast.specs.Tree.{Expression, RowPlace, Statement, Statements, End, Then, Procedure}
use Rattle.coco_ast.specs.Tree as tree
use Rattle.coco_ast.specs.Views.{statements_from}
use Rattle.coco_ast.specs.declared.tree.TwoOp.{TwoOp}
use Rattle.coco_ast.specs.declared.tree.TwoOp.TheVariants.{Subtract}
use Rattle.coco_parse.specs.Grammar as grammar
use Rattle.coco_parse.specs.Grammar.{Atom, IsExpression, IsWhole, IsPlace, IsStatement, IsBlock, AreStatements, end, next, AreListed, last, listed, AreParams, some, IsFile}
use Rattle.coco_parse.specs.Machine.{Frame, Inverted, wants, operate, enclose, conclude, Mark, ParenMark, BraceMark, BracketMark, EndBracketMark, SemicolonMark, AssignMark, AsMark, mark_word, marks, Goal, Items, Fixed, Named, Numbered, Params, Listed, Operand, Operator, Valued, Within, Tested, at_place, in_braces, with_statement, operand_step, operator_step, within_step, step, after}
use Rattle.coco_parse.specs.declared.word.Word.{Word}
use Rattle.coco_parse.specs.declared.word.Word.TheVariants as word
use Rattle.coco_parse.specs.declared.word.Word.TheVariants.{Two, OpenParen, CloseParen, OpenBrace, CloseBrace, OpenBracket, CloseBracket, Comma, Semicolon, Assign}
use Rattle.coco_parse.proofs.Expressions.{Spells, none, opened, inverted, negated, operate-spells, enclose-spells, conclude-spells}

-- these statements, and then those of the body
abbrev pub and_then : List Statement → Statements → Statements
and_then [] body = body
and_then (s ∷ ss) body = Then s (and_then ss body)

-- whatever expression follows with the mark behind it, K of it holds behind both
abbrev pub TakesWhole : (Expression → List Word → Type 0) → Mark → List Word → Type 0
TakesWhole K m p = (u : List Word) (e : Expression) → IsWhole u e → K e (p ++ u ++ mark_word m ∷ [])

-- whatever statements follow with the closing brace behind them, K of these and those so far holds behind both
abbrev pub TakesStatements : (Statements → List Word → Type 0) → List Statement → List Word → Type 0
TakesStatements K ss p = (u : List Word) (body : Statements) → AreStatements u body → K (and_then ss body) (p ++ u ++ CloseBrace ∷ [])

abbrev pub Holds : Goal → List Word → Type 0
Holds (Items ts ps) p = (u : List Word) (a : List (List ℕ)) (b : List Procedure) → IsFile u a b → IsFile (p ++ u) (ts ++ a) (ps ++ b)
Holds (Fixed m g) p = Holds g (p ++ mark_word m ∷ [])
Holds (Named k) p = (name : List ℕ) → Holds (k name) (p ++ word.Name name ∷ [])
Holds (Numbered k) p = (n : ℕ) → Holds (k n) (p ++ word.Number n ∷ [])
Holds (Params k) p = (u : List Word) (names : List (List ℕ)) → AreParams u names → Holds (k names) (p ++ u ++ CloseParen ∷ [])
Holds (Listed names k) p = Holds (k names) (p ++ CloseParen ∷ []) × ((u : List Word) (more : List (List ℕ)) → AreListed u more → Holds (k (names ++ more)) (p ++ Comma ∷ u ++ CloseParen ∷ []))
Holds (Operand fs m k) p = (q x : List Word) × (p ≡ q ++ x) × Spells fs x × TakesWhole (λ e. Holds (k e)) m q
Holds (Operator e fs m k) p = (q x y : List Word) × (p ≡ q ++ (x ++ y)) × Spells fs x × IsExpression Atom y e × TakesWhole (λ d. Holds (k d)) m q
Holds (Valued set get) p = TakesWhole (λ e. Holds (set e)) SemicolonMark p × ((u : List Word) (place : RowPlace) → IsPlace u place → Holds (get place) (p ++ word.Get ∷ u ++ Semicolon ∷ []))
Holds (Within ss k) p = TakesStatements (λ body. Holds (k body)) ss p
Holds (Tested e body ss k) p =
    TakesStatements (λ all. Holds (k all)) (ss ++ tree.If e body ∷ []) p
    × ((v : List Word) (other : Statements) → IsBlock v other → TakesStatements (λ all. Holds (k all)) (ss ++ tree.IfElse e body other ∷ []) (p ++ word.Else ∷ v))

-- it holds, if there is one
abbrev pub HoldsBehind : Option Goal → List Word → Type 0
HoldsBehind o p = IfSome o (λ g. Holds g p)

pub hold_behind : (o : Option Goal) (p : List Word) (h : Goal) → HoldsBehind o p → o ≡ Some h → Holds h p
hold_behind o p h held e = rw e at held

moved : (g : Goal) (p q : List Word) → p ≡ q → Holds g p → Holds g q
moved g p q e held = subst (Holds g) e held

-- ---- marks

marked : (m : Mark) (w : Word) → marks m w ≡ true → w ≡ mark_word m
marked ParenMark OpenParen h = refl
marked BraceMark OpenBrace h = refl
marked BracketMark OpenBracket h = refl
marked EndBracketMark CloseBracket h = refl
marked SemicolonMark Semicolon h = refl
marked AssignMark Assign h = refl
marked AsMark word.As h = refl
marked _ _ h = absurd (true≢false (sym h))

fixed_holds : (m : Mark) (g : Goal) (w : Word) (p : List Word) → Holds g (p ++ mark_word m ∷ []) → (b : Bool) → marks m w ≡ b → HoldsBehind (if b then Some g else None) (p ++ w ∷ [])
fixed_holds m g w p held true h = moved g (p ++ mark_word m ∷ []) (p ++ w ∷ []) (ap (λ v. p ++ v ∷ []) (sym (marked m w h))) held
fixed_holds m g w p held false h = tt

-- ---- expressions

module _ (m : Mark) (k : Expression → Goal) where
  whole_holds : (p : List Word) → TakesWhole (λ e. Holds (k e)) m p → Holds (Operand [] m k) p
  whole_holds p t = (p, [], sym (append-nil p), none, t)

  inverted_holds : (fs : List Frame) (q x : List Word) → Spells fs x → TakesWhole (λ e. Holds (k e)) m q → (b : Bool) → nat_le (wants fs) 2 ≡ b
      → HoldsBehind (if b then Some (Operand (Inverted ∷ fs) m k) else None) (q ++ x ++ word.Not ∷ [])
  inverted_holds fs q x s t true h = (q, x ++ word.Not ∷ [], append_assoc q x (word.Not ∷ []), inverted s (leb-true (wants fs) 2 h), t)
  inverted_holds fs q x s t false h = tt

  operand_holds : (fs : List Frame) (w : Word) (q x : List Word) → Spells fs x → TakesWhole (λ e. Holds (k e)) m q → HoldsBehind (operand_step fs m k w) (q ++ x ++ w ∷ [])
  operand_holds fs (word.Number n) q x s t = (q, x, word.Number n ∷ [], append_assoc q x (word.Number n ∷ []), s, grammar.number, t)
  operand_holds fs (word.Text bytes) q x s t = (q, x, word.Text bytes ∷ [], append_assoc q x (word.Text bytes ∷ []), s, grammar.text, t)
  operand_holds fs word.None q x s t = (q, x, word.None ∷ [], append_assoc q x (word.None ∷ []), s, IsExpression.none, t)
  operand_holds fs (word.Name name) q x s t = (q, x, word.Name name ∷ [], append_assoc q x (word.Name name ∷ []), s, grammar.variable, t)
  operand_holds fs OpenParen q x s t = (q, x ++ OpenParen ∷ [], append_assoc q x (OpenParen ∷ []), opened s, t)
  operand_holds fs (Two Subtract) q x s t = (q, x ++ Two Subtract ∷ [], append_assoc q x (Two Subtract ∷ []), negated s, t)
  operand_holds fs word.Not q x s t = inverted_holds fs q x s t (nat_le (wants fs) 2) refl
  operand_holds fs _ q x s t = tt

  first_holds : (w : Word) (p : List Word) → TakesWhole (λ e. Holds (k e)) m p → HoldsBehind (operand_step [] m k w) (p ++ w ∷ [])
  first_holds w p t = subst (λ z. HoldsBehind (operand_step [] m k w) (z ++ w ∷ [])) (append-nil p) (operand_holds [] w p [] none t)

  module _ (e : Expression) (fs : List Frame) (q x y : List Word) (s : Spells fs x) (a : IsExpression Atom y e) (t : TakesWhole (λ d. Holds (k d)) m q) where
    two_holds : (op : TwoOp) (o : Option (List Frame)) → operate e fs op ≡ o → HoldsBehind (option_map (λ gs. Operand gs m k) o) (q ++ (x ++ y) ++ Two op ∷ [])
    two_holds op (Some gs) h = (q, x ++ y ++ Two op ∷ [], append_assoc q (x ++ y) (Two op ∷ []), operate-spells e fs gs op x y h s a, t)
    two_holds op None h = tt

    close_holds : (o : Option (Expression × List Frame)) → enclose e fs ≡ o → HoldsBehind (option_map (λ p. Operator p.0 p.1 m k) o) (q ++ (x ++ y) ++ CloseParen ∷ [])
    close_holds (Some p) h =
        let r = enclose-spells e p.0 fs p.1 x y h s a in
        (q, r.0, r.1, append_assoc q (x ++ y) (CloseParen ∷ []) ∙ ap (λ z. q ++ z) r.2, r.3, r.4, t)
    close_holds None h = tt

    mark_holds : (w : Word) (b : Bool) → marks m w ≡ b → (o : Option Expression) → conclude e fs ≡ o → HoldsBehind (if b then option_map k o else None) (q ++ (x ++ y) ++ w ∷ [])
    mark_holds w true h (Some d) c = moved (k d) (q ++ (x ++ y) ++ mark_word m ∷ []) (q ++ (x ++ y) ++ w ∷ []) (ap (λ v. q ++ (x ++ y) ++ v ∷ []) (sym (marked m w h))) (t (x ++ y) d (conclude-spells e d fs x y c s a))
    mark_holds w true h None c = tt
    mark_holds w false h o c = tt

    operator_holds : (w : Word) → HoldsBehind (operator_step e fs m k w) (q ++ (x ++ y) ++ w ∷ [])
    operator_holds (Two op) = two_holds op (operate e fs op) refl
    operator_holds CloseParen = close_holds (enclose e fs) refl
    operator_holds w = mark_holds w (marks m w) refl (conclude e fs) refl

-- ---- places and blocks

placed : (k : RowPlace → Goal) (p : List Word) → ((u : List Word) (place : RowPlace) → IsPlace u place → Holds (k place) (p ++ u)) → Holds (at_place k) p
placed k p h = λ name. whole_holds EndBracketMark (λ e. k (record { table = name; row = e })) (p ++ word.Name name ∷ [] ++ OpenBracket ∷ []) (λ u e whole.
    simp append_assoc (h (word.Name name ∷ OpenBracket ∷ u ++ CloseBracket ∷ []) (record { table = name; row = e }) (grammar.row whole)))

braced : (k : Statements → Goal) (p : List Word) → ((u : List Word) (body : Statements) → IsBlock u body → Holds (k body) (p ++ u)) → Holds (in_braces k) p
braced k p h = λ u body is. simp append_assoc (h (OpenBrace ∷ u ++ CloseBrace ∷ []) body (grammar.braces is))

-- ---- statements

and_then-push : (ss : List Statement) (s : Statement) (body : Statements) → and_then (ss ++ s ∷ []) body ≡ and_then ss (Then s body)
and_then-push [] s body = refl
and_then-push (x ∷ ss) s body = ap (Then x) (and_then-push ss s body)

and_then-end : (ss : List Statement) → and_then ss End ≡ statements_from ss
and_then-end [] = refl
and_then-end (s ∷ ss) = ap (Then s) (and_then-end ss)

module _ (ss : List Statement) (k : Statements → Goal) (p : List Word) (t : TakesStatements (λ body. Holds (k body)) ss p) where
  follow : (w q : List Word) (s : Statement) → p ++ w ≡ q → IsStatement w s → Holds (with_statement ss k s) q
  follow w q s e is = λ u body are. rw (and_then-push ss s body, ← e, append_assoc p w u) (t (w ++ u) (Then s body) (next is are))

  let_holds : HoldsBehind (within_step ss k word.Let) (p ++ word.Let ∷ [])
  let_holds = λ x. (
    λ u e whole. follow (word.Let ∷ word.Name x ∷ Assign ∷ u ++ Semicolon ∷ []) _ (tree.Let x e) (simp append_assoc) (grammar.sets whole),
    λ u place is. follow (word.Let ∷ word.Name x ∷ Assign ∷ word.Get ∷ u ++ Semicolon ∷ []) _ (tree.Get x place) (simp append_assoc) (grammar.gets is),
  )

  put_holds : HoldsBehind (within_step ss k word.Put) (p ++ word.Put ∷ [])
  put_holds = placed (λ place. Fixed AssignMark (Operand [] SemicolonMark (λ e. with_statement ss k (tree.Put place e)))) (p ++ word.Put ∷ []) (λ u place is.
      whole_holds SemicolonMark (λ e. with_statement ss k (tree.Put place e)) (p ++ word.Put ∷ [] ++ u ++ Assign ∷ []) (λ v e whole.
      follow (word.Put ∷ u ++ Assign ∷ v ++ Semicolon ∷ []) _ (tree.Put place e) (simp append_assoc) (grammar.puts is whole)))

  delete_holds : HoldsBehind (within_step ss k word.Delete) (p ++ word.Delete ∷ [])
  delete_holds = placed (λ place. Fixed SemicolonMark (with_statement ss k (tree.Delete place))) (p ++ word.Delete ∷ []) (λ u place is.
      follow (word.Delete ∷ u ++ Semicolon ∷ []) (p ++ word.Delete ∷ [] ++ u ++ Semicolon ∷ []) (tree.Delete place) (simp append_assoc) (grammar.deletes is))

  if_holds : HoldsBehind (within_step ss k word.If) (p ++ word.If ∷ [])
  if_holds = whole_holds BraceMark (λ e. Within [] (λ body. Tested e body ss k)) (p ++ word.If ∷ []) (λ u e whole. λ v body are. (
    follow (word.If ∷ u ++ (OpenBrace ∷ v ++ CloseBrace ∷ [])) _ (tree.If e body) (simp append_assoc) (grammar.tests whole (grammar.braces are)),
    λ w other is. follow (word.If ∷ u ++ (OpenBrace ∷ v ++ CloseBrace ∷ []) ++ word.Else ∷ w) _ (tree.IfElse e body other) (simp append_assoc) (grammar.chooses whole (grammar.braces are) is),
  ))

  repeat_holds : HoldsBehind (within_step ss k word.Repeat) (p ++ word.Repeat ∷ [])
  repeat_holds = λ n x. braced (λ body. with_statement ss k (tree.Repeat n x body)) (p ++ word.Repeat ∷ [] ++ word.Number n ∷ [] ++ word.As ∷ [] ++ word.Name x ∷ []) (λ u body is.
      follow (word.Repeat ∷ word.Number n ∷ word.As ∷ word.Name x ∷ u) (p ++ word.Repeat ∷ [] ++ word.Number n ∷ [] ++ word.As ∷ [] ++ word.Name x ∷ [] ++ u) (tree.Repeat n x body) (simp append_assoc) (grammar.repeats is))

  refuse_holds : HoldsBehind (within_step ss k word.Refuse) (p ++ word.Refuse ∷ [])
  refuse_holds = λ n. follow (word.Refuse ∷ word.Number n ∷ Semicolon ∷ []) (p ++ word.Refuse ∷ [] ++ word.Number n ∷ [] ++ Semicolon ∷ []) (tree.Refuse n) (simp append_assoc) grammar.refuses

  reply_holds : HoldsBehind (within_step ss k word.Reply) (p ++ word.Reply ∷ [])
  reply_holds = whole_holds SemicolonMark (λ e. with_statement ss k (tree.Reply e)) (p ++ word.Reply ∷ []) (λ u e whole.
      follow (word.Reply ∷ u ++ Semicolon ∷ []) _ (tree.Reply e) (simp append_assoc) (grammar.replies whole))

  brace_holds : HoldsBehind (within_step ss k CloseBrace) (p ++ CloseBrace ∷ [])
  brace_holds = rw (← (and_then-end ss)) (rw append-nil at (t [] End end))

  within_holds : (w : Word) → HoldsBehind (within_step ss k w) (p ++ w ∷ [])
  within_holds word.Let = let_holds
  within_holds word.Put = put_holds
  within_holds word.Delete = delete_holds
  within_holds word.If = if_holds
  within_holds word.Repeat = repeat_holds
  within_holds word.Refuse = refuse_holds
  within_holds word.Reply = reply_holds
  within_holds CloseBrace = brace_holds
  within_holds _ = tt

-- ---- goals

items_holds : (ts : List (List ℕ)) (ps : List Procedure) (w : Word) (p : List Word) → Holds (Items ts ps) p → HoldsBehind (step (Items ts ps) w) (p ++ w ∷ [])
items_holds ts ps word.Table p t = λ name u a b file. simp append_assoc (t (word.Table ∷ word.Name name ∷ Semicolon ∷ u) (name ∷ a) b (grammar.table file))
items_holds ts ps word.Proc p t = λ name us params are.
    braced (λ body. Items ts (ps ++ record { name = name; params = params; body = body } ∷ [])) (p ++ word.Proc ∷ [] ++ word.Name name ∷ [] ++ OpenParen ∷ [] ++ us ++ CloseParen ∷ []) (λ vs body is. λ u a b file.
    simp append_assoc (simp append_assoc at (t (word.Proc ∷ word.Name name ∷ OpenParen ∷ us ++ CloseParen ∷ vs ++ u) a (record { name = name; params = params; body = body } ∷ b) (grammar.proc (grammar.procedure are is) file))))
items_holds ts ps _ p t = tt

params_holds : (k : List (List ℕ) → Goal) (w : Word) (p : List Word) → Holds (Params k) p → HoldsBehind (step (Params k) w) (p ++ w ∷ [])
params_holds k (word.Name name) p t = (t (word.Name name ∷ []) (name ∷ []) (some last), λ u more are. simp append_assoc (simp append_assoc at (t (word.Name name ∷ Comma ∷ u) (name ∷ more) (some (listed are)))))
params_holds k CloseParen p t = rw append-nil at (t [] [] AreParams.none)
params_holds k _ p t = tt

listed_holds : (names : List (List ℕ)) (k : List (List ℕ) → Goal) (w : Word) (p : List Word) → Holds (Listed names k) p → HoldsBehind (step (Listed names k) w) (p ++ w ∷ [])
listed_holds names k Comma p t = λ name. (
  simp append_assoc (simp append_assoc at (t.1 (word.Name name ∷ []) (name ∷ []) last)),
  λ u more are. simp append_assoc (simp append_assoc at (t.1 (word.Name name ∷ Comma ∷ u) (name ∷ more) (listed are))),
)
listed_holds names k CloseParen p t = t.0
listed_holds names k _ p t = tt

named_holds : (k : List ℕ → Goal) (w : Word) (p : List Word) → Holds (Named k) p → HoldsBehind (step (Named k) w) (p ++ w ∷ [])
named_holds k (word.Name name) p t = t name
named_holds k _ p t = tt

numbered_holds : (k : ℕ → Goal) (w : Word) (p : List Word) → Holds (Numbered k) p → HoldsBehind (step (Numbered k) w) (p ++ w ∷ [])
numbered_holds k (word.Number n) p t = t n
numbered_holds k _ p t = tt

valued_holds : (set : Expression → Goal) (get : RowPlace → Goal) (w : Word) (p : List Word) → Holds (Valued set get) p → HoldsBehind (step (Valued set get) w) (p ++ w ∷ [])
valued_holds set get word.Get p t = placed (λ place. Fixed SemicolonMark (get place)) (p ++ word.Get ∷ []) (λ u place is. simp append_assoc (simp append_assoc at (t.1 u place is)))
valued_holds set get w p t = first_holds SemicolonMark set w p t.0

tested_holds : (e : Expression) (body : Statements) (ss : List Statement) (k : Statements → Goal) (w : Word) (p : List Word) → Holds (Tested e body ss k) p → HoldsBehind (step (Tested e body ss k) w) (p ++ w ∷ [])
tested_holds e body ss k word.Else p t = braced (λ other. with_statement ss k (tree.IfElse e body other)) (p ++ word.Else ∷ []) (λ v other is. rw append_assoc (t.1 v other is))
tested_holds e body ss k w p t = within_holds (ss ++ tree.If e body ∷ []) k p t.0 w

step_holds : (g : Goal) (w : Word) (p : List Word) → Holds g p → HoldsBehind (step g w) (p ++ w ∷ [])
step_holds (Items ts ps) w p t = items_holds ts ps w p t
step_holds (Fixed m g) w p t = fixed_holds m g w p t (marks m w) refl
step_holds (Named k) w p t = named_holds k w p t
step_holds (Numbered k) w p t = numbered_holds k w p t
step_holds (Params k) w p t = params_holds k w p t
step_holds (Listed names k) w p t = listed_holds names k w p t
step_holds (Operand fs m k) w p t = subst (λ z. HoldsBehind (operand_step fs m k w) (z ++ w ∷ [])) (sym t.2) (operand_holds m k fs w t.0 t.1 t.3 t.4)
step_holds (Operator e fs m k) w p t = subst (λ z. HoldsBehind (operator_step e fs m k w) (z ++ w ∷ [])) (sym t.3) (operator_holds m k e fs t.0 t.1 t.2 t.4 t.5 t.6 w)
step_holds (Valued set get) w p t = valued_holds set get w p t
step_holds (Within ss k) w p t = within_holds ss k p t w
step_holds (Tested e body ss k) w p t = tested_holds e body ss k w p t

behind_holds : (o : Option Goal) (ws p : List Word) → HoldsBehind o p → ((h : Goal) → Holds h p → HoldsBehind (after h ws) (p ++ ws)) → HoldsBehind (option_and_then (λ h. after h ws) o) (p ++ ws)
behind_holds None ws p t more = tt
behind_holds (Some h) ws p t more = more h t

-- what holds before the words holds behind them
pub after_holds : (ws : List Word) (g : Goal) (p : List Word) → Holds g p → HoldsBehind (after g ws) (p ++ ws)
after_holds [] g p t = moved g p (p ++ []) (sym (append-nil p)) t
after_holds (w ∷ ws) g p t = subst (HoldsBehind (after g (w ∷ ws))) (append_assoc p (w ∷ []) ws) (behind_holds (step g w) ws (p ++ w ∷ []) (step_holds g w p t) (λ h held. after_holds ws h (p ++ w ∷ []) held))
