-- The machine reads every file of the grammar, whole.
use Rattle.std.proofs.Common.{◌≡◌, ℕ, List, [], ◌∷◌, ◌++◌, Some, refl, ap, sym, ◌∙◌, append_assoc, append-nil}
use Rattle.coco_ast.specs.Tree.{Expression, RowPlace, Statement, Statements, End, Then, Procedure}
use Rattle.coco_ast.specs.Tree as tree
use Rattle.coco_ast.specs.Views.{statements_from}
use Rattle.coco_parse.specs.Grammar.{Level, IsExpression, plain, joined, compared, inverted, negated, number, text, variable, enclosed, IsWhole, IsPlace, row, IsStatement, sets, gets, puts, deletes, tests, chooses, repeats, refuses, replies, IsBlock, braces, AreStatements, end, next, AreListed, last, listed, AreParams, none, some, IsProcedure, procedure, IsFile, table, proc}
use Rattle.coco_parse.specs.Grammar as grammar
use Rattle.coco_parse.specs.Machine.{Mark, mark_word, Goal, Items, Fixed, Named, Params, Listed, Operand, Valued, Within, Tested, BraceMark, EndBracketMark, SemicolonMark, AssignMark, at_place, in_braces, with_statement, after}
use Rattle.coco_parse.specs.declared.word.Word.{Word}
use Rattle.coco_parse.specs.declared.word.Word.TheVariants as word
use Rattle.coco_parse.specs.declared.word.Word.TheVariants.{Two, CloseBrace, CloseParen, Semicolon, Assign}
use Rattle.coco_parse.proofs.Expressions.{whole-complete}

-- ---- what stands in statements

whole-ended : {ws : List Word} {e : Expression} → IsWhole ws e → (m : Mark) (k : Expression → Goal) (v : List Word) → after (Operand [] m k) (ws ++ mark_word m ∷ [] ++ v) ≡ after (k e) v
whole-ended h m k v = simp append_assoc (whole-complete h m k v)

place-complete : {ws : List Word} {p : RowPlace} → IsPlace ws p → (k : RowPlace → Goal) (v : List Word) → after (at_place k) (ws ++ v) ≡ after (k p) v
place-complete (row {table = t} h) k v = whole-ended h EndBracketMark (λ e. k (record { table = t; row = e })) v

place-ended : {ws : List Word} {p : RowPlace} → IsPlace ws p → (k : RowPlace → Goal) (v : List Word) → after (at_place (λ q. Fixed SemicolonMark (k q))) (ws ++ Semicolon ∷ [] ++ v) ≡ after (k p) v
place-ended h k v = simp append_assoc (place-complete h (λ q. Fixed SemicolonMark (k q)) (Semicolon ∷ v))

put-complete : {us vs : List Word} {p : RowPlace} {e : Expression} → IsPlace us p → IsWhole vs e → (k : RowPlace → Expression → Goal) (v : List Word)
    → after (at_place (λ q. Fixed AssignMark (Operand [] SemicolonMark (k q)))) (us ++ Assign ∷ vs ++ Semicolon ∷ [] ++ v) ≡ after (k p e) v
put-complete {vs = vs} {p = p} h i k v =
    simp append_assoc (place-complete h (λ q. Fixed AssignMark (Operand [] SemicolonMark (k q))) (Assign ∷ vs ++ Semicolon ∷ v) ∙ whole-complete i SemicolonMark (k p) v)

-- an expression doesn't begin with `get`
valued : {l : Level} {ws : List Word} {d : Expression} → IsExpression l ws d → (set : Expression → Goal) (get : RowPlace → Goal) (v : List Word)
    → after (Valued set get) (ws ++ v) ≡ after (Operand [] SemicolonMark set) (ws ++ v)
valued (plain w h) set get v = valued h set get v
valued (joined {op = op} {us = us} {vs = vs} j w h i) set get v = simp append_assoc (valued h set get (Two op ∷ vs ++ v))
valued (compared {op = op} {us = us} {vs = vs} c h i) set get v = simp append_assoc (valued h set get (Two op ∷ vs ++ v))
valued (inverted h) set get v = refl
valued (negated h) set get v = refl
valued number set get v = refl
valued text set get v = refl
valued grammar.none set get v = refl
valued variable set get v = refl
valued (enclosed h) set get v = refl

value-ended : {ws : List Word} {e : Expression} → IsWhole ws e → (set : Expression → Goal) (get : RowPlace → Goal) (v : List Word)
    → after (Valued set get) (ws ++ Semicolon ∷ [] ++ v) ≡ after (set e) v
value-ended h set get v = simp append_assoc (valued h set get (Semicolon ∷ v) ∙ whole-complete h SemicolonMark set v)

-- an expression and the block behind it
tested-block : {us ws : List Word} {e : Expression} {body : Statements} → IsWhole us e → IsBlock ws body → (k : Expression → Statements → Goal) (v : List Word)
    → after (in_braces (k e)) (ws ++ v) ≡ after (k e body) v → after (Operand [] BraceMark (λ d. Within [] (k d))) (us ++ (ws ++ v)) ≡ after (k e body) v
tested-block h (braces {ws = ws} b) k v block = whole-complete h BraceMark (λ d. Within [] (k d)) (ws ++ CloseBrace ∷ [] ++ v) ∙ block

three_joined : (us vs ws xs : List Word) → us ++ vs ++ ws ++ xs ≡ us ++ (vs ++ (ws ++ xs))
three_joined us vs ws xs = simp append_assoc

-- ---- statements

-- what may follow a statement: some word, and no `else`
abbrev NoElse : List Word → Type 0
NoElse [] = ⊥
NoElse (word.Else ∷ ws) = ⊥
NoElse (w ∷ ws) = Unit {0}

statement-no-else : {us : List Word} {s : Statement} → IsStatement us s → (v : List Word) → NoElse (us ++ v)
statement-no-else (sets h) v = tt
statement-no-else (gets h) v = tt
statement-no-else (puts h i) v = tt
statement-no-else (deletes h) v = tt
statement-no-else (tests h b) v = tt
statement-no-else (chooses h b c) v = tt
statement-no-else (repeats b) v = tt
statement-no-else refuses v = tt
statement-no-else (replies h) v = tt

statements-no-else : {ws : List Word} {body : Statements} → AreStatements ws body → (v : List Word) → NoElse (ws ++ CloseBrace ∷ v)
statements-no-else end v = tt
statements-no-else (next {us = us} {vs = vs} h t) v = simp append_assoc (statement-no-else h (vs ++ CloseBrace ∷ v))

-- without an `else` the first block was the whole statement
no-second-block : (e : Expression) (body : Statements) (ss : List Statement) (k : Statements → Goal) (v : List Word) → NoElse v
    → after (Tested e body ss k) v ≡ after (Within (ss ++ tree.If e body ∷ []) k) v
no-second-block e body ss k [] h = absurd h
no-second-block e body ss k (word.Else ∷ v) h = absurd h
no-second-block e body ss k (w ∷ v) h = refl

-- statements before others
abbrev before : List Statement → Statements → Statements
before [] body = body
before (s ∷ ss) body = Then s (before ss body)

before-end : (ss : List Statement) → before ss End ≡ statements_from ss
before-end [] = refl
before-end (s ∷ ss) = ap (Then s) (before-end ss)

before-append : (ss : List Statement) (s : Statement) (body : Statements) → before (ss ++ s ∷ []) body ≡ before ss (Then s body)
before-append [] s body = refl
before-append (r ∷ ss) s body = ap (Then r) (before-append ss s body)

mutual
  statement-complete : {us : List Word} {s : Statement} → IsStatement us s → (ss : List Statement) (k : Statements → Goal) (v : List Word) → NoElse v
      → after (Within ss k) (us ++ v) ≡ after (Within (ss ++ s ∷ []) k) v
  statement-complete (sets {x = x} h) ss k v f = value-ended h (λ e. with_statement ss k (tree.Let x e)) (λ p. with_statement ss k (tree.Get x p)) v
  statement-complete (gets {x = x} h) ss k v f = place-ended h (λ p. with_statement ss k (tree.Get x p)) v
  statement-complete (puts h i) ss k v f = put-complete h i (λ p e. with_statement ss k (tree.Put p e)) v
  statement-complete (deletes h) ss k v f = place-ended h (λ p. with_statement ss k (tree.Delete p)) v
  statement-complete (tests {us = us} {vs = vs} {e = e} {yes = body} h b) ss k v f =
      ap (after (Operand [] BraceMark (λ d. Within [] (λ first. Tested d first ss k)))) (append_assoc us vs v)
      ∙ tested-block h b (λ d first. Tested d first ss k) v (block-complete b (λ first. Tested e first ss k) v)
      ∙ no-second-block e body ss k v f
  statement-complete (chooses {us = us} {vs = vs} {ws = ws} {e = e} {yes = body} h b c) ss k v f =
      ap (after (Operand [] BraceMark (λ d. Within [] (λ first. Tested d first ss k)))) (three_joined us vs (word.Else ∷ ws) v)
      ∙ tested-block h b (λ d first. Tested d first ss k) (word.Else ∷ ws ++ v) (block-complete b (λ first. Tested e first ss k) (word.Else ∷ ws ++ v))
      ∙ block-complete c (λ other. with_statement ss k (tree.IfElse e body other)) v
  statement-complete (repeats {n = n} {x = x} b) ss k v f = block-complete b (λ body. with_statement ss k (tree.Repeat n x body)) v
  statement-complete refuses ss k v f = refl
  statement-complete (replies h) ss k v f = whole-ended h SemicolonMark (λ e. with_statement ss k (tree.Reply e)) v

  block-complete : {ws : List Word} {body : Statements} → IsBlock ws body → (k : Statements → Goal) (v : List Word) → after (in_braces k) (ws ++ v) ≡ after (k body) v
  block-complete (braces {ws = ws} h) k v = ap (after (Within [] k)) (append_assoc ws (CloseBrace ∷ []) v) ∙ statements-complete h [] k v

  statements-complete : {ws : List Word} {body : Statements} → AreStatements ws body → (ss : List Statement) (k : Statements → Goal) (v : List Word)
      → after (Within ss k) (ws ++ CloseBrace ∷ v) ≡ after (k (before ss body)) v
  statements-complete end ss k v = ap (λ body. after (k body) v) (sym (before-end ss))
  statements-complete (next {us = us} {vs = vs} {first = first} {rest = rest} h t) ss k v =
      simp append_assoc (statement-complete h ss k (vs ++ CloseBrace ∷ v) (statements-no-else t v) ∙ statements-complete t (ss ++ first ∷ []) k v ∙ ap (λ b. after (k b) v) (before-append ss first rest))

-- ---- procedures and files

listed-complete : {ws : List Word} {names : List (List ℕ)} → AreListed ws names → (so_far : List (List ℕ)) (k : List (List ℕ) → Goal) (v : List Word)
    → after (Named (λ name. Listed (so_far ++ name ∷ []) k)) (ws ++ CloseParen ∷ v) ≡ after (k (so_far ++ names)) v
listed-complete last so_far k v = refl
listed-complete (listed {name = name} {names = names} h) so_far k v =
    listed-complete h (so_far ++ name ∷ []) k v ∙ ap (λ all. after (k all) v) (append_assoc so_far (name ∷ []) names)

params-complete : {ws : List Word} {names : List (List ℕ)} → AreParams ws names → (k : List (List ℕ) → Goal) (v : List Word) → after (Params k) (ws ++ CloseParen ∷ v) ≡ after (k names) v
params-complete none k v = refl
params-complete (some last) k v = refl
params-complete (some (listed {name = name} h)) k v = listed-complete h (name ∷ []) k v

procedure-complete : {ws : List Word} {p : Procedure} → IsProcedure ws p → (ts : List (List ℕ)) (ps : List Procedure) (v : List Word)
    → after (Items ts ps) (ws ++ v) ≡ after (Items ts (ps ++ p ∷ [])) v
procedure-complete (procedure {name = name} {us = us} {vs = vs} {params = params} h b) ts ps v =
    let ended = λ (names : List (List ℕ)) (body : Statements). Items ts (ps ++ record { name = name; params = names; body = body } ∷ []) in
    ap (after (Params (λ names. in_braces (ended names)))) (append_assoc us (CloseParen ∷ vs) v)
    ∙ params-complete h (λ names. in_braces (ended names)) (vs ++ v)
    ∙ block-complete b (ended params) v

pub items-complete : {ws : List Word} {ts : List (List ℕ)} {ps : List Procedure} → IsFile ws ts ps → (qs : List (List ℕ)) (rs : List Procedure)
    → after (Items qs rs) ws ≡ Some (Items (qs ++ ts) (rs ++ ps))
items-complete grammar.IsFile.nothing qs rs = simp append-nil refl
items-complete (table {name = name} {tables = tables} {procs = procs} h) qs rs = items-complete h (qs ++ name ∷ []) rs ∙ ap (λ all. Some (Items all (rs ++ procs))) (append_assoc qs (name ∷ []) tables)
items-complete (proc {p = p} {us = us} {vs = vs} {tables = tables} {procs = procs} h t) qs rs =
    procedure-complete h qs rs vs ∙ items-complete t qs (rs ++ p ∷ []) ∙ ap (λ all. Some (Items (qs ++ tables) all)) (append_assoc rs (p ∷ []) procs)
