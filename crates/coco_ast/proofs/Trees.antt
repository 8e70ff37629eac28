-- The trees of statements as they are made.
use Rattle.std.proofs.Common.{◌≡◌, ℕ, List, [], ◌∷◌, ◌++◌, map, None, Some, Global, sym, ap, ◌∙◌}
use Rattle.std.proofs.lemmas.List.{map-append}
use Rattle.std.specs.declared.vec.Vec.{Vec}
use Rattle.coco_ast.specs.Tree as tree
use Rattle.coco_ast.specs.Tree.{Statement}
use Rattle.coco_ast.specs.Views.{expression_of, place_of, statement_of, statements_of, statement_step}
use Rattle.coco_ast.specs.declared.tree.Expr.{Expr}
use Rattle.coco_ast.specs.declared.tree.Place.{Place}
use Rattle.coco_ast.specs.declared.tree.Stmt.{Stmt}
use Rattle.coco_ast.specs.declared.tree.Stmt.TheOpen.{Stmt-F}
use Rattle.coco_ast.specs.declared.tree.Stmt.TheFolds.{fold-roll-Stmt}
use Rattle.coco_ast.specs.declared.tree.Stmt.TheVariants.{Let, Get, Put, Delete, If, Repeat, Refuse, Reply, rolls-Let, rolls-Get, rolls-Put, rolls-Delete, rolls-If, rolls-Repeat, rolls-Refuse, rolls-Reply}

pub statement-refuse : (n : ℕ) → statement_of (Refuse n) ≡ tree.Refuse n
statement-refuse n = ap statement_of (sym (rolls-Refuse n)) ∙ fold-roll-Stmt Statement statement_step (Stmt-F.Refuse n)

pub statement-reply : (e : Expr) → statement_of (Reply e) ≡ tree.Reply (expression_of e)
statement-reply e = ap statement_of (sym (rolls-Reply e)) ∙ fold-roll-Stmt Statement statement_step (Stmt-F.Reply e)

pub statement-let : (x : List ℕ) (e : Expr) → statement_of (Let x e) ≡ tree.Let x (expression_of e)
statement-let x e = ap statement_of (sym (rolls-Let x e)) ∙ fold-roll-Stmt Statement statement_step (Stmt-F.Let x e)

pub statement-get : (x : List ℕ) (p : Place) → statement_of (Get x p) ≡ tree.Get x (place_of p)
statement-get x p = ap statement_of (sym (rolls-Get x p)) ∙ fold-roll-Stmt Statement statement_step (Stmt-F.Get x p)

pub statement-put : (p : Place) (e : Expr) → statement_of (Put p e) ≡ tree.Put (place_of p) (expression_of e)
statement-put p e = ap statement_of (sym (rolls-Put p e)) ∙ fold-roll-Stmt Statement statement_step (Stmt-F.Put p e)

pub statement-delete : (p : Place) → statement_of (Delete p) ≡ tree.Delete (place_of p)
statement-delete p = ap statement_of (sym (rolls-Delete p)) ∙ fold-roll-Stmt Statement statement_step (Stmt-F.Delete p)

pub statement-if : (test : Expr) (body : Vec Stmt Global) → statement_of (If test body None) ≡ tree.If (expression_of test) (statements_of body.items)
statement-if test body = ap statement_of (sym (rolls-If test body None)) ∙ fold-roll-Stmt Statement statement_step (Stmt-F.If test body None)

pub statement-if_else : (test : Expr) (body other : Vec Stmt Global) → statement_of (If test body (Some other)) ≡ tree.IfElse (expression_of test) (statements_of body.items) (statements_of other.items)
statement-if_else test body other = ap statement_of (sym (rolls-If test body (Some other))) ∙ fold-roll-Stmt Statement statement_step (Stmt-F.If test body (Some other))

pub statement-repeat : (n : ℕ) (x : List ℕ) (block : Vec Stmt Global) → statement_of (Repeat n x block) ≡ tree.Repeat n x (statements_of block.items)
statement-repeat n x block = ap statement_of (sym (rolls-Repeat n x block)) ∙ fold-roll-Stmt Statement statement_step (Stmt-F.Repeat n x block)

-- a block with one statement more
pub statements-push : (ts ss : List Stmt) (s : Stmt) → ts ≡ ss ++ s ∷ [] → map statement_of ts ≡ map statement_of ss ++ statement_of s ∷ []
statements-push ts ss s e = ap (map statement_of) e ∙ map-append statement_of ss (s ∷ [])
