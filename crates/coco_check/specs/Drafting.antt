-- What the parts of a procedure add to its plan.
use Rattle.std.specs.Prelude.{⊤, ℕ, List}
use Rattle.coco_ast.specs.Planning.{Adds}
use Rattle.coco_ast.specs.Tree.{Statement, Let, Get, Put, Delete, If, IfElse, Repeat, Refuse, Reply}
use Rattle.coco_check.specs.declared.draft.Draft.{Draft}

-- a part with these names was added to the plan
abbrev pub Extends : Draft → Draft → List (List ℕ) → Type 0
Extends old new part = Adds old.slots new.slots old.terms.items new.terms.items part

-- the statement has no blocks
abbrev pub IsPlain : Statement → Type 0
IsPlain (Let x e) = ⊤
IsPlain (Get x p) = ⊤
IsPlain (Put p e) = ⊤
IsPlain (Delete p) = ⊤
IsPlain (If e then_part) = ⊥
IsPlain (IfElse e then_part else_part) = ⊥
IsPlain (Repeat n x body) = ⊥
IsPlain (Refuse n) = ⊤
IsPlain (Reply e) = ⊤
