-- Small bodies, and what the words of the check come to for them.
use Rattle.std.specs.Prelude.{◌≡◌, ℕ, Bool, true, false, List, [], ◌∷◌, map, codes, pos}
use Rattle.coco_ast.specs.Tree.{Expression, Number, Variable, Not, Two, Add, RowPlace, Let, Get, Put, Delete, If, IfElse, Repeat, Refuse, Reply, Statements, End, Then, Procedure}
use Rattle.coco_ast.specs.Builtins.{add_proc}
use Rattle.coco_ast.specs.Checks.{counted_weight, ends, statements_in, known_at, own_variables, own_tables}

abbrev pub zero_expression : Expression
zero_expression = Number (pos 0)

abbrev pub place : RowPlace
place = record { table = codes "t"; row = Variable (codes "r") }

-- delete t[r];
abbrev pub deletes : Statements → Statements
deletes rest = Then (Delete place) rest

-- if 0 { .. } else { .. }
abbrev pub chooses : Statements → Statements → Statements → Statements
chooses then_part else_part rest = Then (IfElse zero_expression then_part else_part) rest

-- repeat n as i { .. }
abbrev pub repeats : ℕ → Statements → Statements → Statements
repeats n body rest = Then (Repeat n (codes "i") body) rest

abbrev pub replies : Statements
replies = Then (Reply zero_expression) End

abbrev pub refuses : Statements
refuses = Then (Refuse 1) End

-- the weight of each body
abbrev pub weights : List (Statements × ℕ)
weights =
    (End, 0)
    ∷ (replies, 0)
    ∷ (add_proc.body, 2)
    ∷ (deletes (Then (Get (codes "x") place) (Then (Put place zero_expression) End)), 3)
    -- the greater of the blocks of an `if`, not both
    ∷ (chooses (deletes End) (deletes (deletes End)) End, 2)
    ∷ (chooses (deletes (deletes (deletes End))) (deletes End) (deletes End), 4)
    ∷ (Then (If zero_expression (deletes End)) (deletes End), 2)
    -- each turn of a `repeat`; a bound of 0 has none
    ∷ (repeats 64 (deletes End) End, 64)
    ∷ (repeats 64 (deletes End) (deletes End), 65)
    ∷ (repeats 0 (deletes End) (deletes End), 1)
    ∷ (repeats 3 (repeats 5 (deletes (deletes End)) End) End, 30)
    -- behind a `reply`, too
    ∷ (Then (Reply zero_expression) (deletes End), 1)
    ∷ (repeats 1000000 (deletes End) End, 1000000)
    ∷ (repeats 1000001 (deletes End) (deletes End), 1000000)
    ∷ (repeats 9223372036854775807 (repeats 9223372036854775807 (deletes End) End) End, 1000000)
    ∷ (repeats 0 (repeats 9223372036854775807 (deletes End) End) End, 0)
    ∷ []

-- whether each body ends
abbrev pub endings : List (Statements × Bool)
endings =
    (End, false)
    ∷ (replies, true)
    ∷ (refuses, true)
    ∷ (add_proc.body, true)
    ∷ (deletes End, false)
    ∷ (Then (Reply zero_expression) (deletes End), true)
    ∷ (chooses replies refuses End, true)
    ∷ (chooses replies End End, false)
    ∷ (chooses End replies End, false)
    ∷ (chooses replies (chooses refuses replies End) (deletes End), true)
    ∷ (Then (If zero_expression replies) End, false)
    ∷ (Then (If zero_expression replies) refuses, true)
    ∷ (repeats 1 replies End, false)
    ∷ []

-- the products of the bounds around the statements, in the order of the text
abbrev pub arounds : List (Statements × List ℕ)
arounds =
    (repeats 3 (repeats 5 (deletes End) (deletes End)) (deletes End), 1 ∷ 3 ∷ 15 ∷ 3 ∷ 1 ∷ [])
    ∷ (chooses (repeats 2 replies End) (deletes End) replies, 1 ∷ 1 ∷ 2 ∷ 1 ∷ 1 ∷ [])
    ∷ []

abbrev pub of_body : Statements → Procedure
of_body body = record { name = codes "p"; params = codes "r" ∷ []; body = body }

-- let x = x; repeat 2 as i { let y = get t[r]; } put t[i] = y + z;
abbrev pub setting : Procedure
setting =
    of_body (Then (Let (codes "x") (Variable (codes "x"))) (repeats 2 (Then (Get (codes "y") place) End)
    (Then (Put (record { table = codes "t"; row = Variable (codes "i") }) (Two Add (Variable (codes "y")) (Not (Variable (codes "z"))))) End)))

pub record CheckExamples : Type 0 where
  pub weights : map (λ r. counted_weight r.0) weights ≡ map (λ r. r.1) weights
  pub endings : map (λ r. ends r.0) endings ≡ map (λ r. r.1) endings
  pub arounds : map (λ r. map (λ s. s.around) (statements_in (of_body r.0))) arounds ≡ map (λ r. r.1) arounds
  -- a variable isn't known within its own first `let`; a counter is known within its block
  pub known : map (known_at setting) (0 ∷ 1 ∷ 2 ∷ 3 ∷ []) ≡
      (codes "r" ∷ []) ∷ (codes "r" ∷ codes "x" ∷ []) ∷ (codes "r" ∷ codes "x" ∷ codes "i" ∷ []) ∷ (codes "r" ∷ codes "x" ∷ codes "i" ∷ codes "y" ∷ []) ∷ []
  -- what a statement's own expressions name is neither what its blocks name nor what it sets
  pub variables : map (λ s. own_variables s.statement) (statements_in setting) ≡
      (codes "x" ∷ []) ∷ [] ∷ (codes "r" ∷ []) ∷ (codes "i" ∷ codes "y" ∷ codes "z" ∷ []) ∷ []
  pub tables : map (λ s. own_tables s.statement) (statements_in setting) ≡ [] ∷ [] ∷ (codes "t" ∷ []) ∷ (codes "t" ∷ []) ∷ []
