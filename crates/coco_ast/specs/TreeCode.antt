-- Trees as data, for types whose contracts see one: a tree is written out as marks, each behind its parts, and read back over a stack.
use Rattle.std.specs.Prelude.{◌≡◌, ℕ, List, [], ◌∷◌, ◌++◌, ℤ, pos, nat_eq, if◌then◌else◌, slice_index_or, refl}
use Rattle.std.proofs.Common.{ap, ◌∙◌}
use Rattle.std.specs.Coded.{Coded, code_by, coded×, coded_ℕ, coded_ℤ, coded_list}
use Rattle.coco_ast.specs.Tree.{TwoSign, Add, Subtract, Multiply, Divide, Remainder, Equal, NotEqual, Less, AtMost, Greater, AtLeast, And, Or, Expression, Number, Quoted, None as Nothing, Variable, Not, Negate, Two, Statement, Let, Get, Put, Delete, If, IfElse, Repeat, Refuse, Reply, Statements, End, Then, Procedure, Procedures}

-- which form it is, a number of it and a name
abbrev pub Mark : Type 0
Mark = ℕ × (ℤ × List ℕ)

-- what was read so far
pub data Part : Type 0 where
  expression : Expression → Part
  block : Statements → Part
  name : List ℕ → Part

abbrev pub signs : List TwoSign
signs = Add ∷ Subtract ∷ Multiply ∷ Divide ∷ Remainder ∷ Equal ∷ NotEqual ∷ Less ∷ AtMost ∷ Greater ∷ AtLeast ∷ And ∷ Or ∷ []

abbrev pub sign_number : TwoSign → ℕ
sign_number Add = 0
sign_number Subtract = 1
sign_number Multiply = 2
sign_number Divide = 3
sign_number Remainder = 4
sign_number Equal = 5
sign_number NotEqual = 6
sign_number Less = 7
sign_number AtMost = 8
sign_number Greater = 9
sign_number AtLeast = 10
sign_number And = 11
sign_number Or = 12

abbrev pub sign_at : ℤ → TwoSign
sign_at (pos n) = slice_index_or signs n Add
sign_at _ = Add

sign_back : (s : TwoSign) → sign_at (pos (sign_number s)) ≡ s
sign_back Add = refl
sign_back Subtract = refl
sign_back Multiply = refl
sign_back Divide = refl
sign_back Remainder = refl
sign_back Equal = refl
sign_back NotEqual = refl
sign_back Less = refl
sign_back AtMost = refl
sign_back Greater = refl
sign_back AtLeast = refl
sign_back And = refl
sign_back Or = refl

abbrev pub natural : ℤ → ℕ
natural (pos n) = n
natural _ = 0

-- ---- writing

abbrev pub marks_of : Expression → List Mark
marks_of (Number n) = (0, (n, [])) ∷ []
marks_of (Quoted bytes) = (1, (pos 0, bytes)) ∷ []
marks_of Nothing = (2, (pos 0, [])) ∷ []
marks_of (Variable x) = (3, (pos 0, x)) ∷ []
marks_of (Not e) = marks_of e ++ (4, (pos 0, [])) ∷ []
marks_of (Negate e) = marks_of e ++ (5, (pos 0, [])) ∷ []
marks_of (Two sign l r) = marks_of l ++ (marks_of r ++ (6, (pos (sign_number sign), [])) ∷ [])

abbrev mutual
  pub statement_marks : Statement → List Mark
  statement_marks (Let x e) = marks_of e ++ (9, (pos 0, x)) ∷ []
  statement_marks (Get x p) = marks_of p.row ++ (8, (pos 0, p.table)) ∷ (10, (pos 0, x)) ∷ []
  statement_marks (Put p e) = marks_of p.row ++ (marks_of e ++ (11, (pos 0, p.table)) ∷ [])
  statement_marks (Delete p) = marks_of p.row ++ (12, (pos 0, p.table)) ∷ []
  statement_marks (If e a) = marks_of e ++ (block_marks a ++ (13, (pos 0, [])) ∷ [])
  statement_marks (IfElse e a b) = marks_of e ++ (block_marks a ++ (block_marks b ++ (14, (pos 0, [])) ∷ []))
  statement_marks (Repeat n x body) = block_marks body ++ (15, (pos n, x)) ∷ []
  statement_marks (Refuse n) = (16, (pos n, [])) ∷ []
  statement_marks (Reply e) = marks_of e ++ (17, (pos 0, [])) ∷ []

  pub block_marks : Statements → List Mark
  block_marks End = (7, (pos 0, [])) ∷ []
  block_marks (Then first rest) = block_marks rest ++ statement_marks first

-- ---- reading

abbrev pub read_not : List Part → List Part
read_not (expression e ∷ s) = expression (Not e) ∷ s
read_not s = s

abbrev pub read_minus : List Part → List Part
read_minus (expression e ∷ s) = expression (Negate e) ∷ s
read_minus s = s

abbrev pub read_two : TwoSign → List Part → List Part
read_two sign (expression r ∷ expression l ∷ s) = expression (Two sign l r) ∷ s
read_two sign s = s

abbrev pub read_let : List ℕ → List Part → List Part
read_let x (expression e ∷ block b ∷ s) = block (Then (Let x e) b) ∷ s
read_let x s = s

abbrev pub read_get : List ℕ → List Part → List Part
read_get x (name t ∷ expression e ∷ block b ∷ s) = block (Then (Get x (record { table = t; row = e })) b) ∷ s
read_get x s = s

abbrev pub read_put : List ℕ → List Part → List Part
read_put t (expression v ∷ expression e ∷ block b ∷ s) = block (Then (Put (record { table = t; row = e }) v) b) ∷ s
read_put t s = s

abbrev pub read_delete : List ℕ → List Part → List Part
read_delete t (expression e ∷ block b ∷ s) = block (Then (Delete (record { table = t; row = e })) b) ∷ s
read_delete t s = s

abbrev pub read_if : List Part → List Part
read_if (block a ∷ expression e ∷ block b ∷ s) = block (Then (If e a) b) ∷ s
read_if s = s

abbrev pub read_if_else : List Part → List Part
read_if_else (block c ∷ block a ∷ expression e ∷ block b ∷ s) = block (Then (IfElse e a c) b) ∷ s
read_if_else s = s

abbrev pub read_repeat : ℕ → List ℕ → List Part → List Part
read_repeat n x (block a ∷ block b ∷ s) = block (Then (Repeat n x a) b) ∷ s
read_repeat n x s = s

abbrev pub read_refuse : ℕ → List Part → List Part
read_refuse n (block b ∷ s) = block (Then (Refuse n) b) ∷ s
read_refuse n s = s

abbrev pub read_reply : List Part → List Part
read_reply (expression e ∷ block b ∷ s) = block (Then (Reply e) b) ∷ s
read_reply s = s

abbrev pub read : ℕ → ℤ → List ℕ → List Part → List Part
read form n x s =
    if nat_eq form 0 then expression (Number n) ∷ s
    else (if nat_eq form 1 then expression (Quoted x) ∷ s
    else (if nat_eq form 2 then expression Nothing ∷ s
    else (if nat_eq form 3 then expression (Variable x) ∷ s
    else (if nat_eq form 4 then read_not s
    else (if nat_eq form 5 then read_minus s
    else (if nat_eq form 6 then read_two (sign_at n) s
    else (if nat_eq form 7 then block End ∷ s
    else (if nat_eq form 8 then name x ∷ s
    else (if nat_eq form 9 then read_let x s
    else (if nat_eq form 10 then read_get x s
    else (if nat_eq form 11 then read_put x s
    else (if nat_eq form 12 then read_delete x s
    else (if nat_eq form 13 then read_if s
    else (if nat_eq form 14 then read_if_else s
    else (if nat_eq form 15 then read_repeat (natural n) x s
    else (if nat_eq form 16 then read_refuse (natural n) s
    else read_reply s))))))))))))))))

abbrev pub read_all : List Mark → List Part → List Part
read_all [] s = s
read_all (m ∷ ms) s = read_all ms (read m.0 m.1.0 m.1.1 s)

-- ---- one undoes the other

read_all-append : (ms ns : List Mark) (s : List Part) → read_all (ms ++ ns) s ≡ read_all ns (read_all ms s)
read_all-append [] ns s = refl
read_all-append (m ∷ ms) ns s = read_all-append ms ns _

expression_back : (e : Expression) (s : List Part) → read_all (marks_of e) s ≡ expression e ∷ s
expression_back (Number n) s = refl
expression_back (Quoted bytes) s = refl
expression_back Nothing s = refl
expression_back (Variable x) s = refl
expression_back (Not e) s = read_all-append (marks_of e) _ s ∙ ap read_not (expression_back e s)
expression_back (Negate e) s = read_all-append (marks_of e) _ s ∙ ap read_minus (expression_back e s)
expression_back (Two sign l r) s =
    read_all-append (marks_of l) _ s ∙ read_all-append (marks_of r) _ _
    ∙ ap (read_two (sign_at (pos (sign_number sign)))) (ap (read_all (marks_of r)) (expression_back l s) ∙ expression_back r _)
    ∙ ap (λ t. expression (Two t l r) ∷ s) (sign_back sign)

mutual
  statement_back : (t : Statement) (b : Statements) (s : List Part) → read_all (statement_marks t) (block b ∷ s) ≡ block (Then t b) ∷ s
  statement_back (Let x e) b s = read_all-append (marks_of e) _ _ ∙ ap (read_let x) (expression_back e _)
  statement_back (Get x p) b s = read_all-append (marks_of p.row) _ _ ∙ ap (λ s. read_get x (name p.table ∷ s)) (expression_back p.row _)
  statement_back (Put p e) b s = read_all-append (marks_of p.row) _ _ ∙ read_all-append (marks_of e) _ _ ∙ ap (read_put p.table) (ap (read_all (marks_of e)) (expression_back p.row _) ∙ expression_back e _)
  statement_back (Delete p) b s = read_all-append (marks_of p.row) _ _ ∙ ap (read_delete p.table) (expression_back p.row _)
  statement_back (If e a) b s = read_all-append (marks_of e) _ _ ∙ read_all-append (block_marks a) _ _ ∙ ap read_if (ap (read_all (block_marks a)) (expression_back e _) ∙ block_back a _)
  statement_back (IfElse e a c) b s =
      read_all-append (marks_of e) _ _ ∙ read_all-append (block_marks a) _ _ ∙ read_all-append (block_marks c) _ _
      ∙ ap read_if_else (ap (read_all (block_marks c)) (ap (read_all (block_marks a)) (expression_back e _) ∙ block_back a _) ∙ block_back c _)
  statement_back (Repeat n x body) b s = read_all-append (block_marks body) _ _ ∙ ap (read_repeat n x) (block_back body _)
  statement_back (Refuse n) b s = refl
  statement_back (Reply e) b s = read_all-append (marks_of e) _ _ ∙ ap read_reply (expression_back e _)

  block_back : (b : Statements) (s : List Part) → read_all (block_marks b) s ≡ block b ∷ s
  block_back End s = refl
  block_back (Then first rest) s = read_all-append (block_marks rest) _ s ∙ ap (read_all (statement_marks first)) (block_back rest s) ∙ statement_back first rest s

abbrev pub body_of : List Part → Statements
body_of (block b ∷ s) = b
body_of _ = End

-- ---- the codes

abbrev pub coded_mark : Coded Mark
coded_mark = coded× coded_ℕ (coded× coded_ℤ (coded_list coded_ℕ))

abbrev pub Written : Type 0
Written = List ℕ × (List (List ℕ) × List Mark)

abbrev pub written : Procedure → Written
written p = (p.name, (p.params, block_marks p.body))

abbrev pub read_back : Written → Procedure
read_back w = record { name = w.0; params = w.1.0; body = body_of (read_all w.1.1 []) }

abbrev pub with_body : Procedure → Statements → Procedure
with_body p body = record { name = p.name; params = p.params; body = body }

pub read_back-written : (p : Procedure) → read_back (written p) ≡ p
read_back-written p = ap (λ (s : List Part). with_body p (body_of s)) (block_back p.body [])

abbrev pub coded_procedure : Coded Procedure
coded_procedure = code_by Written (coded× (coded_list coded_ℕ) (coded× (coded_list (coded_list coded_ℕ)) (coded_list coded_mark))) written read_back read_back-written

abbrev pub procedures_code : Coded Procedures
procedures_code =
    code_by (List (List ℕ) × List Procedure) (coded× (coded_list (coded_list coded_ℕ)) (coded_list coded_procedure)) (λ t. (t.tables, t.procs))
    (λ w. record { tables = w.0; procs = w.1 }) (λ _. refl)
