-- What is wrong with the tables and the procedures of a text. The built-in ones come before all of them.
use Rattle.std.specs.Prelude.{◌≡◌, ℕ, zero, suc, ◌+◌, ◌*◌, ◌<◌, ◌≤◌, min, max, ◌⊎◌, Bool, true, false, not, ◌&&◌, ◌||◌, nat_eq, List, [], ◌∷◌, ◌++◌, map, length, take, Some, slice_get}
use Rattle.std.specs.List.{list_any, flat_map, All}
use Rattle.std.specs.Cmp.Lexicographic.{pointwise}
use Rattle.coco_types.specs.Limits.{most_arguments, most_bound, most_declared, most_keys, most_turns}
use Rattle.coco_ast.specs.declared.error.CheckError.{CheckError}
use Rattle.coco_ast.specs.declared.error.CheckKind.{CheckKind}
use Rattle.coco_ast.specs.declared.error.CheckKind.TheVariants.{UnknownName, Twice, TooManyKeys, RepeatBound, NoReply}
use Rattle.coco_ast.specs.Tree.{Expression, Number, Quoted, None as Nothing, Variable, Not, Negate, Two, Statement, Let, Get, Put, Delete, If, IfElse, Repeat, Refuse, Reply, Statements, End, Then, Procedure, Procedures}
use Rattle.coco_ast.specs.Builtins.{builtins}

-- ---- names

abbrev pub is_among : List (List ℕ) → List ℕ → Bool
is_among names x = list_any (pointwise nat_eq x) names

-- one of these names isn't known
abbrev pub has_unknown : List (List ℕ) → List (List ℕ) → Bool
has_unknown known names = list_any (λ x. not (is_among known x)) names

-- the name at this place of the list stands before it, too
abbrev pub StandsTwice : List (List ℕ) → ℕ → Type 0
StandsTwice names i = (name : List ℕ) × (slice_get names i ≡ Some name) × (is_among (take i names) name ≡ true)

abbrev pub variables_of : Expression → List (List ℕ)
variables_of (Number n) = []
variables_of (Quoted bytes) = []
variables_of Nothing = []
variables_of (Variable x) = x ∷ []
variables_of (Not e) = variables_of e
variables_of (Negate e) = variables_of e
variables_of (Two sign left right) = variables_of left ++ variables_of right

-- the variables in a statement's own expressions
abbrev pub own_variables : Statement → List (List ℕ)
own_variables (Let x e) = variables_of e
own_variables (Get x p) = variables_of p.row
own_variables (Put p e) = variables_of p.row ++ variables_of e
own_variables (Delete p) = variables_of p.row
own_variables (If e then_part) = variables_of e
own_variables (IfElse e then_part else_part) = variables_of e
own_variables (Repeat n x body) = []
own_variables (Refuse n) = []
own_variables (Reply e) = variables_of e

abbrev pub own_tables : Statement → List (List ℕ)
own_tables (Let x e) = []
own_tables (Get x p) = p.table ∷ []
own_tables (Put p e) = p.table ∷ []
own_tables (Delete p) = p.table ∷ []
own_tables (If e then_part) = []
own_tables (IfElse e then_part else_part) = []
own_tables (Repeat n x body) = []
own_tables (Refuse n) = []
own_tables (Reply e) = []

-- the variable that a statement sets, which those behind it may use
abbrev pub set_by : Statement → List (List ℕ)
set_by (Let x e) = x ∷ []
set_by (Get x p) = x ∷ []
set_by (Put p e) = []
set_by (Delete p) = []
set_by (If e then_part) = []
set_by (IfElse e then_part else_part) = []
set_by (Repeat n x body) = x ∷ []
set_by (Refuse n) = []
set_by (Reply e) = []

-- ---- the order of the text

-- a statement, and the product of the bounds of the repeats around it
pub record Placed : Type 0 where
  pub statement : Statement
  pub around : ℕ

-- the statements, those within blocks directly behind the one that they stand in
abbrev mutual
  pub and_within : ℕ → Statement → List Placed
  and_within n (Let x e) = record { statement = Let x e; around = n } ∷ []
  and_within n (Get x p) = record { statement = Get x p; around = n } ∷ []
  and_within n (Put p e) = record { statement = Put p e; around = n } ∷ []
  and_within n (Delete p) = record { statement = Delete p; around = n } ∷ []
  and_within n (If e then_part) = record { statement = If e then_part; around = n } ∷ in_order n then_part
  and_within n (IfElse e then_part else_part) = record { statement = IfElse e then_part else_part; around = n } ∷ (in_order n then_part ++ in_order n else_part)
  and_within n (Repeat m x body) = record { statement = Repeat m x body; around = n } ∷ in_order (n * m) body
  and_within n (Refuse m) = record { statement = Refuse m; around = n } ∷ []
  and_within n (Reply e) = record { statement = Reply e; around = n } ∷ []

  pub in_order : ℕ → Statements → List Placed
  in_order n End = []
  in_order n (Then first rest) = and_within n first ++ in_order n rest

abbrev pub statements_in : Procedure → List Placed
statements_in p = in_order 1 p.body

-- the variables that are known at a place of that list: the parameters, and what is set before it
abbrev pub known_at : Procedure → ℕ → List (List ℕ)
known_at p i = p.params ++ flat_map (λ s. set_by s.statement) (take i (statements_in p))

-- ---- measures

-- how many keys a run may need: the longer way of an `if`, each turn of a `repeat`
abbrev mutual
  pub statement_weight : Statement → ℕ
  statement_weight (Let x e) = 0
  statement_weight (Get x p) = 1
  statement_weight (Put p e) = 1
  statement_weight (Delete p) = 1
  statement_weight (If e then_part) = key_weight then_part
  statement_weight (IfElse e then_part else_part) = max (key_weight then_part) (key_weight else_part)
  statement_weight (Repeat n x body) = n * key_weight body
  statement_weight (Refuse n) = 0
  statement_weight (Reply e) = 0

  pub key_weight : Statements → ℕ
  key_weight End = 0
  key_weight (Then first rest) = statement_weight first + key_weight rest

-- a weight over 1,000,000 counts as that
abbrev pub counted_weight : Statements → ℕ
counted_weight body = min (key_weight body) 1000000

-- every way through it replies or refuses
abbrev mutual
  pub ends_at : Statement → Bool
  ends_at (Let x e) = false
  ends_at (Get x p) = false
  ends_at (Put p e) = false
  ends_at (Delete p) = false
  ends_at (If e then_part) = false
  ends_at (IfElse e then_part else_part) = ends then_part && ends else_part
  ends_at (Repeat n x body) = false
  ends_at (Refuse n) = true
  ends_at (Reply e) = true

  pub ends : Statements → Bool
  ends End = false
  ends (Then first rest) = ends_at first || ends rest

-- a bound that is 0 or too great, or too many turns in all
abbrev pub IsBadRepeat : Placed → Type 0
IsBadRepeat s = (n : ℕ) × (x : List ℕ) × (body : Statements) × (s.statement ≡ Repeat n x body) × ((n ≡ 0) ⊎ ((most_bound < n) ⊎ (most_turns < s.around * n)))

-- ---- errors

-- the tables and the procedures of a text, behind the built-in ones
abbrev pub behind_builtins : Procedures → Procedures
behind_builtins t = record { tables = builtins.tables ++ t.tables; procs = builtins.procs ++ t.procs }

-- the names of the procedures before this place, counted from the text's first one
abbrev pub earlier_names : Procedures → ℕ → List (List ℕ)
earlier_names t k = map (λ p. p.name) (builtins.procs ++ take k t.procs)

-- this is wrong with a procedure as a whole, behind procedures of these names
abbrev pub IsHeaderError : List (List ℕ) → Procedure → CheckKind → Type 0
IsHeaderError earlier p UnknownName = ⊥
IsHeaderError earlier p Twice = (is_among earlier p.name ≡ true) ⊎ ((i : ℕ) × StandsTwice p.params i)
IsHeaderError earlier p (TooManyKeys count) = (most_keys < key_weight p.body) × (count ≡ counted_weight p.body)
IsHeaderError earlier p RepeatBound = ⊥
IsHeaderError earlier p NoReply = ends p.body ≡ false

-- this is wrong with a statement, where these tables are declared and these variables known
abbrev pub IsStatementError : List (List ℕ) → List (List ℕ) → Placed → CheckKind → Type 0
IsStatementError tables known s UnknownName = (has_unknown tables (own_tables s.statement) || has_unknown known (own_variables s.statement)) ≡ true
IsStatementError tables known s Twice = ⊥
IsStatementError tables known s (TooManyKeys count) = ⊥
IsStatementError tables known s RepeatBound = IsBadRepeat s
IsStatementError tables known s NoReply = ⊥

-- this is wrong at a statement of a procedure, counted from 1; 0 is the procedure as a whole
abbrev pub IsErrorWithin : List (List ℕ) → List (List ℕ) → Procedure → ℕ → CheckKind → Type 0
IsErrorWithin tables earlier p zero kind = IsHeaderError earlier p kind
IsErrorWithin tables earlier p (suc i) kind = (s : Placed) × (slice_get (statements_in p) i ≡ Some s) × IsStatementError tables (known_at p i) s kind

-- an earlier table has the name of the table at this item, which is `main` at 0
pub record IsTableError (t : Procedures) (e : CheckError) : Type 0 where
  pub twice : StandsTwice (builtins.tables ++ t.tables) e.item
  pub statement : e.statement ≡ 0
  pub kind : e.kind ≡ Twice

pub record IsProcedureError (t : Procedures) (e : CheckError) : Type 0 where
  pub place : ℕ
  pub procedure : Procedure
  pub there : slice_get t.procs place ≡ Some procedure
  pub item : e.item ≡ length t.tables + (place + 1)
  pub within : IsErrorWithin (builtins.tables ++ t.tables) (earlier_names t place) procedure e.statement e.kind

-- the error holds of the text's tables and procedures, which are its items from 1 on
abbrev pub IsError : Procedures → CheckError → Type 0
IsError t e = IsTableError t e ⊎ IsProcedureError t e

abbrev pub kind_number : CheckKind → ℕ
kind_number UnknownName = 1
kind_number Twice = 2
kind_number (TooManyKeys count) = 3
kind_number RepeatBound = 4
kind_number NoReply = 5

-- by item, then by statement, then by the number of the kind
abbrev pub IsBehind : CheckError → CheckError → Type 0
IsBehind e f = (e.item < f.item) ⊎ ((e.item ≡ f.item) × ((e.statement < f.statement) ⊎ ((e.statement ≡ f.statement) × (kind_number e.kind < kind_number f.kind))))

-- every other error stands behind it
pub record IsFirstError (t : Procedures) (e : CheckError) : Type 0 where
  pub holds : IsError t e
  pub first : (f : CheckError) → IsError t f → (f ≡ e) ⊎ IsBehind e f

abbrev pub HasNoError : Procedures → Type 0
HasNoError t = (e : CheckError) → IsError t e → ⊥

-- ---- accepted trees

-- how many tables and procedures a text may have, and how many parameters each procedure
pub record IsWithinLimits (t : Procedures) : Type 0 where
  pub tables : length t.tables ≤ most_declared
  pub procs : length t.procs ≤ most_declared
  pub params : All (λ p. length p.params ≤ most_arguments) t.procs

-- the tree is that of a text without errors, behind the built-in one
pub record IsAccepted (tree : Procedures) : Type 0 where
  pub text : Procedures
  pub whole : tree ≡ behind_builtins text
  pub sound : HasNoError text
  pub limits : IsWithinLimits text
