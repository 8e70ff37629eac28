-- The search for the first error, one table, procedure and statement after the other. A set of names is a list of them in order.
use Rattle.std.specs.Prelude.{◌≡◌, ℕ, ◌+◌, ◌*◌, Bool, false, not, ◌&&◌, ◌||◌, if◌then◌else◌, nat_eq, nat_lt, List, [], ◌∷◌, map, length, Option, None, Some, Result, Ok, Err}
use Rattle.std.specs.List.{list_any, list_all}
use Rattle.std.specs.Ordering.{nat_cmp}
use Rattle.std.specs.Cmp.Lexicographic.{slice_cmp}
use Rattle.std.specs.BTreeMap.{is_at}
use Rattle.std.specs.BTreeSet.{insert_key}
use Rattle.coco_ast.specs.declared.error.CheckError.{CheckError}
use Rattle.coco_ast.specs.declared.error.CheckKind.{CheckKind}
use Rattle.coco_ast.specs.declared.error.CheckKind.TheVariants.{UnknownName, Twice, TooManyKeys, RepeatBound, NoReply}
use Rattle.coco_ast.specs.Tree.{Statement, Let, Get, Put, Delete, If, IfElse, Repeat, Refuse, Reply, Statements, Procedure, Procedures}
use Rattle.coco_ast.specs.Builtins.{builtins}
use Rattle.coco_ast.specs.Checks.{Placed, own_tables, own_variables, set_by, statements_in, counted_weight, ends}
use Rattle.coco_types.specs.declared.limits.TheConstants.{MOST_BOUND, MOST_KEYS, MOST_TURNS}
use Rattle.coco_check.specs.declared.fault.BodyFault.{BodyFault}
use Rattle.coco_check.specs.declared.fault.BodyFault.TheVariants as body
use Rattle.coco_check.specs.declared.fault.CheckFault.{CheckFault}
use Rattle.coco_check.specs.declared.fault.CheckFault.TheVariants as whole

abbrev pub Names : Type 0
Names = List (List ℕ)

-- ---- sets of names

abbrev pub has : Names → List ℕ → Bool
has names x = list_any (is_at (slice_cmp nat_cmp x)) names

abbrev pub has_all : Names → Names → Bool
has_all names xs = list_all (has names) xs

abbrev pub with_name : Names → List ℕ → Names
with_name names x = insert_key (slice_cmp nat_cmp) names x

abbrev pub with_names : Names → Names → Names
with_names names [] = names
with_names names (x ∷ xs) = with_names (with_name names x) xs

-- the set with these names, or the place of the first of them that is there before
abbrev pub adding : Names → ℕ → Names → Result Names ℕ
adding names i [] = Ok names
adding names i (x ∷ xs) = if has names x then Err i else adding (with_name names x) (i + 1) xs

-- the same, told by the set and that place
abbrev pub added : Names → Option ℕ → Result Names ℕ
added names None = Ok names
added names (Some i) = Err i

-- ---- one statement

abbrev pub is_bad_bound : ℕ → ℕ → Bool
is_bad_bound around n = nat_eq n 0 || (nat_lt MOST_BOUND n || nat_lt MOST_TURNS (around * n))

abbrev pub repeats_badly : ℕ → Statement → Bool
repeats_badly around (Let x e) = false
repeats_badly around (Get x p) = false
repeats_badly around (Put p e) = false
repeats_badly around (Delete p) = false
repeats_badly around (If e then_part) = false
repeats_badly around (IfElse e then_part else_part) = false
repeats_badly around (Repeat n x body) = is_bad_bound around n
repeats_badly around (Refuse n) = false
repeats_badly around (Reply e) = false

abbrev pub knows_names : Names → Names → Statement → Bool
knows_names tables known s = has_all tables (own_tables s) && has_all known (own_variables s)

abbrev pub kind_at : Names → Names → Placed → Option CheckKind
kind_at tables known s =
    if knows_names tables known s.statement then (if repeats_badly s.around s.statement then Some RepeatBound else None) else Some UnknownName

-- ---- the statements of a body

-- the number of the last statement, and the variables known behind it
pub record Walk : Type 0 where
  pub last : ℕ
  pub known : Names

abbrev pub stepped : Walk → Statement → Walk
stepped w s = record { last = w.last + 1; known = with_names w.known (set_by s) }

-- where a statement is wrong, and how
abbrev pub Fault : Type 0
Fault = ℕ × CheckKind

abbrev pub step_of : Option CheckKind → Walk → Statement → Result Walk Fault
step_of None w s = Ok (stepped w s)
step_of (Some kind) w s = Err (w.last + 1, kind)

abbrev pub and_then : Result Walk Fault → (Walk → Result Walk Fault) → Result Walk Fault
and_then (Ok w) f = f w
and_then (Err e) f = Err e

abbrev pub step : Names → Walk → Placed → Result Walk Fault
step tables w s = step_of (kind_at tables w.known s) w s.statement

abbrev pub walk : Names → Walk → List Placed → Result Walk Fault
walk tables w [] = Ok w
walk tables w (s ∷ ss) = and_then (step tables w s) (λ v. walk tables v ss)

-- ---- a procedure

abbrev pub header_kind : Bool → Statements → Option CheckKind
header_kind is_twice body =
    if is_twice then Some Twice else (if nat_lt MOST_KEYS (counted_weight body) then Some (TooManyKeys (counted_weight body)) else (if ends body then None else Some NoReply))

abbrev pub fault_of : Result Walk Fault → Option Fault
fault_of (Ok w) = None
fault_of (Err e) = Some e

abbrev pub body_fault : Names → Names → Procedure → Option Fault
body_fault tables params p = fault_of (walk tables (record { last = 0; known = params }) (statements_in p))

-- a kind that is wrong with the procedure as a whole comes before its statements
abbrev pub header_fault : Option CheckKind → Option Fault → Option Fault
header_fault None behind = behind
header_fault (Some kind) behind = Some (0, kind)

-- the procedure's first fault, where its name is a new one or not, and its parameters make this set or not
abbrev pub procedure_fault : Names → Bool → Result Names ℕ → Procedure → Option Fault
procedure_fault tables is_new (Err i) p = Some (0, Twice)
procedure_fault tables is_new (Ok params) p = header_fault (header_kind (not is_new) p.body) (body_fault tables params p)

-- ---- tables and procedures

abbrev pub error_at : ℕ → Fault → CheckError
error_at item f = record { item = item; statement = f.0; kind = f.1 }

abbrev pub error_before : ℕ → Option Fault → Option CheckError → Option CheckError
error_before item None behind = behind
error_before item (Some f) behind = Some (error_at item f)

-- the first error of procedures, the first of which is this item, behind procedures of these names
abbrev pub first_of_procedures : Names → Names → ℕ → List Procedure → Option CheckError
first_of_procedures tables names item [] = None
first_of_procedures tables names item (p ∷ ps) =
    error_before item (procedure_fault tables (not (has names p.name)) (adding [] 0 p.params) p) (first_of_procedures tables (with_name names p.name) (item + 1) ps)

abbrev pub built_in_tables : Names
built_in_tables = with_names [] builtins.tables

abbrev pub built_in_names : Names
built_in_names = with_names [] (map (λ p. p.name) builtins.procs)

-- the first error, where the tables make this set or not
abbrev pub error_behind : Procedures → Result Names ℕ → Option CheckError
error_behind t (Err i) = Some (error_at (i + 1) (0, Twice))
error_behind t (Ok tables) = first_of_procedures tables built_in_names (length t.tables + 1) t.procs

abbrev pub first_error : Procedures → Option CheckError
first_error t = error_behind t (adding built_in_tables 0 t.tables)

-- ---- what a search answered, but for want of memory

abbrev pub IsFaultFound : BodyFault → Option Fault → Type 0
IsFaultFound (body.Refused n kind) found = found ≡ Some (n, kind)
IsFaultFound body.NoMemory found = Unit {0}

abbrev pub Finds : {A : Type 0} → Result A BodyFault → Option Fault → Type 0
Finds (Ok x) found = found ≡ None
Finds (Err fault) found = IsFaultFound fault found

abbrev pub IsErrorFound : CheckFault → Option CheckError → Type 0
IsErrorFound (whole.Refused e) found = found ≡ Some e
IsErrorFound whole.NoMemory found = Unit {0}

abbrev pub FindsError : {A : Type 0} → Result A CheckFault → Option CheckError → Type 0
FindsError (Ok x) found = found ≡ None
FindsError (Err fault) found = IsErrorFound fault found

-- the fault as one of an item
abbrev pub fault_at : ℕ → BodyFault → CheckFault
fault_at item (body.Refused n kind) = whole.Refused (error_at item (n, kind))
fault_at item body.NoMemory = whole.NoMemory
