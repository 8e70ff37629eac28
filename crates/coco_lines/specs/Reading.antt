-- What one line asks of the procedures of a tree, and by which error its reading refuses it.
use Rattle.std.specs.Prelude.{ℕ, ◌+◌, ◌==◌, ◌&&◌, ◌||◌, List, [], ◌∷◌, ◌++◌, length, Bool, true, false, nat_le, if◌then◌else◌, Option, Some, None, option_map, option_and_then, codes}
use Rattle.std.specs.Option.{is_none}
use Rattle.std.specs.Str.{is_utf8, bytes_eq}
use Rattle.serde_json.specs.Data.{Data, null, boolean, number, string, array, object, Items, no_items, item, Members, no_members, member}
use Rattle.serde_json.specs.Events.{items_len}
use Rattle.serde_json.specs.Find.{get, as_array, as_bool, as_number, as_object, as_str, as_i64, as_u64}
use Rattle.serde_json.specs.Read.{read}
use Rattle.coco_types.specs.Limits.{most_text_bytes}
use Rattle.coco_types.specs.declared.value.Value.{Value}
use Rattle.coco_types.specs.declared.value.Value.TheVariants.{Int, Text}
use Rattle.coco_types.specs.declared.call.Request.{Request}
use Rattle.coco_ast.specs.Fitting.{any_writes}
use Rattle.coco_ast.specs.Meaning.{procedure_at}
use Rattle.coco_ast.specs.Tree.{Procedure, Procedures}
use Rattle.coco_lines.specs.declared.error.LineError.{LineError}
use Rattle.coco_lines.specs.declared.error.LineError.TheVariants as error

-- ---- a JSON value as a request

-- the value that a line's bytes are, where they are UTF-8 and one JSON text
abbrev pub json_of : List ℕ → Option Data
json_of line = if is_utf8 line then read line else None

-- the members of a request
pub record Asked : Type 0 where
  pub args : Items
  pub call : List ℕ
  pub id : ℕ
  pub snapshot : Bool

abbrev pub is_member : List ℕ → Bool
is_member key = bytes_eq key (codes "args") || bytes_eq key (codes "call") || bytes_eq key (codes "id") || bytes_eq key (codes "snapshot")

-- each key is that of a member of a request
abbrev pub only_members : Members → Bool
only_members no_members = true
only_members (member key value others) = is_member key && only_members others

-- a snapshot is asked for only where the line says so
abbrev pub snapshot_of : Option Data → Option Bool
snapshot_of None = Some false
snapshot_of (Some value) = as_bool value

-- what an object asks for, where its members are those of a request, each of its kind
abbrev pub asked_of : Data → Option Asked
asked_of value =
    option_and_then (λ members. if only_members members then
    option_and_then (λ args. option_and_then (λ call. option_and_then (λ id. option_map (λ snapshot.
    record { args = args; call = call; id = id; snapshot = snapshot })
    (snapshot_of (get (codes "snapshot") value)))
    (option_and_then as_u64 (option_and_then as_number (get (codes "id") value))))
    (option_and_then as_str (get (codes "call") value)))
    (option_and_then as_array (get (codes "args") value))
    else None) (as_object value)

-- the first procedure of this name, with its number, where the first of the list has number n
abbrev pub find_from : ℕ → List Procedure → List ℕ → Option (ℕ × Procedure)
find_from n [] name = None
find_from n (p ∷ ps) name = if bytes_eq p.name name then Some (n, p) else find_from (n + 1) ps name

abbrev pub find_named : Procedures → List ℕ → Option (ℕ × Procedure)
find_named procs name = find_from 0 procs.procs name

-- an argument: null is none; a whole number of 64 bits with a sign, or a text of at most 256 bytes
abbrev pub arg_of : Data → Option (Option Value)
arg_of null = Some None
arg_of (boolean _) = None
arg_of (number n) = option_map (λ i. Some (Int i)) (as_i64 n)
arg_of (string s) = if nat_le (length s) most_text_bytes then Some (Some (Text s)) else None
arg_of (array _) = None
arg_of (object _) = None

abbrev pub args_of : Items → Option (List (Option Value))
args_of no_items = Some []
args_of (item value others) = option_and_then (λ arg. option_map (λ args. arg ∷ args) (args_of others)) (arg_of value)

-- as many arguments as there are parameters
abbrev pub fitting_args : ℕ → Items → Option (List (Option Value))
fitting_args params items = if items_len items == params then args_of items else None

-- the request, where a procedure has the name and the arguments fit its parameters
abbrev pub request_of : Procedures → Asked → Option Request
request_of procs asked =
    option_and_then (λ (found : ℕ × Procedure). option_map (λ args.
    record { id = asked.id; call = record { proc_no = found.0; args = args; snapshot = asked.snapshot } })
    (fitting_args (length found.1.params) asked.args)) (find_named procs asked.call)

-- ---- the tests of a reading

abbrev pub asked_in : Option Data → Option Asked
asked_in value = option_and_then asked_of value

abbrev pub named_in : Procedures → Option Data → Option (ℕ × Procedure)
named_in procs value = option_and_then (λ (asked : Asked). find_named procs asked.call) (asked_in value)

abbrev pub request_in : Procedures → Option Data → Option Request
request_in procs value = option_and_then (request_of procs) (asked_in value)

abbrev pub has_writes : Option Procedure → Bool
has_writes None = false
has_writes (Some p) = any_writes p.body

-- a snapshot call of a procedure that writes
abbrev pub is_forbidden : Procedures → Option Request → Bool
is_forbidden procs None = false
is_forbidden procs (Some r) = r.call.snapshot && has_writes (procedure_at procs.procs r.call.proc_no)

-- the first whose test holds
abbrev pub first_that_fits : {A : Type 0} → List (Bool × A) → Option A
first_that_fits [] = None
first_that_fits (t ∷ ts) = if t.0 then Some t.1 else first_that_fits ts

-- the errors that a line may have as a request of these procedures, each with its test, in the order in which they are tried
abbrev pub asking_tests : Procedures → Option Data → List (Bool × LineError)
asking_tests procs value =
    (is_none value, error.Json) ∷ (is_none (asked_in value), error.Shape) ∷ (is_none (named_in procs value), error.Name) ∷ (is_none (request_in procs value), error.Args) ∷ []

-- and behind them that of a snapshot call
abbrev pub reading_tests : Procedures → Option Data → List (Bool × LineError)
reading_tests procs value = asking_tests procs value ++ (is_forbidden procs (request_in procs value), error.Snapshot) ∷ []

-- the request that a line asks for, which may be a snapshot call of any procedure
unfoldable pub request_on : Procedures → List ℕ → Option Request
request_on procs line = request_in procs (json_of line)

-- the first error of a line that isn't long, but for the test of snapshot calls
unfoldable pub asking_error : Procedures → List ℕ → Option LineError
asking_error procs line = first_that_fits (asking_tests procs (json_of line))

-- the first error of a line that isn't long
unfoldable pub reading_error : Procedures → List ℕ → Option LineError
reading_error procs line = first_that_fits (reading_tests procs (json_of line))
