-- What the runs of the built-in procedures come to.
use Rattle.std.specs.Prelude.{◌≡◌, Bool, List, [], ◌∷◌, None, Some, Ok, Err, pos}
use Rattle.coco_types.specs.RowKey.{RowKey}
use Rattle.coco_types.specs.declared.value.Value.TheVariants.{Int}
use Rattle.coco_types.specs.declared.call.Call.{Call}
use Rattle.coco_types.specs.declared.call.Cause.{Cause}
use Rattle.coco_types.specs.declared.call.Reply.TheVariants.{Ok as Answers, Refused}
use Rattle.coco_ast.specs.Keyed.{Rows, value_at, write_at}
use Rattle.coco_ast.specs.Meaning.{Datum, Run, run, row_key, combined}
use Rattle.coco_ast.specs.Tree.{Add}
use Rattle.coco_ast.specs.Builtins.{builtins}

abbrev pub get_call : Bool → Datum → Call
get_call snapshot a = record { proc_no = 0; args = a ∷ []; snapshot = snapshot }

abbrev pub put_call : Bool → Datum → Datum → Call
put_call snapshot a v = record { proc_no = 1; args = a ∷ v ∷ []; snapshot = snapshot }

abbrev pub add_call : Bool → Datum → Datum → Call
add_call snapshot a n = record { proc_no = 2; args = a ∷ n ∷ []; snapshot = snapshot }

-- it refused, and needed these keys
abbrev pub refused : Cause → Rows → List RowKey → Run
refused c m needs = record { reply = Refused c; rows = m; needs = needs; writes = [] }

-- it answers the value that it put
abbrev pub answered : RowKey → Datum → Rows → List RowKey → Run
answered k v m needs = record { reply = Answers v; rows = write_at m k v; needs = needs; writes = record { key = k; value = v } ∷ [] }

-- a row's value, 0 where it has none
abbrev pub counted : Datum → Datum
counted None = Some (Int (pos 0))
counted (Some v) = Some v

-- the runs of the built-in procedures, on any map, by any arguments
pub record BuiltinForms (m : Rows) (snapshot : Bool) (a : Datum) : Type 0 where
  -- a place that is no row of `main` is refused before anything is needed
  pub get_refuses : (c : Cause) → row_key 0 a ≡ Err c → run builtins (get_call snapshot a) m ≡ refused c m []
  pub put_refuses : (c : Cause) (v : Datum) → row_key 0 a ≡ Err c → run builtins (put_call snapshot a v) m ≡ refused c m []
  pub add_refuses : (c : Cause) (n : Datum) → row_key 0 a ≡ Err c → run builtins (add_call snapshot a n) m ≡ refused c m []
  -- get answers the row's value, and put the value that the row has now
  pub gets : (k : RowKey) → row_key 0 a ≡ Ok k → run builtins (get_call snapshot a) m ≡ record { reply = Answers (value_at m k); rows = m; needs = k ∷ []; writes = [] }
  pub puts : (k : RowKey) (v : Datum) → row_key 0 a ≡ Ok k → run builtins (put_call snapshot a v) m ≡ answered k v m []
  -- add puts and answers the sum, where there is one
  pub adds : (k : RowKey) (n sum : Datum) → row_key 0 a ≡ Ok k → combined Add (counted (value_at m k)) n ≡ Ok sum → run builtins (add_call snapshot a n) m ≡ answered k sum m (k ∷ [])
  pub add_fails : (k : RowKey) (n : Datum) (c : Cause) → row_key 0 a ≡ Ok k → combined Add (counted (value_at m k)) n ≡ Err c → run builtins (add_call snapshot a n) m ≡ refused c m (k ∷ [])
