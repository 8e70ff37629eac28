-- The texts of a dump and of a verdict.
use Rattle.std.specs.Prelude.{ℕ, List, [], ◌∷◌, ◌++◌, flat_map, Option, Some, codes, decimal, slice_get}
use Rattle.std.specs.Option.{option_map, unwrap_or}
use Rattle.std.specs.FinMap.{entries}
use Rattle.serde_json.specs.Data.{Data, boolean, string, array, object, Items, no_items, item, no_members, member}
use Rattle.serde_json.specs.Written.{compact_text}
use Rattle.coco_types.specs.RowKey.{RowKey}
use Rattle.coco_types.specs.declared.value.Value.{Value}
use Rattle.coco_types.specs.declared.call.Done.{Done}
use Rattle.coco_types.specs.declared.call.Reply.{Reply}
use Rattle.coco_ast.specs.Keyed.{Rows}
use Rattle.coco_ast.specs.Meaning.{procedure_at}
use Rattle.coco_ast.specs.Tree.{Procedures}
use Rattle.coco_lines.specs.Texts.{value_json, count_json, reply_key, reply_json}
use Rattle.coco_audit.specs.declared.verify.NotSerial.{NotSerial}

-- ---- names

-- a procedure's name by its number, empty where there is none
abbrev pub proc_name : Procedures → ℕ → List ℕ
proc_name procs n = unwrap_or (option_map (λ p. p.name) (procedure_at procs.procs n)) []

-- a table's name by its number, empty where there is none
abbrev pub table_name : Procedures → ℕ → List ℕ
table_name procs n = unwrap_or (slice_get procs.tables n) []

-- ---- the dump

abbrev pub args_json : List (Option Value) → Items
args_json [] = no_items
args_json (a ∷ others) = item (value_json a) (args_json others)

-- a Done as an object, its members in sorted order
abbrev pub dump_done_json : Procedures → Done → Data
dump_done_json procs done = object (member (codes "args") (array (args_json done.call.args)) (member (codes "call") (string (proc_name procs done.call.proc_no))
    (member (codes "epoch") (count_json done.epoch) (member (codes "id") (count_json done.id) (member (reply_key done.reply) (reply_json done.reply)
    (member (codes "snapshot") (boolean done.call.snapshot) (member (codes "time") (count_json done.time) no_members)))))))

abbrev pub dump_row_json : Procedures → RowKey × Value → Data
dump_row_json procs row = object (member (codes "row") (count_json row.0.row) (member (codes "table") (string (table_name procs row.0.table)) (member (codes "value") (value_json (Some row.1)) no_members)))

-- a line of compact JSON
unfoldable pub dump_done_text : Procedures → Done → List ℕ
dump_done_text procs done = compact_text (dump_done_json procs done) ++ 10 ∷ []

unfoldable pub dump_row_text : Procedures → RowKey × Value → List ℕ
dump_row_text procs row = compact_text (dump_row_json procs row) ++ 10 ∷ []

-- all Dones in order, and then all rows, by table and row
abbrev pub dump_text : Procedures → List Done → Rows → List ℕ
dump_text procs dones rows = flat_map (dump_done_text procs) dones ++ flat_map (dump_row_text procs) (entries rows)

-- ---- the verdict

abbrev pub reply_object : Reply → Data
reply_object reply = object (member (reply_key reply) (reply_json reply) no_members)

abbrev pub not_serial_json : NotSerial → Data
not_serial_json found = object (member (codes "computed") (reply_object found.computed) (member (codes "id") (count_json found.id)
    (member (codes "kept") (reply_object found.kept) (member (codes "place") (count_json found.place) no_members))))

-- what is said where a kept reply isn't the computed one
unfoldable pub not_serial_text : NotSerial → List ℕ
not_serial_text found = compact_text (not_serial_json found) ++ 10 ∷ []

-- what is said where so many replies are those of their runs
abbrev pub serial_text : ℕ → List ℕ
serial_text count = codes "serial " ++ decimal count ++ 10 ∷ []
