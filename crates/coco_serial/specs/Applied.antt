-- What an executor holds: its map, and the writes of the last call.
use Rattle.std.specs.Prelude.{◌≡◌, ⊤, List, [], Option, Some, None}
use Rattle.std.specs.FinMap.{from_entries}
use Rattle.std.specs.HashMap.{HashMap}
use Rattle.coco_types.specs.RowKey.{RowKey}
use Rattle.coco_types.specs.declared.call.Reply.{Reply}
use Rattle.coco_types.specs.declared.call.Write.{Write}
use Rattle.coco_types.specs.declared.value.Value.{Value}
use Rattle.coco_ast.specs.Keyed.{Rows}
use Rattle.coco_eval.specs.Standing.{Standing, Ready, Asks, Ended, Evaluation}

pub record Applied : Type 0 where
  pub rows : Rows
  pub writes : List Write

abbrev pub rows_of : {S : Type 0} → HashMap RowKey Value S → Rows
rows_of m = from_entries m.entries

abbrev pub writes_in : Standing → List Write
writes_in Ready = []
writes_in (Asks k) = []
writes_in (Ended reply writes) = writes

-- the writes of the last run, if there was one
abbrev pub last_writes : Option Evaluation → List Write
last_writes None = []
last_writes (Some e) = writes_in e.standing

abbrev pub HasEnded : Option Evaluation → Type 0
HasEnded None = ⊤
HasEnded (Some e) = (reply : Reply) × (writes : List Write) × (e.standing ≡ Ended reply writes)
