-- What a run may write: rows of tables that are declared.
use Rattle.std.specs.Prelude.{◌<◌, length}
use Rattle.std.specs.List.{AllByRecursion}
use Rattle.coco_types.specs.declared.call.Call.{Call}
use Rattle.coco_types.specs.declared.call.Write.{Write}
use Rattle.coco_ast.specs.Checks.{HasNoError, behind_builtins}
use Rattle.coco_ast.specs.Keyed.{Rows}
use Rattle.coco_ast.specs.Meaning.{run}
use Rattle.coco_ast.specs.Tree.{Procedures}

-- a call of a tree without errors writes rows of its tables alone
abbrev pub WritesDeclaredTables : Procedures → Type 0
WritesDeclaredTables own = HasNoError own → (call : Call) (m : Rows) → AllByRecursion (λ (w : Write). w.key.table < length (behind_builtins own).tables) (run (behind_builtins own) call m).writes
