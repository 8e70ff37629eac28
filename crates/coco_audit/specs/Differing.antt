-- The first Done whose kept reply isn't that of its run.
use Rattle.std.specs.Prelude.{◌≡◌, ◌≢◌, ◌+◌, List, ◌∷◌, ◌++◌, length}
use Rattle.std.specs.List.{AllByRecursion}
use Rattle.coco_types.specs.declared.call.Done.{Done}
use Rattle.coco_ast.specs.Fitting.{Fits}
use Rattle.coco_ast.specs.History.{RepliesAreRuns, rows_after}
use Rattle.coco_ast.specs.Keyed.{Rows}
use Rattle.coco_ast.specs.Meaning.{run}
use Rattle.coco_ast.specs.Tree.{Procedures}
use Rattle.coco_audit.specs.declared.verify.NotSerial.{NotSerial}

-- the replies of the Dones before it are their runs', from this map on, and its own is another than that of its run on what
-- they leave; places count from 1
pub record IsFirstUnlike (procs : Procedures) (rows : Rows) (dones : List Done) (found : NotSerial) : Type 0 where
  pub before : List Done
  pub done : Done
  pub behind : List Done
  pub whole : dones ≡ before ++ done ∷ behind
  pub runs : RepliesAreRuns procs rows before
  pub place : found.place ≡ length before + 1
  pub id : found.id ≡ done.id
  pub kept : found.kept ≡ done.reply
  pub computed : found.computed ≡ (run procs done.call (rows_after procs rows before)).reply
  pub differ : found.kept ≢ found.computed

-- the call of each fits the procedures
abbrev pub AllFit : Procedures → List Done → Type 0
AllFit procs = AllByRecursion (λ d. Fits procs d.call)
