-- How the parts of a run are seen, and what they keep.
use Rattle.std.specs.Prelude.{◌≡◌, ℕ, ◌+◌, ◌≤◌, List, length, reverse, Some, Vec}
use Rattle.std.specs.Global.{Global}
use Rattle.coco_types.specs.Limits.{most_keys}
use Rattle.coco_types.specs.declared.call.Call.{Call}
use Rattle.coco_types.specs.declared.call.Write.{Write}
use Rattle.coco_ast.specs.Keyed.{Rows, value_at, put_over}
use Rattle.coco_ast.specs.Meaning.{run, procedure_at}
use Rattle.coco_ast.specs.Tree.{Procedure, Procedures}
use Rattle.coco_eval.specs.Advance.{IsRoomy}
use Rattle.coco_eval.specs.Moves.{kept_of}
use Rattle.coco_eval.specs.Outcomes.{outcome}
use Rattle.coco_eval.specs.Places.{with_given, goes_on, weight_on}
use Rattle.coco_eval.specs.Standing.{Standing, Ready, Asks, Ended, keys_of, HasGiven}
use Rattle.coco_eval.specs.declared.machine.Frame.{Frame}
use Rattle.coco_eval.specs.declared.machine.Machine.{Machine}
use Rattle.coco_eval.specs.declared.run.Stage.{Stage}
use Rattle.coco_eval.specs.declared.run.Stage.TheVariants as stage

abbrev pub standing_of : Stage → Machine → List Write → Standing
standing_of stage.Ready m ws = Ready
standing_of stage.Asking m ws = Asks m.asked
standing_of stage.Ended m ws = Ended m.reply ws

-- the run goes on from where it stands, and there is room for what it may read and write
pub record IsReady (ps : Procedures) (call : Call) (p : Procedure) (m : Machine) : Type 0 where
  pub goes : (rows : Rows) → HasGiven m.given.items rows → run ps call rows ≡ outcome rows (goes_on rows ps.tables (reverse m.path.items) p.body (kept_of m))
  pub few : length m.given.items + length m.writes.items + weight_on (reverse m.path.items) p.body ≤ most_keys

-- so it does once the value of the key that it asks for is given
pub record IsAsking (ps : Procedures) (call : Call) (p : Procedure) (m : Machine) : Type 0 where
  pub goes : (rows : Rows) → HasGiven m.given.items rows → run ps call rows ≡ outcome rows (goes_on rows ps.tables (reverse m.path.items) p.body (with_given (kept_of m) m.asked (value_at rows m.asked)))
  pub few : length m.given.items + length m.writes.items + 1 + weight_on (reverse m.path.items) p.body ≤ most_keys

-- the run is known
pub record IsEnded (ps : Procedures) (call : Call) (m : Machine) (ws : List Write) : Type 0 where
  pub ends : (rows : Rows) → HasGiven m.given.items rows → run ps call rows ≡ record { reply = m.reply; rows = put_over rows ws; needs = keys_of m.given.items; writes = ws }
  pub few : length m.given.items + length ws ≤ most_keys

abbrev pub Stands : Stage → Procedures → Call → Procedure → Machine → List Write → Type 0
Stands stage.Ready ps call p m ws = IsReady ps call p m
Stands stage.Asking ps call p m ws = IsAsking ps call p m
Stands stage.Ended ps call p m ws = IsEnded ps call m ws

pub record IsRunOf (ps : Procedures) (call : Call) (number : ℕ) (m : Machine) (spare : Vec Frame Global) (ws : List Write) (at : Stage) : Type 0 where
  pub procedure : Procedure
  pub number_is : number ≡ call.proc_no
  pub there : procedure_at ps.procs call.proc_no ≡ Some procedure
  pub roomy : (at ≡ stage.Ended → ⊥) → IsRoomy procedure m spare
  pub stands : Stands at ps call procedure m ws
