-- A state at the start of a procedure.
use Rattle.std.specs.Prelude.{◌≡◌, ◌≤◌, ℕ, List, [], Vec, vec_capacity}
use Rattle.std.specs.Global.{Global}
use Rattle.coco_types.specs.Limits.{most_keys}
use Rattle.coco_ast.specs.Meaning.{Datum, bound}
use Rattle.coco_ast.specs.Plans.{depth}
use Rattle.coco_ast.specs.Tree.{Procedure}
use Rattle.coco_eval.specs.Moves.{named}
use Rattle.coco_eval.specs.Slots.{AreAlike}
use Rattle.coco_eval.specs.declared.machine.Frame.{Frame}
use Rattle.coco_eval.specs.declared.machine.Machine.{Machine}

pub record IsPrepared (p : Procedure) (names : List (List ℕ)) (args : List Datum) (m : Machine) (spare : Vec Frame Global) : Type 0 where
  pub alike : AreAlike (bound p.params args) m.variables
  pub named : named m ≡ names
  pub given : m.given.items ≡ []
  pub writes : m.writes.items ≡ []
  pub path : m.path.items ≡ []
  pub given_room : most_keys ≤ vec_capacity m.given
  pub writes_room : most_keys ≤ vec_capacity m.writes
  pub path_room : depth p.body ≤ vec_capacity m.path
  pub spare_room : depth p.body ≤ vec_capacity spare
