-- What going on comes to.
use Rattle.std.specs.Prelude.{◌≡◌, ℕ, ◌+◌, ◌≤◌, Bool, true, false, List, [], length, reverse, Vec, vec_capacity}
use Rattle.std.specs.Global.{Global}
use Rattle.coco_types.specs.Limits.{most_keys}
use Rattle.coco_types.specs.declared.call.Reply.{Reply}
use Rattle.coco_types.specs.declared.call.Reply.TheVariants.{Ok as Answers, Refused}
use Rattle.coco_types.specs.declared.call.Write.{Write}
use Rattle.coco_ast.specs.Keyed.{Rows, value_at}
use Rattle.coco_ast.specs.Plans.{depth, names_of}
use Rattle.coco_ast.specs.Tree.{Procedure, Statements}
use Rattle.coco_eval.specs.Moves.{kept_of, named}
use Rattle.coco_eval.specs.Outcomes.{outcome}
use Rattle.coco_eval.specs.Places.{Ends, with_given, goes_on, weight_on, are_bounded}
use Rattle.coco_eval.specs.declared.machine.Frame.{Frame}
use Rattle.coco_eval.specs.declared.machine.Machine.{Machine}

-- it asks for a key, or it has ended; on every map
abbrev pub Advances : Bool → List (List ℕ) → Statements → Machine → Machine → Type 0
Advances true ts b old new =
    ((m : Rows) → goes_on m ts (reverse old.path.items) b (kept_of old) ≡ goes_on m ts (reverse new.path.items) b (with_given (kept_of new) new.asked (value_at m new.asked)))
    × (length new.writes.items + 1 + weight_on (reverse new.path.items) b ≤ length old.writes.items + weight_on (reverse old.path.items) b)
Advances false ts b old new =
    ((m : Rows) → outcome m (goes_on m ts (reverse old.path.items) b (kept_of old)) ≡ outcome m (Ends (kept_of new) new.reply))
    × (length new.writes.items ≤ length old.writes.items + weight_on (reverse old.path.items) b)

abbrev pub settled_writes : Reply → List Write → List Write
settled_writes (Answers v) ws = ws
settled_writes (Refused c) ws = []

-- its variables are those of the procedure, and there is room for what that may do
pub record IsRoomy (p : Procedure) (m : Machine) (spare : Vec Frame Global) : Type 0 where
  pub names : named m ≡ names_of p
  pub bounded : are_bounded p.body ≡ true
  pub path : depth p.body ≤ vec_capacity m.path
  pub spare_path : depth p.body ≤ vec_capacity spare
  pub given : most_keys ≤ vec_capacity m.given
  pub writes : most_keys ≤ vec_capacity m.writes

pub record AdvancesIn (asks : Bool) (ts : List (List ℕ)) (p : Procedure) (old new : Machine) (spare : Vec Frame Global) : Type 0 where
  pub advances : Advances asks ts p.body old new
  pub roomy : IsRoomy p new spare
  pub given : new.given ≡ old.given
