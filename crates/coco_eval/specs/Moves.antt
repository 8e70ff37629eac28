-- What a part of a run has led to where it stops, and the room that it leaves.
use Rattle.std.specs.Prelude.{◌≡◌, ⊤, ℕ, ◌+◌, ◌≤◌, List, [], length, reverse, vec_capacity, Some, None}
use Rattle.coco_types.specs.Limits.{most_keys}
use Rattle.coco_types.specs.RowKey.{RowKey}
use Rattle.coco_ast.specs.Meaning.{Datum}
use Rattle.coco_ast.specs.Plans.{depth, depth_one}
use Rattle.coco_ast.specs.Tree.{RowPlace, Statement, Statements}
use Rattle.coco_ast.specs.Keyed.{Rows, value_at}
use Rattle.coco_eval.specs.Places.{Kept, Onward, Goes, Ends, with_given, with_variable, known_at, runs, goes_on, goes_on_one, goes_on_get, goes_on_repeat, weight_on, weight_one, weight_get, weight_repeat}
use Rattle.coco_eval.specs.Slots.{names_in}
use Rattle.coco_eval.specs.declared.machine.Frame.{Frame}
use Rattle.coco_eval.specs.declared.machine.Machine.{Machine}
use Rattle.coco_eval.specs.declared.machine.Stop.{Stop}
use Rattle.coco_eval.specs.declared.machine.Stop.TheVariants as stop
use Rattle.coco_eval.specs.declared.machine.Way.{Way}
use Rattle.coco_eval.specs.declared.machine.Way.TheVariants as way

-- the names of its variables, by slot
abbrev pub named : Machine → List (List ℕ)
named m = names_in m.variables

abbrev pub kept_of : Machine → Kept
kept_of m = record { variables = m.variables; given = m.given.items; writes = m.writes.items }

-- how a part goes on, by how it stood within its statement and by the place within that
abbrev pub Ahead : Type 0
Ahead = Way → List Frame → Rows → Kept → Onward

-- at a stop, on every map: what the part comes to has been reached, or is what lies ahead once the value is given
abbrev pub Reaches : Stop → (Rows → Onward) → Ahead → Machine → Type 0
Reaches stop.Goes part ahead new = ((m : Rows) → part m ≡ Goes (kept_of new)) × (new.path.items ≡ [])
Reaches stop.Ends part ahead new = (m : Rows) → part m ≡ Ends (kept_of new) new.reply
Reaches (stop.Asks w) part ahead new = (m : Rows) → part m ≡ ahead w (reverse new.path.items) m (with_given (kept_of new) new.asked (value_at m new.asked))

-- a part of this weight has written no more keys than that
abbrev pub Spends : Stop → ℕ → (Way → List Frame → ℕ) → Machine → Machine → Type 0
Spends stop.Goes weight ahead old new = length new.writes.items ≤ length old.writes.items + weight
Spends stop.Ends weight ahead old new = length new.writes.items ≤ length old.writes.items + weight
Spends (stop.Asks w) weight ahead old new = length new.writes.items + 1 + ahead w (reverse new.path.items) ≤ length old.writes.items + weight

abbrev pub IsWithin : Stop → ℕ → Machine → Type 0
IsWithin stop.Goes depth new = ⊤
IsWithin stop.Ends depth new = ⊤
IsWithin (stop.Asks w) depth new = length new.path.items ≤ depth

pub record Moves (s : Stop) (part : Rows → Onward) (ahead : Ahead) (weight : ℕ) (weights : Way → List Frame → ℕ) (depth : ℕ) (old new : Machine) : Type 0 where
  pub reaches : Reaches s part ahead new
  pub spends : Spends s weight weights old new
  pub within : IsWithin s depth new
  pub given : new.given ≡ old.given
  pub names : named new ≡ named old
  pub writes_room : vec_capacity old.writes ≤ vec_capacity new.writes
  pub path_room : vec_capacity old.path ≤ vec_capacity new.path

-- ---- the parts

-- a block, from a place in it on
abbrev pub MovesBlock : Stop → List (List ℕ) → Statements → (Rows → Onward) → ℕ → Machine → Machine → Type 0
MovesBlock s ts b part weight old new = Moves s part (λ w fs m. goes_on m ts fs b) weight (λ w fs. weight_on fs b) (depth b) old new

-- a statement, on from where the run stands in it
abbrev pub MovesOne : Stop → List (List ℕ) → Statement → Way → List Frame → Machine → Machine → Type 0
MovesOne s ts st w fs old new = Moves s (λ m. goes_on_one m ts w (goes_on m ts fs) st (kept_of old)) (λ v gs m. goes_on_one m ts v (goes_on m ts gs) st)
    (weight_one w (weight_on fs) st) (λ v gs. weight_one v (weight_on gs) st) (depth_one st) old new

abbrev pub MovesGet : Stop → List (List ℕ) → List ℕ → RowPlace → Way → Machine → Machine → Type 0
MovesGet s ts x p w old new = Moves s (λ m. goes_on_get m ts w x p (kept_of old)) (λ v gs m. goes_on_get m ts v x p) (weight_get w) (λ v gs. weight_get v) 0 old new

-- a `repeat`, from a turn of it on
abbrev pub MovesTurns : Stop → List (List ℕ) → ℕ → List ℕ → Statements → (Rows → Onward) → ℕ → Machine → Machine → Type 0
MovesTurns s ts n x b part weight old new = Moves s part (λ w fs m. goes_on_repeat w (goes_on m ts fs) (runs m ts) n x b) weight (λ w fs. weight_repeat w (weight_on fs) n b) (depth b) old new

-- what a statement that asks for nothing comes to
abbrev pub IsReached : Stop → Onward → Machine → Type 0
IsReached stop.Goes o new = o ≡ Goes (kept_of new)
IsReached stop.Ends o new = o ≡ Ends (kept_of new) new.reply
IsReached (stop.Asks w) o new = ⊥

pub record Settles (s : Stop) (o : Onward) (spent : ℕ) (old new : Machine) : Type 0 where
  pub reached : IsReached s o new
  pub path : new.path ≡ old.path
  pub given : new.given ≡ old.given
  pub names : named new ≡ named old
  pub spends : length new.writes.items ≤ length old.writes.items + spent
  pub writes_room : vec_capacity old.writes ≤ vec_capacity new.writes

-- what the reading of a key comes to, whose value may be asked for
abbrev pub IsRead : Stop → List ℕ → RowKey → Machine → Machine → Type 0
IsRead stop.Goes x k old new = (d : Datum) × (known_at (kept_of old) k ≡ Some d) × (kept_of new ≡ with_variable (kept_of old) x d)
IsRead stop.Ends x k old new = ⊥
IsRead (stop.Asks w) x k old new = (w ≡ way.Given) × (known_at (kept_of old) k ≡ None) × (new.asked ≡ k) × (kept_of new ≡ kept_of old)

pub record ReadMoves (s : Stop) (x : List ℕ) (k : RowKey) (old new : Machine) : Type 0 where
  pub read : IsRead s x k old new
  pub path : new.path ≡ old.path
  pub given : new.given ≡ old.given
  pub names : named new ≡ named old
  pub writes : new.writes ≡ old.writes

-- the same stop, on another way
abbrev pub on_way : Stop → Way → Stop
on_way stop.Goes w = stop.Goes
on_way (stop.Asks v) w = stop.Asks w
on_way stop.Ends w = stop.Ends

-- its variables are these, and there is room for what a part of this weight and depth may do
pub record HasRoom (ns : List (List ℕ)) (weight deep : ℕ) (m : Machine) : Type 0 where
  pub names : named m ≡ ns
  pub path : m.path.items ≡ []
  pub path_room : deep ≤ vec_capacity m.path
  pub writes : length m.writes.items + weight ≤ most_keys
  pub writes_room : most_keys ≤ vec_capacity m.writes
