-- What the check of a body leaves: how far it went, or the fault at which it stopped.
use Rattle.std.specs.Prelude.{◌≡◌, ℕ, ◌+◌, List, drop, Result, Ok, Err}
use Rattle.std.specs.BTreeSet.{BTreeSet}
use Rattle.coco_ast.specs.Checks.{Placed, and_within}
use Rattle.coco_ast.specs.Tree.{Statement}
use Rattle.coco_ast.specs.declared.error.CheckKind.TheVariants.{Twice}
use Rattle.coco_check.specs.declared.fault.CheckFault.{CheckFault}
use Rattle.coco_check.specs.declared.fault.CheckFault.TheVariants as whole
use Rattle.coco_check.specs.declared.fault.BodyFault.{BodyFault}
use Rattle.coco_check.specs.declared.fault.BodyFault.TheVariants.{Refused, NoMemory}
use Rattle.coco_check.specs.declared.body.Body.{Body}
use Rattle.coco_check.specs.Search.{Names, Walk, Fault, error_at}

abbrev pub walk_of : Body → Walk
walk_of b = record { last = b.last; known = b.known.keys }

-- the statements in the blocks of a statement
abbrev pub within : ℕ → Statement → List Placed
within n s = drop 1 (and_within n s)

abbrev pub StopsAt : BodyFault → Result Walk Fault → Type 0
StopsAt (Refused n kind) w = w ≡ Err (n, kind)
StopsAt NoMemory w = Unit {0}

abbrev pub Follows : {A : Type 0} → Result A BodyFault → Body → Result Walk Fault → Type 0
Follows (Ok x) new w = w ≡ Ok (walk_of new)
Follows (Err fault) new w = StopsAt fault w

-- the set of all tables, or the error of the one at this place
abbrev pub TablesAre : Result (BTreeSet (List ℕ)) CheckFault → Result Names ℕ → Type 0
TablesAre (Ok tables) read = read ≡ Ok tables.keys
TablesAre (Err (whole.Refused e)) read = (i : ℕ) × (read ≡ Err i) × (e ≡ error_at (i + 1) (0, Twice))
TablesAre (Err whole.NoMemory) read = Unit {0}
