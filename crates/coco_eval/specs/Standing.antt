-- What a run of a call has been given, where it stands, and what that says of the call on every map.
use Rattle.std.specs.Prelude.{◌≡◌, List, ◌∷◌, ◌++◌, map}
use Rattle.std.specs.List.{AllByRecursion}
use Rattle.coco_types.specs.RowKey.{RowKey}
use Rattle.coco_types.specs.declared.call.Call.{Call}
use Rattle.coco_types.specs.declared.call.Reply.{Reply}
use Rattle.coco_types.specs.declared.call.Write.{Write}
use Rattle.coco_ast.specs.Keyed.{Rows, value_at, put_over}
use Rattle.coco_ast.specs.Meaning.{run}
use Rattle.coco_ast.specs.Tree.{Procedures}
use Rattle.coco_eval.specs.declared.machine.Given.{Given}

abbrev pub keys_of : List Given → List RowKey
keys_of given = map (λ g. g.key) given

-- the map has the values that were given at the keys that were asked for
abbrev pub HasGiven : List Given → Rows → Type 0
HasGiven given m = AllByRecursion (λ g. value_at m g.key ≡ g.value) given

-- it can go on, waits for the value of a key, or has ended
pub data Standing : Type 0 where
  Ready : Standing
  Asks : RowKey → Standing
  Ended : Reply → List Write → Standing

-- a run as its callers see it
pub record Evaluation : Type 0 where
  pub procs : Procedures
  pub call : Call
  pub given : List Given
  pub standing : Standing

-- what a standing says of the call on a map: so far it needs the keys that were given, next the one
-- that is asked for, and at the end no others, and all else of it is known
abbrev pub Says : Evaluation → Standing → Rows → Type 0
Says e Ready m = (more : List RowKey) × ((run e.procs e.call m).needs ≡ keys_of e.given ++ more)
Says e (Asks k) m = (more : List RowKey) × ((run e.procs e.call m).needs ≡ keys_of e.given ++ k ∷ more)
Says e (Ended reply writes) m = run e.procs e.call m ≡ record { reply = reply; rows = put_over m writes; needs = keys_of e.given; writes = writes }

-- that holds on every map that has what was given
abbrev pub IsSound : Evaluation → Type 0
IsSound e = (m : Rows) → HasGiven e.given m → Says e e.standing m
