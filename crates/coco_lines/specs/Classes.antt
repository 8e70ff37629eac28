-- The classes of lines: one list of tests, of which the first that fits decides.
use Rattle.std.specs.Prelude.{◌≡◌, ℕ, ◌&&◌, Bool, true, nat_eq, nat_le, nat_lt, List, [], ◌∷◌, ◌++◌, length, map, Option, None, Some}
use Rattle.std.specs.List.{list_any}
use Rattle.coco_types.specs.declared.limits.TheConstants.{MOST_KEPT, MOST_LINE_BYTES}
use Rattle.coco_types.specs.declared.call.Request.{Request}
use Rattle.coco_types.specs.contracts.call.CallPartialEq.TheImpl as call
use Rattle.coco_ast.specs.History.{History, floor, is_up_to, kept, request_of}
use Rattle.coco_ast.specs.Tree.{Procedures}
use Rattle.coco_lines.specs.Lines.{Line}
use Rattle.coco_lines.specs.Reading.{json_of, first_that_fits, reading_tests, request_in}
use Rattle.coco_lines.specs.declared.class.Class.{Class}
use Rattle.coco_lines.specs.declared.class.Class.TheVariants.{Refused, Same, New}
use Rattle.coco_lines.specs.declared.error.LineError.{LineError}
use Rattle.coco_lines.specs.declared.error.LineError.TheVariants as error

-- what is known before a line: the kept requests and the new ones of its batch before it, and the greatest id that was forgotten
pub record Known : Type 0 where
  pub requests : List Request
  pub floor : Option ℕ

-- before a batch, what the history keeps is known
abbrev pub known_in : History → Known
known_in h = record { requests = map request_of (kept h); floor = floor h }

abbrev pub and_known : Known → List Request → Known
and_known k rs = record k { requests = k.requests ++ rs }

-- the id is known
abbrev pub is_known : Known → Request → Bool
is_known k r = list_any (λ q. nat_eq r.id q.id) k.requests

-- it is known with an equal call
abbrev pub is_same : Known → Request → Bool
is_same k r = list_any (λ q. nat_eq r.id q.id && call.ghosts.eq q.call r.call) k.requests

-- no more can be kept
abbrev pub is_full : Known → Bool
is_full k = nat_le MOST_KEPT (length k.requests)

abbrev pub refusing : Bool × LineError → Bool × Class
refusing t = (t.0, Refused t.1)

-- The tests of a request that was read without an error. An id that is at most the floor may have been forgotten.
abbrev pub request_tests : Known → Option Request → List (Bool × Class)
request_tests k None = []
request_tests k (Some r) =
    (is_same k r, Same r.id) ∷ (is_known k r, Refused error.Reused) ∷ (is_up_to k.floor r.id, Refused error.Old) ∷ (is_full k, Refused error.Full) ∷ (true, New r) ∷ []

-- all tests of a line in their order: long, json, shape, name, args, snapshot, same, reused, old, full, new
unfoldable pub class_tests : Procedures → Known → Line → List (Bool × Class)
class_tests procs k line =
    (nat_lt MOST_LINE_BYTES (length line), Refused error.Long) ∷ (map refusing (reading_tests procs (json_of line)) ++ request_tests k (request_in procs (json_of line)))

-- its class is the first that fits
abbrev pub IsClass : Procedures → Known → Line → Class → Type 0
IsClass procs k line c = first_that_fits (class_tests procs k line) ≡ Some c

-- the new request that a line of this class makes
abbrev pub new_in : Class → List Request
new_in (Refused e) = []
new_in (Same id) = []
new_in (New r) = r ∷ []

abbrev pub new_of : List Class → List Request
new_of [] = []
new_of (c ∷ cs) = new_in c ++ new_of cs

-- the classes of the lines of a batch: what is new in one is known to the next
abbrev pub AreClasses : Procedures → Known → List Line → List Class → Type 0
AreClasses procs k [] cs = cs ≡ []
AreClasses procs k (line ∷ lines) [] = ⊥
AreClasses procs k (line ∷ lines) (c ∷ cs) = IsClass procs k line c × AreClasses procs (and_known k (new_in c)) lines cs
