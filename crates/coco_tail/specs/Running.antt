-- What an epoch keeps while it runs: the run of the last call, and requests with their places.
use Rattle.std.specs.Prelude.{◌≡◌, ⊤, List, map, Option, None, Some}
use Rattle.std.specs.List.{AllByRecursion}
use Rattle.coco_types.specs.declared.call.Reply.{Reply}
use Rattle.coco_types.specs.declared.call.Request.{Request}
use Rattle.coco_types.specs.declared.call.Write.{Write}
use Rattle.coco_ast.specs.Fitting.{Fits}
use Rattle.coco_ast.specs.Meaning.{Run}
use Rattle.coco_ast.specs.Tree.{Procedures}
use Rattle.coco_eval.specs.Standing.{Ended, Evaluation}
use Rattle.coco_tail.specs.declared.placed.PlacedRequest.{PlacedRequest}
use Rattle.coco_tail.specs.Pieces.{place_of}

-- ---- the last run

-- it has ended, so that its room may be used again
abbrev pub HasEnded : Evaluation → Type 0
HasEnded e = (reply : Reply) × (writes : List Write) × (e.standing ≡ Ended reply writes)

-- there is one, and it has ended
abbrev pub IsThere : Option Evaluation → Type 0
IsThere None = ⊥
IsThere (Some e) = HasEnded e

-- there is none, or it has ended
abbrev pub IsOver : Option Evaluation → Type 0
IsOver None = ⊤
IsOver (Some e) = HasEnded e

-- it came to this
abbrev pub CameTo : Run → Option Evaluation → Type 0
CameTo r None = ⊥
CameTo r (Some e) = e.standing ≡ Ended r.reply r.writes

-- ---- requests

abbrev pub requests_of : List PlacedRequest → List Request
requests_of = map (λ (p : PlacedRequest). p.request)

-- each of these is taken
abbrev pub FitAll : Procedures → List Request → Type 0
FitAll ps = AllByRecursion (λ (r : Request). Fits ps r.call)

-- each has its place among the requests
abbrev pub AreAtTheirPlaces : List Request → List PlacedRequest → Type 0
AreAtTheirPlaces requests = AllByRecursion (λ (p : PlacedRequest). p.place ≡ place_of requests p.request.id)
