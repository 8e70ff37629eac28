-- The lines of a batch sorted by what they ask, and their answers.
use Rattle.std.specs.Prelude.{◌≡◌, ℕ, List, [], ◌∷◌, ◌++◌, map, Option, None, Some}
use Rattle.std.specs.List.{zip}
use Rattle.coco_types.specs.declared.call.Done.{Done}
use Rattle.coco_types.specs.declared.call.Reply.{Reply}
use Rattle.coco_types.specs.declared.call.Request.{Request}
use Rattle.coco_ast.specs.Tree.{Procedures}
use Rattle.coco_lines.specs.Lines.{Line}
use Rattle.coco_lines.specs.Reading.{request_on}
use Rattle.coco_lines.specs.Reads.{body_of}
use Rattle.coco_lines.specs.Texts.{done_text, error_text}
use Rattle.coco_lines.specs.declared.error.LineError.{LineError}
use Rattle.coco_lines.specs.declared.reader.Body.{Body}
use Rattle.coco_lines.specs.declared.reader.Line.{Line as Given}
use Rattle.coco_asks.specs.Asking.{ask_error}
use Rattle.coco_asks.specs.declared.asks.Refusal.{Refusal}

-- the line with this body has this first error
abbrev pub HasError : Procedures → Body → LineError → Type 0
HasError procs body e = (line : Line) → body ≡ body_of line → ask_error procs line ≡ Some e

-- it has none, and is this request
abbrev pub IsAsked : Procedures → Body → Request → Type 0
IsAsked procs body r = (line : Line) → body ≡ body_of line → (ask_error procs line ≡ None) × (request_on procs line ≡ Some r)

-- for each line there is its refusal, or none and in turn its request
abbrev pub AreSorted : Procedures → List Given → List (Option Refusal) → List Request → Type 0
AreSorted procs [] refusals requests = (refusals ≡ []) × (requests ≡ [])
AreSorted procs (line ∷ lines) [] requests = ⊥
AreSorted procs (line ∷ lines) (Some refusal ∷ refusals) requests = HasError procs line.body refusal.error × (refusal.number ≡ line.number) × AreSorted procs lines refusals requests
AreSorted procs (line ∷ lines) (None ∷ refusals) [] = ⊥
AreSorted procs (line ∷ lines) (None ∷ refusals) (r ∷ requests) = IsAsked procs line.body r × AreSorted procs lines refusals requests

-- the texts of the refusals, and in turn those of the Dones for the other lines
abbrev pub texts_of : List (Option Refusal) → List Done → List ℕ
texts_of [] dones = []
texts_of (Some refusal ∷ refusals) dones = error_text refusal.error refusal.number ++ texts_of refusals dones
texts_of (None ∷ refusals) [] = texts_of refusals []
texts_of (None ∷ refusals) (done ∷ dones) = done_text done ++ texts_of refusals dones

-- requests with their replies, as Dones of an epoch at time 0
abbrev pub dones_with : ℕ → List Request → List Reply → List Done
dones_with epoch requests replies = map (λ (p : Request × Reply). record { id = p.0.id; call = p.0.call; epoch = epoch; time = 0; reply = p.1 }) (zip requests replies)
