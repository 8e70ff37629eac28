-- New requests: what is known before them, which may join those of their batch, and which may be committed.
use Rattle.std.specs.Prelude.{◌≡◌, ⊤, ℕ, ◌+◌, ◌<◌, ◌≤◌, List, [], ◌∷◌, ◌++◌, find, map, length, Option, None, nat_eq}
use Rattle.std.specs.List.{AllByRecursion, IsDistinct}
use Rattle.coco_types.specs.Limits.{most_kept}
use Rattle.coco_types.specs.declared.call.Call.{Call}
use Rattle.coco_types.specs.declared.call.Request.{Request}
use Rattle.coco_ast.specs.Fitting.{Fits}
use Rattle.coco_ast.specs.History.{AreAbove, done_of, request_of}
use Rattle.coco_ast.specs.Tree.{Procedures}
use Rattle.coco_kept.specs.Keeping.{Keeping}
use Rattle.coco_lines.specs.Classes.{Known}
use Rattle.coco_lines.specs.declared.class.Class.{Class}
use Rattle.coco_lines.specs.declared.class.Class.TheVariants.{Refused, Same, New}

-- pairs of ids and calls as requests
abbrev pub requests_of : List (ℕ × Call) → List Request
requests_of = map (λ (e : ℕ × Call). record { id = e.0; call = e.1 })

abbrev pub request_under : ℕ → List Request → Option Request
request_under id rs = find (λ r. nat_eq id r.id) rs

-- the requests of the kept Dones are known, and these new ones behind them
abbrev pub known_of : Keeping → List Request → Known
known_of k before = record { requests = map request_of k.dones ++ before; floor = k.floor }

-- each has an id of its own that is neither kept nor forgotten, and there is room to keep them all
pub record AreNew (k : Keeping) (requests : List Request) : Type 0 where
  pub distinct : IsDistinct nat_eq (map (λ r. r.id) requests)
  pub absent : AllByRecursion (λ r. done_of r.id k.dones ≡ None) requests
  pub above : AreAbove k.floor (map (λ r. r.id) requests)
  pub few : length k.dones + length requests ≤ most_kept

-- they are new, and each can be run
pub record MayCommit (procs : Procedures) (k : Keeping) (requests : List Request) : Type 0 where
  pub fit : AllByRecursion (λ r. Fits procs r.call) requests
  pub new : AreNew k requests

-- its id is neither kept nor forgotten nor in its batch, and there is room to keep it
pub record MayJoin (k : Keeping) (before : List Request) (r : Request) : Type 0 where
  pub not_kept : done_of r.id k.dones ≡ None
  pub above : AreAbove k.floor (r.id ∷ [])
  pub not_before : request_under r.id before ≡ None
  pub room : length k.dones + length before < most_kept

-- a new request of this class may join those of its batch
abbrev pub IsNewTo : Keeping → List Request → Class → Type 0
IsNewTo k before (Refused e) = ⊤
IsNewTo k before (Same id) = ⊤
IsNewTo k before (New r) = MayJoin k before r

-- a new request of this class can be run
abbrev pub CanRun : Procedures → Class → Type 0
CanRun procs (Refused e) = ⊤
CanRun procs (Same id) = ⊤
CanRun procs (New r) = Fits procs r.call
