-- The numbers and times of epochs that are run one after another by one worker: numbers go on without a gap, and times are places.
use Rattle.std.specs.Prelude.{◌≡◌, ⊤, ℕ, ◌+◌, Bool, not, List, [], ◌∷◌, ◌++◌, map}
use Rattle.std.specs.List.{filter}
use Rattle.std.specs.List.Sorted.{IsPermutation, IsNonDecreasingBy}
use Rattle.coco_types.specs.declared.call.Done.{Done}
use Rattle.coco_types.specs.declared.call.Request.{Request}
use Rattle.coco_ast.specs.History.{History, Epoch, followed_by, last_epoch, request_of}

-- a request at a logical time
abbrev pub Timed : Type 0
Timed = ℕ × Request

abbrev pub timed_of : Done → Timed
timed_of d = (d.time, request_of d)

-- snapshot calls read the last committed epoch, so all of them stand at time 0
abbrev pub at_start : List Request → List Timed
at_start = map (λ r. (0, r))

abbrev pub numbered : ℕ → List Request → List Timed
numbered n [] = []
numbered n (r ∷ rs) = (n, r) ∷ numbered (n + 1) rs

abbrev pub is_snapshot : Request → Bool
is_snapshot r = r.call.snapshot

-- the snapshot calls first, by id, at time 0; the others in the order of the requests, at times from 1 on
pub record IsCommitOrder (requests : List Request) (order : List Timed) : Type 0 where
  pub snapshots : List Request
  pub same : IsPermutation (filter is_snapshot requests) snapshots
  pub by_id : IsNonDecreasingBy (λ (r : Request). r.id) snapshots
  pub is : order ≡ at_start snapshots ++ numbered 1 (filter (λ r. not (is_snapshot r)) requests)

-- the epoch of these requests has the next number, and its Dones the times of their places
pub record IsNext (h : History) (requests : List Request) (e : Epoch) : Type 0 where
  pub number : e.number ≡ last_epoch h + 1
  pub order : IsCommitOrder requests (map timed_of e.dones)

-- the history that another grew to by these requests keeps to the schedule
abbrev pub KeepsSchedule : History → List Request → History → Type 0
KeepsSchedule h [] g = ⊤
KeepsSchedule h (r ∷ rs) g = (e : Epoch) × IsNext h (r ∷ rs) e × (g ≡ followed_by h e)
