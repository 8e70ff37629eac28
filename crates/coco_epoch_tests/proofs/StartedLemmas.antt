-- Machines that were put behind locks.
use Rattle.std.proofs.Common.{◌≡◌, ℕ, suc, List, [], ◌∷◌, length, refl, ap}
use Rattle.std.specs.Global.{Vec}
use Rattle.coco_desks.specs.Locking.{AreStarted}
use Rattle.coco_journaled.specs.Passes.{Passing}
use Rattle.coco_seen.specs.Notes.{Lock}

-- there is a lock for each
pub as_many_locks : {M Q A : Type 0} (workers : ℕ) (machines : List M) (locks : List Lock) (trays : List (Vec (Passing M Q A))) → AreStarted workers machines locks trays → length locks ≡ length machines
as_many_locks workers [] [] [] are = refl
as_many_locks workers [] [] (t ∷ ts) are = absurd are
as_many_locks workers [] (l ∷ ls) ts are = absurd are
as_many_locks workers (m ∷ ms) [] ts are = absurd are
as_many_locks workers (m ∷ ms) (l ∷ ls) [] are = absurd are
as_many_locks workers (m ∷ ms) (l ∷ ls) (t ∷ ts) are = ap suc (as_many_locks workers ms ls ts are.1)
