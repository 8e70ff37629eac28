-- Stations that are manned from rows and seats, and taken apart.
use Rattle.std.proofs.Common.{◌≡◌, ℕ, zero, suc, ◌+◌, ◌<◌, List, [], ◌∷◌, length, slice_index_or, refl, ap, ◌∙◌, arith}
use Rattle.std.specs.Global.{Vec}
use Rattle.coco_claim.specs.Seats.{Drawer}
use Rattle.coco_worker.specs.Gains.{ShardPass}
use Rattle.coco_parallel.specs.Copies.{CopyPass}
use Rattle.coco_parallel.specs.Stations.{station_of, stations_of}
use Rattle.coco_parallel.specs.declared.workers.Station.{Station}

abbrev Rows : Type 0
Rows = List (Vec ShardPass)

abbrev CopyRows : Type 0
CopyRows = List (Vec CopyPass)

pub stations_count : (worker : ℕ) (rows : Rows) (copies : CopyRows) (seats : List Drawer) → length rows ≡ length seats → length copies ≡ length seats → length (stations_of worker rows copies seats) ≡ length seats
stations_count worker [] copies [] a b = refl
stations_count worker [] copies (s ∷ ss) a b = absurd (omega (arith, a))
stations_count worker (r ∷ rs) copies [] a b = absurd (omega (arith, a))
stations_count worker (r ∷ rs) [] (s ∷ ss) a b = absurd (omega (arith, b))
stations_count worker (r ∷ rs) (c ∷ cs) (s ∷ ss) a b = ap suc (stations_count (suc worker) rs cs ss (omega (arith, a)) (omega (arith, b)))

pub station_at : (worker : ℕ) (rows : Rows) (copies : CopyRows) (seats : List Drawer) → length rows ≡ length seats → length copies ≡ length seats → (n : ℕ) (d : Station) (r : Vec ShardPass) (c : Vec CopyPass) (s : Drawer) → n < length seats
    → slice_index_or (stations_of worker rows copies seats) n d ≡ station_of (worker + n) (slice_index_or rows n r) (slice_index_or copies n c) (slice_index_or seats n s)
station_at worker rows copies [] a b n d r c s lt = absurd (omega arith)
station_at worker [] copies (s' ∷ ss) a b n d r c s lt = absurd (omega (arith, a))
station_at worker (r' ∷ rs) [] (s' ∷ ss) a b n d r c s lt = absurd (omega (arith, b))
station_at worker (r' ∷ rs) (c' ∷ cs) (s' ∷ ss) a b zero d r c s lt = ap (λ (w : ℕ). station_of w r' c' s') (let h : worker ≡ worker + 0 = omega arith in h)
station_at worker (r' ∷ rs) (c' ∷ cs) (s' ∷ ss) a b (suc n) d r c s lt =
    station_at (suc worker) rs cs ss (omega (arith, a)) (omega (arith, b)) n d r c s (omega arith)
    ∙ ap (λ (w : ℕ). station_of w (slice_index_or rs n r) (slice_index_or cs n c) (slice_index_or ss n s)) (let h : suc worker + n ≡ worker + suc n = omega arith in h)
