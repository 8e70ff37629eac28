-- The stations of workers, from rows of passes and seats.
use Rattle.std.specs.Prelude.{◌≡◌, ℕ, suc, ◌<◌, ◌^◌, false, List, [], ◌∷◌}
use Rattle.std.specs.Global.{Vec}
use Rattle.coco_claim.specs.Seats.{Drawer, Round, new_seats}
use Rattle.coco_desks.specs.Desks.{HasRoom}
use Rattle.coco_worker.specs.Gains.{ShardPass}
use Rattle.coco_parallel.specs.Copies.{CopyPass}
use Rattle.coco_parallel.specs.declared.stations.Left.{Left}
use Rattle.coco_parallel.specs.declared.workers.Station.{Station}

-- a worker's station at which nothing is done yet
abbrev pub station_of : ℕ → Vec ShardPass → Vec CopyPass → Drawer → Station
station_of worker passes copy_passes seat = record { slot = record { worker = worker; passes = passes; copy_passes = copy_passes; seat = seat; rooms = tt; transcript = []; pieces = []; tail = []; passed = [] }; is_done = false }

-- one for each worker, from this one on
abbrev pub stations_of : ℕ → List (Vec ShardPass) → List (Vec CopyPass) → List Drawer → List Station
stations_of worker (r ∷ rs) (c ∷ cs) (s ∷ ss) = station_of worker r c s ∷ stations_of (suc worker) rs cs ss
stations_of worker rs cs ss = []

-- claims of so many requests with a new seat for each worker, and room for their stations and for what they leave
pub record IsCrew (requests workers : ℕ) (claims : Round) (seats back : Vec Drawer) (stations : Vec Station) (left : Left) : Type 0 where
  pub numbers : claims.n ≡ requests
  pub count : claims.seats ≡ workers
  pub few : workers < 2 ^ 32
  pub seats_are : seats.items ≡ new_seats claims
  pub back_room : HasRoom workers back
  pub stations_room : HasRoom workers stations
  pub scripts_room : HasRoom workers left.scripts
  pub transcripts_room : HasRoom workers left.transcripts
  pub pieces_room : HasRoom workers left.pieces
