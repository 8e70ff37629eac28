-- A crew's stations before and after they ran, and what that comes to.
use Rattle.std.proofs.Common.{◌≡◌, ℕ, ◌+◌, ◌<◌, Bool, true, List, [], ◌∷◌, All, Any, IsTrue, map, length, slice_index_or, vec_len, refl, sym, ap, ◌∙◌, subst, arith}
use Rattle.std.specs.Global.{Vec}
use Rattle.std.specs.List.{cons_option, slice_get}
use Rattle.std.proofs.lemmas.List.{get_or-map, length-map}
use Rattle.std.proofs.lemmas.List.Elements.{All-map}
use Rattle.coco_types.specs.declared.call.Request.{Request}
use Rattle.coco_ast.specs.Tree.{Procedures}
use Rattle.coco_claim.specs.Seats.{Drawer, Round, has_ended, new_seats}
use Rattle.coco_claim.proofs.Drawing.{fresh_seats, seats_count}
use Rattle.coco_copy.specs.CopyState.{CopyState}
use Rattle.coco_desks.specs.Desks.{AreDealt}
use Rattle.coco_desks.specs.Gains.{AreSame}
use Rattle.coco_desks.specs.Rows.{column}
use Rattle.coco_desks.proofs.DeskLemmas.{row_dealt}
use Rattle.coco_desks.proofs.RowLemmas.{any_default, some_at}
use Rattle.coco_journaled.specs.Passes.{Passing}
use Rattle.coco_seen.specs.Notes.{Lock}
use Rattle.coco_shard.specs.RowState.{ShardState}
use Rattle.coco_worker.specs.Gains.{ShardPass}
use Rattle.coco_worker.specs.declared.slot.EpochConfig.{EpochConfig}
use Rattle.coco_worker.specs.declared.slot.Slot.{Slot}
use Rattle.coco_parallel.specs.Closing.{AreStill}
use Rattle.coco_parallel.specs.Copies.{CopyPass}
use Rattle.coco_parallel.specs.Ending.{passes_at}
use Rattle.coco_parallel.specs.Running.{IsDealt, slots_of}
use Rattle.coco_parallel.specs.Stations.{station_of, stations_of}
use Rattle.coco_parallel.specs.Worked.{copy_passes_at}
use Rattle.coco_parallel.specs.Working.{IsManned, LeavesEach}
use Rattle.coco_parallel.specs.declared.workers.Station.{Station}
use Rattle.coco_parallel.proofs.StationLemmas.{station_at, stations_count}

abbrev pub shard_rows : List Station → List (Vec ShardPass)
shard_rows = map (λ (s : Station). s.slot.passes)

abbrev pub table_rows : List Station → List (Vec CopyPass)
table_rows = map (λ (s : Station). s.slot.copy_passes)

abbrev pub seats_of : List Station → List Drawer
seats_of = map (λ (s : Station). s.slot.seat)

-- ---- slots and stations

pub map_slots : {X : Type 0} (f : Slot → X) (stations : List Station) → map f (slots_of stations) ≡ map (λ (s : Station). f s.slot) stations
map_slots f [] = refl
map_slots f (s ∷ ss) = ap (λ (xs : List _). f s.slot ∷ xs) (map_slots f ss)

pub column_slots : (shard : ℕ) (stations : List Station) → column shard (shard_rows stations) ≡ passes_at shard (slots_of stations)
column_slots shard [] = refl
column_slots shard (s ∷ ss) = ap (cons_option (slice_get s.slot.passes.items shard)) (column_slots shard ss)

pub column_tables : (table : ℕ) (stations : List Station) → column table (table_rows stations) ≡ copy_passes_at table (slots_of stations)
column_tables table [] = refl
column_tables table (s ∷ ss) = ap (cons_option (slice_get s.slot.copy_passes.items table)) (column_tables table ss)

-- what a crew is asked, and its desks: a row of passes of each lock, and a seat for each worker
pub record Shift : Type 0 where
  pub procs : Procedures
  pub requests : List Request
  pub config : EpochConfig
  pub carries : ℕ → ℕ → ℕ → ℕ → Bool
  pub machines : List ShardState
  pub tables : List CopyState
  pub locks : List Lock
  pub copy_locks : List Lock
  pub rows : List (Vec ShardPass)
  pub copy_rows : List (Vec CopyPass)
  pub claims : Round
  pub dealt : AreDealt config.started machines locks rows
  pub copy_dealt : AreDealt config.started tables copy_locks copy_rows
  pub count : claims.seats ≡ config.started

module _ (p : Shift) where
  -- ---- before

  abbrev pub crew : List Station
  crew = stations_of 0 p.rows p.copy_rows (new_seats p.claims)

  seats_are : length (new_seats p.claims) ≡ p.config.started
  seats_are = seats_count p.claims ∙ p.count

  rows_many : length p.rows ≡ length (new_seats p.claims)
  rows_many = p.dealt.count ∙ sym seats_are

  copies_many : length p.copy_rows ≡ length (new_seats p.claims)
  copies_many = p.copy_dealt.count ∙ sym seats_are

  pub crew_count : length crew ≡ p.config.started
  crew_count = stations_count 0 p.rows p.copy_rows (new_seats p.claims) rows_many copies_many ∙ seats_are

  pub crew_at : (n : ℕ) (d : Station) → n < p.config.started → slice_index_or crew n d ≡ station_of (0 + n) (slice_index_or p.rows n d.slot.passes) (slice_index_or p.copy_rows n d.slot.copy_passes) (slice_index_or (new_seats p.claims) n d.slot.seat)
  crew_at n d lt = station_at 0 p.rows p.copy_rows (new_seats p.claims) rows_many copies_many n d d.slot.passes d.slot.copy_passes d.slot.seat (omega (arith, seats_are, lt))

  pub all_manned : All (IsManned p.locks p.copy_locks p.claims) crew
  all_manned n d lt =
      let here : n < p.config.started = omega (arith, crew_count, lt) in
      subst (IsManned p.locks p.copy_locks p.claims) (sym (crew_at n d here)) (record {
        locks = row_dealt p.config.started p.machines p.locks p.rows p.dealt n d.slot.passes here;
        copy_locks = row_dealt p.config.started p.tables p.copy_locks p.copy_rows p.copy_dealt n d.slot.copy_passes here;
        seat = (fresh_seats p.claims n d.slot.seat (omega (arith, seats_are, here))).of;
      })

  pub all_dealt : (n : ℕ) (d : Station) → n < length crew → IsDealt p.dealt.trays n (slice_index_or crew n d).slot
  all_dealt n d lt =
      let here : n < p.config.started = omega (arith, crew_count, lt) in
      subst (λ (s : Station). IsDealt p.dealt.trays n s.slot) (sym (crew_at n d here)) (record {
        worker_is = (let h : 0 + n ≡ n = omega arith in h);
        passes = p.dealt.rows_are n d.slot.passes here;
        transcript = refl;
        pieces = refl;
        tail = refl;
        drawn = (fresh_seats p.claims n d.slot.seat (omega (arith, seats_are, here))).drawn;
      })

  -- the stations once all have run
  pub record CrewRan (after : List Station) : Type 0 where
    pub still : length after ≡ length crew
    pub left : LeavesEach p.procs p.requests (length p.machines) p.config p.carries crew after

-- ---- after

module _ {p : Shift} {after : List Station} (ran : CrewRan p after) where
  rows_as : {M Q A : Type 0} (row : Station → Vec (Passing M Q A)) (rows : List (Vec (Passing M Q A))) → length rows ≡ p.config.started → ((n : ℕ) (d : Station) → n < p.config.started → row (slice_index_or (crew p) n d) ≡ slice_index_or rows n (row d))
      → ((n : ℕ) (d : Station) → n < length (crew p) → AreSame (row (slice_index_or (crew p) n d)).items (row (slice_index_or after n d)).items) → AreStill rows (map row after)
  rows_as {M} {Q} {A} row rows many at each = record { count = length-map after row ∙ ran.still ∙ crew_count p ∙ sym many; same = λ n d lt. same n d (some_at after n (within n lt)).0 lt }
    where
      within : (n : ℕ) → n < length rows → n < length after
      within n lt = let of = crew_count p in omega (arith, ran.still, of, many, lt)

      same : (n : ℕ) (d : Vec (Passing M Q A)) (x : Station) → n < length rows → AreSame (slice_index_or rows n d).items (slice_index_or (map row after) n d).items
      same n d x lt =
          let of = crew_count p in
          subst (λ (r : Vec (Passing M Q A)). AreSame r.items (slice_index_or (map row after) n d).items) (at n x (omega (arith, many, lt)) ∙ any_default rows n (row x) d lt)
          (subst (λ (r : Vec (Passing M Q A)). AreSame (row (slice_index_or (crew p) n x)).items r.items) (sym (get_or-map row after n x d (within n lt))) (each n x (omega (arith, of, many, lt))))

  pub rows_still : AreStill p.rows (shard_rows after)
  rows_still = rows_as (λ (s : Station). s.slot.passes) p.rows p.dealt.count (λ n d lt. ap (λ (s : Station). s.slot.passes) (crew_at p n d lt)) (λ n d lt. (ran.left n d lt).same)

  pub tables_still : AreStill p.copy_rows (table_rows after)
  tables_still = rows_as (λ (s : Station). s.slot.copy_passes) p.copy_rows p.copy_dealt.count (λ n d lt. ap (λ (s : Station). s.slot.copy_passes) (crew_at p n d lt)) (λ n d lt. (ran.left n d lt).same_copies)

  -- ---- the seats of workers that are done

  module _ (done : All (λ (s : Station). s.is_done ≡ true) after) where
    seat_of : (n : ℕ) (d : Station) → n < length after → (slice_index_or after n d).slot.seat.claims ≡ p.claims
    seat_of n d lt =
        let here : n < length (crew p) = omega (arith, ran.still, lt) in
        let did = (ran.left n d here).worked (done n d lt) in
        ap (λ (seat : Drawer). seat.claims) did.2.draws.drawn ∙ (all_manned p n d here).seat

    pub all_seats : (to : Vec Drawer) → to.items ≡ seats_of after → (vec_len to ≡ p.claims.seats) × All (λ (seat : Drawer). seat.claims ≡ p.claims) to.items
    all_seats to is = (
      to.ok.0 ∙ ap length is ∙ length-map after (λ (s : Station). s.slot.seat) ∙ ran.still ∙ crew_count p ∙ sym p.count,
      subst (All (λ (seat : Drawer). seat.claims ≡ p.claims)) (sym is) (All-map (λ (seat : Drawer). seat.claims ≡ p.claims) (λ (s : Station). s.slot.seat) after seat_of),
    )

    pub ended_seat : 0 < p.config.started → (to : List Drawer) → to ≡ seats_of after → Any (λ (seat : Drawer). IsTrue (has_ended seat)) to
    ended_seat some to is =
        let of = crew_count p in
        let lt : 0 < length after = omega (arith, ran.still, of, some) in
        let d : Station = (some_at after 0 lt).0 in
        let did = (ran.left 0 d (omega (arith, ran.still, lt))).worked (done 0 d lt) in
        let seat : Drawer = (slice_index_or after 0 d).slot.seat in
        subst (Any (λ (seat : Drawer). IsTrue (has_ended seat))) (sym is)
        (0, seat, (let n = length-map after (λ (s : Station). s.slot.seat) in omega (arith, n, lt)), get_or-map (λ (s : Station). s.slot.seat) after 0 d seat lt, did.2.draws.ended)
