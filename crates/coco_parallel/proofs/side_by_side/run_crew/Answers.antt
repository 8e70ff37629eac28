use Rattle.std.proofs.Common.{◌≡◌, true, false, List, All, ◌++◌, length, take, drop, refl, sym, ap, ◌∙◌, subst, arith}
use Rattle.coco_claim.specs.Seats.{times_drawn}
use Rattle.coco_claim.proofs.Drawing.{seats_count}
use Rattle.coco_copy.specs.CopyState.{CopyState}
use Rattle.coco_copy.specs.Puts as puts
use Rattle.coco_desks.specs.Desks.{AreDealt}
use Rattle.coco_desks.proofs.DeskLemmas.{written_back}
use Rattle.coco_shard.specs.RowState.{ShardState}
use Rattle.coco_shard.specs.Table.{after_ask, answer_in}
use Rattle.coco_parallel.specs.Closing.{AreStill}
use Rattle.coco_parallel.specs.Worked.{HaveWorked, KeepValues, emptied, start_of}
use Rattle.coco_parallel.specs.declared.side_by_side.WorkersEnd.{WorkersEnd}
use Rattle.coco_parallel.specs.declared.workers.Station.{Station}
use Rattle.coco_parallel.proofs.CrewEndLemmas.{have_worked}
use Rattle.coco_parallel.proofs.CrewLemmas.{CrewRan, all_seats, ended_seat, rows_still, tables_still}
use Rattle.coco_parallel.proofs.KeepingLemmas.{all_back, by_machines, keep_maps, keep_values}
use Rattle.coco_parallel.proofs.RanLemmas.{begun_count, begun_manned, have_run, room_for_all, shift_of}
use Rattle.coco_parallel.proofs.side_by_side.run_crew.Given as given
use Rattle.coco_parallel.proofs.side_by_side.run_crew.Goals as goal
use Rattle.coco_parallel.proofs.side_by_side.run_crew.Goals.{After-dismiss, After-man-stations, then-done, else-done}

two_sides : true ≡ false → ⊥
two_sides h = cc

-- ---- before the workers run

pub man-stations-requires-clause-rows : goal.man-stations-requires-clause-rows
man-stations-requires-clause-rows g c =
    let ok = c.args.crew.seats.ok.0 in
    let n = ap length c.requires.crew.seats_are in
    let m = seats_count c.args.crew.claims in
    let count = c.requires.crew.count in
    let rows = c.args.desks.rows.ok.0 in
    let dealt = c.requires.shards.1.dealt.count in
    omega (arith, ok, n, m, count, rows, dealt)

pub man-stations-requires-clause-copy_rows : goal.man-stations-requires-clause-copy_rows
man-stations-requires-clause-copy_rows g c =
    let ok = c.args.crew.seats.ok.0 in
    let n = ap length c.requires.crew.seats_are in
    let m = seats_count c.args.crew.claims in
    let count = c.requires.crew.count in
    let rows = c.args.desks.copy_rows.ok.0 in
    let dealt = c.requires.copies.1.dealt.count in
    omega (arith, ok, n, m, count, rows, dealt)

pub man-stations-requires-clause-few : goal.man-stations-requires-clause-few
man-stations-requires-clause-few g c =
    let ok = c.args.crew.seats.ok.0 in
    let n = ap length c.requires.crew.seats_are in
    let m = seats_count c.args.crew.claims in
    let count = c.requires.crew.count in
    let few = c.requires.crew.few in
    omega (arith, ok, n, m, count, few)

pub man-stations-requires-clause-room : goal.man-stations-requires-clause-room
man-stations-requires-clause-room g c =
    let n = ap length c.requires.crew.seats_are in
    room_for_all c.args.crew.stations c.args.crew.seats.len c.args.config.started (c.args.crew.seats.ok.0 ∙ n ∙ seats_count c.args.crew.claims ∙ c.requires.crew.count) c.requires.crew.stations_room

pub run_all-requires-clause-workers : goal.run_all-requires-clause-workers
run_all-requires-clause-workers g c κs within =
    let p = shift_of c.args.procs.now c.args.requests.now c.args.config (g.N.Net.carries c.args.net.now) c.args.desks c.args.crew c.requires.shards.1.dealt c.requires.copies.1.dealt c.requires.crew.count in
    let count = begun_count p c.args.crew.seats.items c.as_mut_slice.result.now c.requires.crew.seats_are (c.as_mut_slice.ensures.value ∙ c.man-stations.ensures) in
    let some = c.requires.workers in
    omega (arith, count, some)

pub run_all-requires-clause-manned : goal.run_all-requires-clause-manned
run_all-requires-clause-manned g c κs within =
    let p = shift_of c.args.procs.now c.args.requests.now c.args.config (g.N.Net.carries c.args.net.now) c.args.desks c.args.crew c.requires.shards.1.dealt c.requires.copies.1.dealt c.requires.crew.count in
    begun_manned p c.args.crew.seats.items c.as_mut_slice.result.now c.requires.crew.seats_are (c.as_mut_slice.ensures.value ∙ c.man-stations.ensures) c.deref.result.now c.deref-2.result.now c.deref.ensures.value c.deref-2.ensures.value

-- ---- taken apart

many : (g : given.Over) (c : After-man-stations g) → c.man-stations.result.len ≡ c.args.config.started
many g c =
    let p = shift_of c.args.procs.now c.args.requests.now c.args.config (g.N.Net.carries c.args.net.now) c.args.desks c.args.crew c.requires.shards.1.dealt c.requires.copies.1.dealt c.requires.crew.count in
    c.man-stations.result.ok.0 ∙ begun_count p c.args.crew.seats.items c.man-stations.result.items c.requires.crew.seats_are c.man-stations.ensures

pub dismiss-requires-clause-rows : goal.dismiss-requires-clause-rows
dismiss-requires-clause-rows g c = room_for_all c.args.desks.shards.back c.man-stations.result.len c.args.config.started (many g (goal.at.dismiss-requires-clause-rows g c).After-man-stations) c.requires.shards.1.back_room

pub dismiss-requires-clause-copy_rows : goal.dismiss-requires-clause-copy_rows
dismiss-requires-clause-copy_rows g c = room_for_all c.args.desks.copies.back c.man-stations.result.len c.args.config.started (many g (goal.at.dismiss-requires-clause-copy_rows g c).After-man-stations) c.requires.copies.1.back_room

pub dismiss-requires-clause-seats : goal.dismiss-requires-clause-seats
dismiss-requires-clause-seats g c = room_for_all c.args.crew.back c.man-stations.result.len c.args.config.started (many g (goal.at.dismiss-requires-clause-seats g c).After-man-stations) c.requires.crew.back_room

pub dismiss-requires-clause-scripts : goal.dismiss-requires-clause-scripts
dismiss-requires-clause-scripts g c = room_for_all c.args.crew.left.scripts c.man-stations.result.len c.args.config.started (many g (goal.at.dismiss-requires-clause-scripts g c).After-man-stations) c.requires.crew.scripts_room

pub dismiss-requires-clause-transcripts : goal.dismiss-requires-clause-transcripts
dismiss-requires-clause-transcripts g c = room_for_all c.args.crew.left.transcripts c.man-stations.result.len c.args.config.started (many g (goal.at.dismiss-requires-clause-transcripts g c).After-man-stations) c.requires.crew.transcripts_room

pub dismiss-requires-clause-pieces : goal.dismiss-requires-clause-pieces
dismiss-requires-clause-pieces g c = room_for_all c.args.crew.left.pieces c.man-stations.result.len c.args.config.started (many g (goal.at.dismiss-requires-clause-pieces g c).After-man-stations) c.requires.crew.pieces_room

-- ---- closed

-- the stations that were dismissed
abbrev stations : (g : given.Over) (c : After-dismiss g) → List Station
stations g c = take c.man-stations.result.len (c.run_all.new.stations ++ drop (length c.run_all.new.stations) c.man-stations.result.items)

-- all have run, whichever machines and tables were dealt to them
ran : (g : given.Over) (c : After-dismiss g) {machines : List ShardState} {tables : List CopyState} (dealt : AreDealt c.args.config.started machines c.args.desks.shards.locks.items c.args.desks.rows.items) (copy_dealt : AreDealt c.args.config.started tables c.args.desks.copies.locks.items c.args.desks.copy_rows.items)
    → CrewRan (shift_of c.args.procs.now c.args.requests.now c.args.config (g.N.Net.carries c.args.net.now) c.args.desks c.args.crew dealt copy_dealt c.requires.crew.count) (stations g c)
ran g c dealt copy_dealt =
    have_run (shift_of c.args.procs.now c.args.requests.now c.args.config (g.N.Net.carries c.args.net.now) c.args.desks c.args.crew dealt copy_dealt c.requires.crew.count) c.args.crew.seats.items c.as_mut_slice.result.now c.requires.crew.seats_are (c.as_mut_slice.ensures.value ∙ c.man-stations.ensures)
    c.run_all.new.stations (stations g c) c.deref.result.now c.run_all.ensures.count c.deref.ensures.value c.run_all.ensures.each
    (written_back c.man-stations.result.len c.run_all.new.stations (drop (length c.run_all.new.stations) c.man-stations.result.items) (c.man-stations.result.ok.0 ∙ sym (c.run_all.ensures.count ∙ ap length c.as_mut_slice.ensures.value)))

-- so the rows that come back are those that were dealt
shards_still : (g : given.Over) (c : After-dismiss g) → AreStill c.args.desks.rows.items c.dismiss.new.rows.items
shards_still g c = subst (AreStill c.args.desks.rows.items) (sym c.dismiss.ensures.rows) (rows_still (ran g c c.requires.shards.1.dealt c.requires.copies.1.dealt))

copies_still : (g : given.Over) (c : After-dismiss g) → AreStill c.args.desks.copy_rows.items c.dismiss.new.copy_rows.items
copies_still g c = subst (AreStill c.args.desks.copy_rows.items) (sym c.dismiss.ensures.copy_rows) (tables_still (ran g c c.requires.shards.1.dealt c.requires.copies.1.dealt))

pub close-requires-clause-all : goal.close-requires-clause-all
close-requires-clause-all g c =
    all_seats (ran g (goal.at.close-requires-clause-all g c).After-dismiss c.requires.shards.1.dealt c.requires.copies.1.dealt) (subst (All (λ (s : Station). s.is_done ≡ true)) c.deref-3.ensures.value (c.all_done-done.ensures c.if-done.true)) c.dismiss.new.seats c.dismiss.ensures.seats

pub close-requires-clause-ended : goal.close-requires-clause-ended
close-requires-clause-ended g c =
    ended_seat (ran g (goal.at.close-requires-clause-ended g c).After-dismiss c.requires.shards.1.dealt c.requires.copies.1.dealt) (subst (All (λ (s : Station). s.is_done ≡ true)) c.deref-3.ensures.value (c.all_done-done.ensures c.if-done.true))
    c.requires.workers c.dismiss.new.seats.items c.dismiss.ensures.seats

pub closed-requires : goal.closed-requires
closed-requires g c = all_back c.requires.shards.1 c.dismiss.new.rows (shards_still g (goal.at.closed-requires g c).After-dismiss)

pub closed-requires-2 : goal.closed-requires-2
closed-requires-2 g c = all_back c.requires.copies.1 c.dismiss.new.copy_rows (copies_still g (goal.at.closed-requires-2 g c).After-dismiss)

pub returns-clause-worked : goal.returns-clause-worked
returns-clause-worked g c = λ machines tables dealt copy_dealt done opening.
    subst (λ (w : WorkersEnd). HaveWorked (start_of c.args.procs.now opening c.args.requests.now machines c.args.config (g.N.Net.carries c.args.net.now)) tables w.shards.items w.journals.items w.copies.items w.copy_journals.items w.transcripts.items w.pieces.items) (sym c.worked_of.ensures)
    (elim c.if-done.branch [
      | then-done w ↦
          have_worked (ran g (goal.at.returns-clause-worked g c).After-dismiss dealt copy_dealt) c.requires.workers (by_machines answer_in after_ask c.args.desks.shards.locks dealt c.dismiss.ensures.rows c.closed.ensures)
          (by_machines puts.answer_in puts.after_ask c.args.desks.copies.locks copy_dealt c.dismiss.ensures.copy_rows c.closed-2.ensures)
          (subst (All (λ (s : Station). s.is_done ≡ true)) c.deref-3.ensures.value (c.all_done-done.ensures done))
          (λ place lt. ap (times_drawn place) (sym c.dismiss.ensures.seats) ∙ w.close.ensures place (let numbers = c.requires.crew.numbers in omega (arith, lt, numbers)))
          opening c.dismiss.new.left.transcripts.items c.dismiss.new.left.pieces.items c.dismiss.ensures.transcripts c.dismiss.ensures.pieces
      | else-done w ↦ absurd (two_sides (sym done ∙ w.if-done.false))
    ])

pub returns-clause-shards : goal.returns-clause-shards
returns-clause-shards g c = λ machines dealt settled.
    subst (λ (w : WorkersEnd). KeepValues machines w.shards.items) (sym c.worked_of.ensures)
    (keep_values c.closed_journals_are_lawful.ensures.lawful dealt (shards_still g (goal.at.returns-clause-shards g c).After-dismiss) c.requires.workers settled (by_machines answer_in after_ask c.args.desks.shards.locks dealt refl c.closed.ensures))

pub returns-clause-copies : goal.returns-clause-copies
returns-clause-copies g c = λ tables copy_dealt.
    ap (λ (w : WorkersEnd). emptied w.copies.items) c.worked_of.ensures
    ∙ keep_maps copy_dealt (copies_still g (goal.at.returns-clause-copies g c).After-dismiss) c.requires.workers (by_machines puts.answer_in puts.after_ask c.args.desks.copies.locks copy_dealt refl c.closed-2.ensures)
