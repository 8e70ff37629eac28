use Rattle.std.proofs.Common.{length, drop, sym, ap, ◌∙◌, arith}
use Rattle.coco_desks.proofs.DeskLemmas.{written_back}
use Rattle.coco_query.proofs.CrewLemmas.{Shift, as_many_seats, begun_count, begun_seated, have_left}
use Rattle.coco_query.proofs.crew.seat_and_run.Given as given
use Rattle.coco_query.proofs.crew.seat_and_run.Goals as goal
use Rattle.coco_query.proofs.crew.seat_and_run.Goals.{After-seated-readers}

pub seated-readers-requires-clause-rows : goal.seated-readers-requires-clause-rows
seated-readers-requires-clause-rows g c = c.args.rows.ok.0 ∙ c.requires.dealt.1.count ∙ sym (as_many_seats c.args.claims.now c.args.seats c.requires.seats)

pub seated-readers-requires-clause-few : goal.seated-readers-requires-clause-few
seated-readers-requires-clause-few g c = (let many = as_many_seats c.args.claims.now c.args.seats c.requires.seats in let few = c.requires.few in omega (arith, many, few))

pub seated-readers-requires-clause-room : goal.seated-readers-requires-clause-room
seated-readers-requires-clause-room g c =
    let many = as_many_seats c.args.claims.now c.args.seats c.requires.seats in
    let room = c.requires.room.1 in
    (c.requires.room.0, omega (arith, many, room))

abbrev shift : (g : given.Over) (c : After-seated-readers g) → Shift
shift g c = record { tables = c.requires.dealt.0; locks = c.args.tables.now; rows = c.args.rows.items; claims = c.args.claims.now; dealt = c.requires.dealt.1 }

pub run_all-requires-clause-readers : goal.run_all-requires-clause-readers
run_all-requires-clause-readers g c κs within =
    let count = begun_count (shift g (goal.at.run_all-requires-clause-readers g c).After-seated-readers) c.args.seats.items c.as_mut_slice.result.now c.requires.seats (c.as_mut_slice.ensures.value ∙ c.seated-readers.ensures) in
    let some = c.requires.readers in
    omega (arith, count, some)

pub run_all-requires-clause-seated : goal.run_all-requires-clause-seated
run_all-requires-clause-seated g c κs within =
    begun_seated (shift g (goal.at.run_all-requires-clause-seated g c).After-seated-readers) c.args.seats.items c.as_mut_slice.result.now c.requires.seats (c.as_mut_slice.ensures.value ∙ c.seated-readers.ensures)

pub returns : goal.returns
returns g c =
    have_left (shift g (goal.at.returns g c).After-seated-readers) c.args.seats.items c.as_mut_slice.result.now c.requires.seats (c.as_mut_slice.ensures.value ∙ c.seated-readers.ensures) c.run_all.new.readers _ c.run_all.ensures.count c.run_all.ensures.each
    (written_back c.seated-readers.result.len c.run_all.new.readers (drop (length c.run_all.new.readers) c.seated-readers.result.items) (c.seated-readers.result.ok.0 ∙ sym (c.run_all.ensures.count ∙ ap length c.as_mut_slice.ensures.value)))
