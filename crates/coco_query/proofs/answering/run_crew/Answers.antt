use Rattle.std.proofs.Common.{◌≡◌, ◌<◌, true, false, List, All, length, refl, sym, ◌∙◌, subst, arith}
use Rattle.coco_desks.specs.Desks.{AreDealt, AreEmpty}
use Rattle.coco_desks.proofs.DeskLemmas.{as_many_started}
use Rattle.coco_seen.specs.Notes.{Lock}
use Rattle.coco_query.specs.Crews.{HaveLeft}
use Rattle.coco_query.specs.declared.frozen.Frozen.{Frozen}
use Rattle.coco_query.specs.declared.readers.Reader.{Reader}
use Rattle.coco_query.proofs.CrewLemmas.{Shift, all_seats, closed_so, ended_seat, have_run, many_back, notes_so, room_for_all, rows_so, seats_drawn, tables_back}
use Rattle.coco_query.proofs.answering.run_crew.Given as given
use Rattle.coco_query.proofs.answering.run_crew.Goals as goal
use Rattle.coco_query.proofs.answering.run_crew.Goals.{After-seat_and_run-readers, then-done, else-done}

two_sides : true ≡ false → ⊥
two_sides h = cc

pub seat_and_run-readers-requires-clause-dealt : goal.seat_and_run-readers-requires-clause-dealt
seat_and_run-readers-requires-clause-dealt g c κs within =
    (c.requires.open.0, subst (λ (locks : List Lock). AreDealt c.args.crew.claims.seats c.requires.open.0 locks c.args.rows.items) (sym c.deref.ensures.value) c.requires.open.1.dealt)

-- ---- taken apart

abbrev shift : (g : given.Over) (c : After-seat_and_run-readers g) (tables : List Frozen) → AreDealt c.args.crew.claims.seats tables c.args.desk.locks.items c.args.rows.items → Shift
shift g c tables dealt = record { tables = tables; locks = c.args.desk.locks.items; rows = c.args.rows.items; claims = c.args.crew.claims; dealt = dealt }

abbrev opened : (g : given.Over) (c : After-seat_and_run-readers g) → Shift
opened g c = shift g c c.requires.open.0 c.requires.open.1.dealt

left : (g : given.Over) (c : After-seat_and_run-readers g) → HaveLeft c.args.procs.now c.args.requests.now (length c.args.desk.locks.items) (g.G.Gate.named c.args.gate.now) c.args.rows.items c.args.crew.claims c.seat_and_run-readers.result.items
left g c = subst (λ (locks : List Lock). HaveLeft c.args.procs.now c.args.requests.now (length locks) (g.G.Gate.named c.args.gate.now) c.args.rows.items c.args.crew.claims c.seat_and_run-readers.result.items) c.deref.ensures.value c.seat_and_run-readers.ensures

pub dismiss-requires-clause-rows : goal.dismiss-requires-clause-rows
dismiss-requires-clause-rows g c = room_for_all c.args.desk.back c.seat_and_run-readers.result c.seat_and_run-readers.ensures.as_many c.requires.open.1.back_room

pub dismiss-requires-clause-seats : goal.dismiss-requires-clause-seats
dismiss-requires-clause-seats g c = room_for_all c.args.crew.back c.seat_and_run-readers.result c.seat_and_run-readers.ensures.as_many c.requires.crew.back_room

pub dismiss-requires-clause-transcripts : goal.dismiss-requires-clause-transcripts
dismiss-requires-clause-transcripts g c = room_for_all c.args.crew.left.transcripts c.seat_and_run-readers.result c.seat_and_run-readers.ensures.as_many c.requires.crew.transcripts_room

pub dismiss-requires-clause-replies : goal.dismiss-requires-clause-replies
dismiss-requires-clause-replies g c = room_for_all c.args.crew.left.replies c.seat_and_run-readers.result c.seat_and_run-readers.ensures.as_many c.requires.crew.replies_room

pub close-requires-clause-all : goal.close-requires-clause-all
close-requires-clause-all g c =
    let at = (goal.at.close-requires-clause-all g c).After-seat_and_run-readers in
    all_seats (opened g at) (left g at) (subst (All (λ (r : Reader). r.is_done ≡ true)) c.deref-2.ensures.value (c.all_done-done.ensures c.if-done.true)) c.dismiss.new.seats c.dismiss.ensures.seats

pub close-requires-clause-ended : goal.close-requires-clause-ended
close-requires-clause-ended g c =
    let at = (goal.at.close-requires-clause-ended g c).After-seat_and_run-readers in
    ended_seat (opened g at) (left g at) (subst (All (λ (r : Reader). r.is_done ≡ true)) c.deref-2.ensures.value (c.all_done-done.ensures c.if-done.true)) c.dismiss.new.seats c.dismiss.ensures.seats c.requires.readers

-- ---- closed

pub close-ended-requires-clause-rows : goal.close-ended-requires-clause-rows
close-ended-requires-clause-rows g c = (let at = (goal.at.close-ended-requires-clause-rows g c).After-seat_and_run-readers in rows_so (opened g at) (left g at) c.dismiss.new.rows c.dismiss.ensures.rows)

pub close-ended-requires-clause-notes : goal.close-ended-requires-clause-notes
close-ended-requires-clause-notes g c = (let at = (goal.at.close-ended-requires-clause-notes g c).After-seat_and_run-readers in notes_so (opened g at) (left g at) c.dismiss.new.rows c.dismiss.ensures.rows)

as_many : (g : given.Over) (c : After-seat_and_run-readers g) → c.args.desk.locks.len ≡ length c.requires.open.0
as_many g c = c.args.desk.locks.ok.0 ∙ (as_many_started c.args.crew.claims.seats c.requires.open.0 c.args.desk.locks.items c.requires.open.1.dealt.trays c.requires.open.1.dealt.started).0

pub close-ended-requires-clause-trays : goal.close-ended-requires-clause-trays
close-ended-requires-clause-trays g c = c.requires.open.1.trays_are ∙ sym (as_many g (goal.at.close-ended-requires-clause-trays g c).After-seat_and_run-readers)

pub close-ended-requires-clause-empty : goal.close-ended-requires-clause-empty
close-ended-requires-clause-empty g c =
    let at = (goal.at.close-ended-requires-clause-empty g c).After-seat_and_run-readers in
    subst (λ n. AreEmpty n c.args.desk.trays.items) (sym (many_back (opened g at) (left g at) c.dismiss.new.rows c.dismiss.ensures.rows)) c.requires.open.1.empty

pub close-ended-requires-clause-machines : goal.close-ended-requires-clause-machines
close-ended-requires-clause-machines g c =
    let many = as_many g (goal.at.close-ended-requires-clause-machines g c).After-seat_and_run-readers in
    let room = c.requires.open.1.last_room.1 in
    (c.requires.open.1.last_room.0, omega (arith, many, room))

pub close-ended-requires-clause-journals : goal.close-ended-requires-clause-journals
close-ended-requires-clause-journals g c =
    let many = as_many g (goal.at.close-ended-requires-clause-journals g c).After-seat_and_run-readers in
    let room = c.requires.open.1.journals_room.1 in
    (c.requires.open.1.journals_room.0, omega (arith, many, room))

pub returns-clause-ran : goal.returns-clause-ran
returns-clause-ran g c = λ tables dealt done.
    let at = (goal.at.returns-clause-ran g c).After-seat_and_run-readers in
    let of = shift g at tables dealt in
    elim c.if-done.branch [
      | then-done w ↦
          let full : 0 < length tables = (let many = (as_many_started c.args.crew.claims.seats tables c.args.desk.locks.items dealt.trays dealt.started).0 in let some = c.requires.some in omega (arith, many, some)) in
          have_run of (left g at) c.requires.readers c.close-ended.result.machines.items c.close-ended.result.journals.items
          (closed_so of (left g at) c.dismiss.new.rows c.dismiss.ensures.rows c.args.desk.locks refl c.close-ended.result.machines.items c.close-ended.result.journals.items c.close-ended.ensures)
          (subst (All (λ (r : Reader). r.is_done ≡ true)) c.deref-2.ensures.value (c.all_done-done.ensures done)) full
          (seats_drawn of (left g at) c.requires.crew.numbers c.dismiss.new.seats.items c.dismiss.ensures.seats w.close.ensures)
          _ refl c.dismiss.ensures.transcripts c.dismiss.ensures.replies
      | else-done w ↦ absurd (two_sides (sym done ∙ w.if-done.false))
    ]

pub returns-clause-back : goal.returns-clause-back
returns-clause-back g c = λ tables dealt.
    let at = (goal.at.returns-clause-back g c).After-seat_and_run-readers in
    let of = shift g at tables dealt in
    tables_back of (left g at) c.requires.readers c.close-ended.result.machines.items c.close-ended.result.journals.items
    (closed_so of (left g at) c.dismiss.new.rows c.dismiss.ensures.rows c.args.desk.locks refl c.close-ended.result.machines.items c.close-ended.result.journals.items c.close-ended.ensures)
