use Rattle.coco_journaled.specs.Holding.{entries_in}
use Rattle.coco_journaled.proofs.Holding.{held_now, held_same, pass_looks, pass_sees, room_at, sees, stepped, taken_at}
use Rattle.coco_journaled.proofs.Stepping.{pass_entered, pass_steps}
use Rattle.coco_journaled.proofs.journaled.Journaled.step_lent.Goals as goal

pub answer-requires-clause-room : goal.answer-requires-clause-room
answer-requires-clause-room g c = room_at c.hold.new.held c.in-Some.guarded c.in_ok-hold.ensures.room c.in-Some.is

pub let_go-requires-clause-held : goal.let_go-requires-clause-held
let_go-requires-clause-held g c =
    let t = taken_at g.M.Packs.ask_of g.M.Packs.answer_of g.M.Machine.answer_to g.M.Machine.state_after c.pass.inside.note c.hold.new.note c.hold.new.held c.in-Some.guarded c.in_ok-hold.ensures.holds c.in-Some.is in
    held_same g.M.Packs.ask_of g.M.Packs.answer_of g.M.Machine.answer_to g.M.Machine.state_after c.hold.new.note c.in-Some.guarded c.answer.new.self (held_now g.M.Packs.ask_of g.M.Packs.answer_of g.M.Machine.answer_to g.M.Machine.state_after c.pass.inside.note c.hold.new.note c.in-Some.guarded t) c.in_default-answer.ensures.err

pub enter-requires-clause-stepped : goal.enter-requires-clause-stepped
enter-requires-clause-stepped g c =
    let t = taken_at g.M.Packs.ask_of g.M.Packs.answer_of g.M.Machine.answer_to g.M.Machine.state_after c.pass.inside.note c.hold.new.note c.hold.new.held c.in-Some.guarded c.in_ok-hold.ensures.holds c.in-Some.is in
    stepped g.M.Packs.ask_of g.M.Packs.answer_of g.M.Machine.answer_to g.M.Machine.state_after c.pass.inside.note c.hold.new.note c.in-Some.guarded c.answer.new.self c.pass.inside.number c.args.ask.now c.answer.new.answer t c.in-Ok.ensures.ok

-- the pass as it is where the machine had no memory
pub invariant_of-pass-in_default-answer : goal.invariant_of-pass-in_default-answer
invariant_of-pass-in_default-answer g c =
    let t = taken_at g.M.Packs.ask_of g.M.Packs.answer_of g.M.Machine.answer_to g.M.Machine.state_after c.pass.inside.note c.hold.new.note c.hold.new.held c.in-Some.guarded c.in_ok-hold.ensures.holds c.in-Some.is in
    let seen = sees g.M.Packs.ask_of g.M.Packs.answer_of g.M.Machine.answer_to g.M.Machine.state_after c.pass.inside.note c.hold.new.note c.let_go.new.note c.in-Some.guarded t c.let_go.ensures.note in
    (pass_sees c.pass.inside.number c.pass.inside.note c.let_go.new.note c.pass.inside.places.items c.prepared.new.places.items c.pass.invariant.0 seen c.prepared.ensures.places, c.let_go.ensures.held)

pub returns-in_default-answer-clause-err : goal.returns-in_default-answer-clause-err
returns-in_default-answer-clause-err g c =
    let t = taken_at g.M.Packs.ask_of g.M.Packs.answer_of g.M.Machine.answer_to g.M.Machine.state_after c.pass.inside.note c.hold.new.note c.hold.new.held c.in-Some.guarded c.in_ok-hold.ensures.holds c.in-Some.is in
    let looks = pass_looks c.pass.inside.number c.pass.inside.note c.let_go.new.note (sees g.M.Packs.ask_of g.M.Packs.answer_of g.M.Machine.answer_to g.M.Machine.state_after c.pass.inside.note c.hold.new.note c.let_go.new.note c.in-Some.guarded t c.let_go.ensures.note) in
    rw (← c.pass.view_is) looks

pub invariant_of-pass-2 : goal.invariant_of-pass-2
invariant_of-pass-2 g c =
    let t = taken_at g.M.Packs.ask_of g.M.Packs.answer_of g.M.Machine.answer_to g.M.Machine.state_after c.pass.inside.note c.hold.new.note c.hold.new.held c.in-Some.guarded c.in_ok-hold.ensures.holds c.in-Some.is in (
      pass_entered c.enter.new.note.holds c.pass.inside.number c.pass.inside.note c.hold.new.note c.enter.new.note c.pass.inside.places.items c.prepared.new.places.items c.enter.new.places.items (entries_in g.M.Packs.ask_of g.M.Packs.answer_of c.in-Some.guarded)
          c.args.ask.now c.answer.new.answer c.pass.invariant.0 t.note t.seen c.enter.ensures.note c.prepared.ensures.places c.enter.ensures.places,
      c.enter.ensures.held,
    )

pub returns-clause-ok : goal.returns-clause-ok
returns-clause-ok g c =
    let t = taken_at g.M.Packs.ask_of g.M.Packs.answer_of g.M.Machine.answer_to g.M.Machine.state_after c.pass.inside.note c.hold.new.note c.hold.new.held c.in-Some.guarded c.in_ok-hold.ensures.holds c.in-Some.is in
    let stepping = pass_steps g.M.Machine.answer_to g.M.Machine.state_after c.enter.new.note.holds c.pass.inside.number c.pass.inside.note c.hold.new.note c.enter.new.note t.root c.in-Some.guarded.machine (entries_in g.M.Packs.ask_of g.M.Packs.answer_of c.in-Some.guarded) c.args.ask.now
    c.answer.new.answer t.note t.seen t.rooted t.run c.in-Ok.ensures.ok.answer_is c.enter.ensures.note in
    rw (← c.pass.view_is) stepping
