use Rattle.coco_journaled.proofs.Holding.{has_room, held_now, holds_it, sees, taken_at, with_room}
use Rattle.coco_journaled.proofs.journaled.Journaled.hold.Goals as goal

pub let_go-requires-clause-held : goal.let_go-requires-clause-held
let_go-requires-clause-held g c =
    let t = taken_at g.M.Packs.ask_of g.M.Packs.answer_of g.M.Machine.answer_to g.M.Machine.state_after c.args.note.now c.reach.new.note c.reach.new.held c.in-Some.guarded c.reach.ensures c.in-Some.is in
    held_now g.M.Packs.ask_of g.M.Packs.answer_of g.M.Machine.answer_to g.M.Machine.state_after c.args.note.now c.reach.new.note c.make_room.new.self (with_room g.M.Packs.ask_of g.M.Packs.answer_of g.M.Machine.answer_to g.M.Machine.state_after c.args.note.now c.reach.new.note c.in-Some.guarded c.make_room.new.self t c.make_room.ensures.machine c.make_room.ensures.journal)

pub returns-clause-holds : goal.returns-clause-holds
returns-clause-holds g c =
    let t = taken_at g.M.Packs.ask_of g.M.Packs.answer_of g.M.Machine.answer_to g.M.Machine.state_after c.args.note.now c.reach.new.note c.reach.new.held c.in-Some.guarded c.reach.ensures c.in-Some.is in
    holds_it g.M.Packs.ask_of g.M.Packs.answer_of g.M.Machine.answer_to g.M.Machine.state_after c.args.note.now c.reach.new.note c.make_room.new.self (with_room g.M.Packs.ask_of g.M.Packs.answer_of g.M.Machine.answer_to g.M.Machine.state_after c.args.note.now c.reach.new.note c.in-Some.guarded c.make_room.new.self t c.make_room.ensures.machine c.make_room.ensures.journal)

pub returns-clause-room : goal.returns-clause-room
returns-clause-room g c = has_room c.make_room.new.self c.in-Ok.ensures.room

pub returns-in_default-make_room-clause-sees : goal.returns-in_default-make_room-clause-sees
returns-in_default-make_room-clause-sees g c =
    let t = taken_at g.M.Packs.ask_of g.M.Packs.answer_of g.M.Machine.answer_to g.M.Machine.state_after c.args.note.now c.reach.new.note c.reach.new.held c.in-Some.guarded c.reach.ensures c.in-Some.is in
    sees g.M.Packs.ask_of g.M.Packs.answer_of g.M.Machine.answer_to g.M.Machine.state_after c.args.note.now c.reach.new.note c.let_go.new.note c.in-Some.guarded t c.let_go.ensures.note
