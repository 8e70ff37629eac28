use Rattle.std.proofs.Common.{sym, ◌∙◌, subst, arith}
use Rattle.coco_desks.specs.Desks.{AreEmpty}
use Rattle.coco_desks.proofs.DeskLemmas.{as_many_started, notes_back, rows_back}
use Rattle.coco_parallel.proofs.side_by_side.closed.Goals as goal

pub close-requires-clause-rows : goal.close-requires-clause-rows
close-requires-clause-rows g c =
    let all = c.requires in
    rows_back all.workers all.machines c.args.desk.locks.items all.rows c.args.desk.back.items all.dealt all.still.count all.still.same

pub close-requires-clause-notes : goal.close-requires-clause-notes
close-requires-clause-notes g c = λ n d lt.
    let all = c.requires in
    notes_back all.workers all.machines c.args.desk.locks.items all.rows c.args.desk.back.items all.dealt all.still.count all.still.same n d lt ∙ sym c.args.desk.back.ok.0

pub close-requires-clause-trays : goal.close-requires-clause-trays
close-requires-clause-trays g c =
    let all = c.requires in
    all.trays_are ∙ sym (c.args.desk.locks.ok.0 ∙ (as_many_started all.workers all.machines c.args.desk.locks.items all.dealt.trays all.dealt.started).0)

pub close-requires-clause-empty : goal.close-requires-clause-empty
close-requires-clause-empty g c =
    let all = c.requires in
    subst (λ n. AreEmpty n c.args.desk.trays.items) (sym (c.args.desk.back.ok.0 ∙ all.still.count ∙ all.dealt.count)) all.empty

pub close-requires-clause-machines : goal.close-requires-clause-machines
close-requires-clause-machines g c =
    let all = c.requires in
    let many = (as_many_started all.workers all.machines c.args.desk.locks.items all.dealt.trays all.dealt.started).0 in
    let ok = c.args.desk.locks.ok.0 in
    let room = all.last_room.1 in
    (all.last_room.0, omega (arith, many, ok, room))

pub close-requires-clause-journals : goal.close-requires-clause-journals
close-requires-clause-journals g c =
    let all = c.requires in
    let many = (as_many_started all.workers all.machines c.args.desk.locks.items all.dealt.trays all.dealt.started).0 in
    let ok = c.args.desk.locks.ok.0 in
    let room = all.journals_room.1 in
    (all.journals_room.0, omega (arith, many, ok, room))
