use Rattle.std.proofs.Common.{ap}
use Rattle.coco_journaled.specs.Packing.{unpacked}
use Rattle.coco_journaled.proofs.Closing.{new_passes, all_new, from_itself, same_root}
use Rattle.coco_journaled.proofs.journaled.Journaled.start.Goals as goal

pub make-requires-clause-from : goal.make-requires-clause-from
make-requires-clause-from g c = (c.args.machine, from_itself g.M.Machine.answer_to g.M.Machine.state_after c.args.machine (unpacked g.M.Packs.ask_of g.M.Packs.answer_of c.into_room.result.items) (ap (unpacked g.M.Packs.ask_of g.M.Packs.answer_of) c.into_room.ensures))

pub passes_of-list-requires-clause-new : goal.passes_of-list-requires-clause-new
passes_of-list-requires-clause-new g c = let t = c.in-Ok-make.ensures.notes in all_new _ t.0 _ _ t.2

pub returns-in-Ok-make-clause-passes : goal.returns-in-Ok-make-clause-passes
returns-in-Ok-make-clause-passes g c =
    let t = c.in-Ok-make.ensures.notes in
    new_passes _ c.args.machine t.0 _ _ _ (same_root g.M.Machine.answer_to g.M.Machine.state_after t.0 c.args.machine (unpacked g.M.Packs.ask_of g.M.Packs.answer_of c.into_room.result.items) (ap (unpacked g.M.Packs.ask_of g.M.Packs.answer_of) c.into_room.ensures) t.1) t.2 c.passes_of-list.ensures.passes
