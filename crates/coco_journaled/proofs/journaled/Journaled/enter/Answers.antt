use Rattle.coco_journaled.proofs.Holding.{entered}
use Rattle.coco_journaled.proofs.journaled.Journaled.enter.Goals as goal

pub let_go-requires-clause-held : goal.let_go-requires-clause-held
let_go-requires-clause-held g c = entered g.M.Packs.ask_of g.M.Packs.answer_of g.M.Machine.answer_to g.M.Machine.state_after c.args.entry c.args.note.now _ c.args.held.now _ c.requires.stepped c.append-place.ensures.note
