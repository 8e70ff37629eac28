use Rattle.coco_journaled.proofs.Holding.{had}
use Rattle.coco_journaled.proofs.journaled.Journaled.reach.Goals as goal

pub returns-in-Some : goal.returns-in-Some
returns-in-Some g c = had g.M.Packs.ask_of g.M.Packs.answer_of g.M.Machine.answer_to g.M.Machine.state_after c.args.note.now c.args.held.now c.in-Some.field-0 c.requires.held c.in-Some.is
