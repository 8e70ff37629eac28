use Rattle.coco_parse.proofs.Steps.{stop_refused}
use Rattle.coco_parse.proofs.state.Parser.unexpected.Goals as goal

pub returns : goal.returns
returns c g s stops = stop_refused c.args.self.now c.args.cursor.now g c.refusal.result s stops c.refusal.ensures.place c.refusal.ensures.kind
