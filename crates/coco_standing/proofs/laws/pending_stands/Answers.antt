use Rattle.coco_standing.proofs.Pending.{pending_keeps, pending_stands}
use Rattle.coco_standing.proofs.laws.pending_stands.Goals as goal

pub returns : goal.returns
returns c = record { stands = pending_stands; keeps = pending_keeps }
