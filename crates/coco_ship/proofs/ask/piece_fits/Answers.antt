use Rattle.std.proofs.Common.{subst}
use Rattle.std.specs.List.{All}
use Rattle.coco_msg.specs.Bytes.{IsWrite}
use Rattle.coco_ship.proofs.ask.piece_fits.Goals as goal

pub returns-clause-writes : goal.returns-clause-writes
returns-clause-writes c = subst (All IsWrite) c.as_slice.ensures c.writes_fit.ensures
