use Rattle.std.proofs.Common.{take}
use Rattle.std.specs.List.{All}
use Rattle.coco_msg.specs.Bytes.{IsWrite}
use Rattle.coco_ship.proofs.ask.writes_fit.Given as goal

-- the writes so far
abbrev pub invariant-loop-write : goal.invariant-loop-write
invariant-loop-write l = All IsWrite (take l.write-index l.writes)
