use Rattle.coco_host.proofs.Crashing.{LeftSoFar}
use Rattle.coco_host.proofs.recorded.Recorded.crash.Given as goal

abbrev pub invariant-loop-file : goal.invariant-loop-file
invariant-loop-file l = LeftSoFar l.self l.self-inside.files.items l.file-index l.left
