use Rattle.std.proofs.Common.{vec_len}
use Rattle.coco_parallel.proofs.rooms.keep_all.Given as goal

abbrev pub decreases-loop-journal : goal.decreases-loop-journal
decreases-loop-journal g l = vec_len l.journals
