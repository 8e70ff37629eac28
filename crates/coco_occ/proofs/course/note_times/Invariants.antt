use Rattle.std.proofs.Common.{◌≡◌, length, take}
use Rattle.coco_occ.specs.Course.{Rise}
use Rattle.coco_occ.proofs.Searches.{times}
use Rattle.coco_occ.proofs.course.note_times.Given as goal

abbrev pub invariant-loop-read : goal.invariant-loop-read
invariant-loop-read l = record {
  len : length l.times ≡ length l.writes;
  noted : Rise l.writes → l.times ≡ times (take l.read-index l.seen) l.writes;
}
