use Rattle.coco_occ.proofs.Attempts.{starts}
use Rattle.coco_occ.proofs.attempt.Attempt.start.Goals as goal

pub invariant_of-result-2 : goal.invariant_of-result-2
invariant_of-result-2 c =
    starts c.args.procs.now c.args.request.now.call _ _ c.args.by c.args.partitions _ _ _ c.in_ok-run.ensures c.in_ok-script.ensures c.requires.partitions c.in_ok-course.ensures
