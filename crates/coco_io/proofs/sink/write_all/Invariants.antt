use Rattle.std.proofs.Common.{◌-◌, length}
use Rattle.coco_io.proofs.PartLemmas.{Took}
use Rattle.coco_io.proofs.sink.write_all.Given as goal

abbrev pub invariant-loop-done : goal.invariant-loop-done
invariant-loop-done g l =
    Took (g.E.Sink.contents l.initial.to) (g.E.Sink.contents l.to) (g.E.Sink.faults l.initial.to) (g.E.Sink.faults l.to) l.piece l.done

abbrev pub decreases-loop-done : goal.decreases-loop-done
decreases-loop-done g l = length l.piece - l.done
