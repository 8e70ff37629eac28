use Rattle.std.proofs.Common.{◌≡◌, ◌-◌, length}
use Rattle.coco_io.proofs.PartLemmas.{Took}
use Rattle.coco_host.specs.Files.{NoMore}
use Rattle.coco_host.proofs.Saying.{SeesSaid}
use Rattle.coco_host.proofs.host.say_all.Given as goal

abbrev pub invariant-loop-done : goal.invariant-loop-done
invariant-loop-done g l = record {
  took : Took (g.H.Host.said l.initial.host) (g.H.Host.said l.host) (g.H.Host.say_faults l.initial.host) (g.H.Host.say_faults l.host) l.piece l.done;
  same : g.H.Host.reads l.host ≡ g.H.Host.reads l.initial.host;
  others : g.H.Host.disk_faults l.host ≡ g.H.Host.disk_faults l.initial.host;
  crash : NoMore (g.H.Host.may_leave l.initial.host) (g.H.Host.may_leave l.host);
  sees : SeesSaid g.H.Host l.initial.host l.host;
}

abbrev pub decreases-loop-done : goal.decreases-loop-done
decreases-loop-done g l = length l.piece - l.done
