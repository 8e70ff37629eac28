use Rattle.std.proofs.Common.{◌≡◌, ◌+◌, ◌-◌, ◌≤◌, true, length}
use Rattle.coco_cluster.specs.Around.{IsLater, around, spare}
use Rattle.coco_cluster.specs.Standing.{AllStand, IsSound}
use Rattle.coco_lines.specs.Reads.{IsSpent, source_moment}
use Rattle.coco_types.specs.Limits.{most_input_bytes, most_kept}
use Rattle.coco_serve.proofs.EndLemmas.{IsRunning}
use Rattle.coco_serve.proofs.all_batches.answer_lines.Given as goal

abbrev pub invariant-batches : goal.invariant-batches
invariant-batches g l = record {
  running : IsRunning g.H.Host l.fn.cluster.next_epoch
      (spare (around g.N.Net g.P.Power l.fn.net l.fn.power)
      (around g.N.Net g.P.Power l.net l.power)) l.bounds l.reader
      (source_moment g.S.Source l.fn.input) (source_moment g.S.Source l.input) l.fn.cluster l.cluster l.fn.host l.host;
  within : l.reader.given ≤ most_input_bytes;
  end : l.reader.ended ≡ true → IsSpent (source_moment g.S.Source l.input);
  later : IsLater (around g.N.Net g.P.Power l.fn.net l.fn.power)
      (around g.N.Net g.P.Power l.net l.power);
  sound : IsSound l.cluster (g.N.Net.sent l.net);
  room : length l.cluster.kept.dones ≤ most_kept;
  stand : AllStand l.cluster (g.H.Host.reads l.host) (g.H.Host.may_leave l.host);
  reads : g.S.Source.faults l.input ≡ g.S.Source.faults l.fn.input;
  says : g.H.Host.say_faults l.host ≡ g.H.Host.say_faults l.fn.host;
  disks : g.H.Host.disk_faults l.host ≡ g.H.Host.disk_faults l.fn.host;
}

abbrev pub decreases-batches : goal.decreases-batches
decreases-batches g l = most_input_bytes + 1 - l.reader.given
