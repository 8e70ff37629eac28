use Rattle.std.proofs.Common.{◌≡◌, ◌+◌, ◌≤◌, length}
use Rattle.std.specs.List.{AllByRecursion}
use Rattle.std.specs.Slice.Iter.{chunks_rest, chunks_size}
use Rattle.coco_types.specs.Limits.{most_kept}
use Rattle.coco_types.specs.declared.call.Request.{Request}
use Rattle.coco_append.specs.Gaining.{RestsOn}
use Rattle.coco_ast.specs.Fitting.{Fits}
use Rattle.coco_cluster.specs.Around.{IsLater, SkipsFew, around, spare}
use Rattle.coco_cluster.specs.Standing.{AllStand, IsSound, StandsAt}
use Rattle.coco_store.specs.Contents.{Contents}
use Rattle.coco_try.proofs.EachLemmas.{AreWorkedOff}
use Rattle.coco_try.proofs.all_parts.work_off.Given as goal

-- the requests before those that are left are worked off, and nothing is said
abbrev pub invariant-loop-part : goal.invariant-loop-part
invariant-loop-part g l = record {
  works : (c : Contents) → RestsOn c (g.H.Host.reads l.fn.host) (g.H.Host.may_leave l.fn.host) → StandsAt c l.fn.cluster
      → AreWorkedOff g.H.Host c l.fn.cluster.next_epoch
      (spare (around g.N.Net g.P.Power l.fn.net l.fn.power)
      (around g.N.Net g.P.Power l.net l.power))
      l.bounds l.requests (chunks_rest l.part-iterator) l.worked l.cluster l.fn.host l.host;
  size : chunks_size l.part-iterator ≡ l.bounds.size;
  answered : l.worked.answered + length (chunks_rest l.part-iterator) ≤ length l.requests;
  epochs : l.worked.epochs + length (chunks_rest l.part-iterator) ≤ length l.requests;
  fit : AllByRecursion (λ (r : Request). Fits l.cluster.procs r.call) (chunks_rest l.part-iterator);
  low : SkipsFew l.fn.cluster.next_epoch l.cluster.next_epoch l.worked.epochs
      (spare (around g.N.Net g.P.Power l.fn.net l.fn.power)
      (around g.N.Net g.P.Power l.net l.power));
  later : IsLater (around g.N.Net g.P.Power l.fn.net l.fn.power)
      (around g.N.Net g.P.Power l.net l.power);
  sound : IsSound l.cluster (g.N.Net.sent l.net);
  room : length l.cluster.kept.dones ≤ most_kept;
  stand : AllStand l.cluster (g.H.Host.reads l.host) (g.H.Host.may_leave l.host);
  quiet : g.H.Host.said l.host ≡ g.H.Host.said l.fn.host;
  says : g.H.Host.say_faults l.host ≡ g.H.Host.say_faults l.fn.host;
  disks : g.H.Host.disk_faults l.host ≡ g.H.Host.disk_faults l.fn.host;
}
