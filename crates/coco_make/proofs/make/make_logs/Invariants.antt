use Rattle.std.proofs.Common.{◌≡◌, Some}
use Rattle.coco_host.specs.Files.{Files}
use Rattle.coco_log.specs.Changes.{ChangesOnly}
use Rattle.coco_make.specs.Steps.{HaveLogs}
use Rattle.coco_make.proofs.make.make_logs.Given as goal

abbrev pub invariant-loop-file : goal.invariant-loop-file
invariant-loop-file g l = record {
  changes : ChangesOnly g.H.Host l.files l.initial.host l.host;
  counts : g.H.Host.disk_faults l.host ≡ g.H.Host.disk_faults l.initial.host;
  made : (before : Files) → g.H.Host.reads l.initial.host ≡ Some before → HaveLogs l.kind l.files l.file-index before (g.H.Host.reads l.host) (g.H.Host.may_leave l.host);
}
