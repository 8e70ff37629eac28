use Rattle.std.proofs.Common.{◌≡◌, ℕ, ◌-◌, List, Some}
use Rattle.coco_host.specs.Files.{Files}
use Rattle.coco_log.specs.LogState.{IsOnlyRead}
use Rattle.coco_log.specs.Reading.{IsReading, IsOf}
use Rattle.coco_log.proofs.log.Log.reopen.Given as goal

abbrev pub invariant-loop-entries : goal.invariant-loop-entries
invariant-loop-entries g l = record {
  of : IsOf l.file l.kind l.entries;
  read : IsOnlyRead g.H.Host l.initial.host l.host;
  counts : g.H.Host.disk_faults l.host ≡ g.H.Host.disk_faults l.initial.host;
  told : (files : Files) → g.H.Host.reads l.initial.host ≡ Some files → (bodies : List (List ℕ)) × IsReading l.entries bodies (files l.file);
}

abbrev pub decreases-loop-entries : goal.decreases-loop-entries
decreases-loop-entries g l = l.entries.end - l.entries.at
