use Rattle.std.proofs.Common.{◌≡◌, ◌-◌, Some}
use Rattle.coco_host.specs.Files.{Files}
use Rattle.coco_log.specs.LogState.{IsOnlyRead}
use Rattle.coco_log.specs.Reading.{IsOf}
use Rattle.coco_read.specs.EntryRules.{IsUnderWay}
use Rattle.coco_read.proofs.reading.read_file.Given as goal

abbrev pub invariant-loop-entries : goal.invariant-loop-entries
invariant-loop-entries g l = record {
  of : IsOf l.file l.kind l.entries;
  setting : g.R.Rules.setting l.rules ≡ g.R.Rules.setting l.initial.rules;
  read : IsOnlyRead g.H.Host l.initial.host l.host;
  counts : g.H.Host.disk_faults l.host ≡ g.H.Host.disk_faults l.initial.host;
  told : (files : Files) → g.H.Host.reads l.initial.host ≡ Some files → IsUnderWay (g.R.Rules.rules (g.R.Rules.setting l.initial.rules)) l.entries (g.R.Rules.taken l.rules) (files l.file);
}

abbrev pub decreases-loop-entries : goal.decreases-loop-entries
decreases-loop-entries g l = l.entries.end - l.entries.at
