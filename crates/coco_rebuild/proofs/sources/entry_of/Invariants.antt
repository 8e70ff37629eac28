use Rattle.std.proofs.Common.{◌≡◌, ℕ, ◌-◌, ◌<◌, List, Some}
use Rattle.coco_entry.specs.Rows.{IsPrepared}
use Rattle.coco_entry.specs.declared.prepared.Prepared.{Prepared}
use Rattle.coco_host.specs.Files.{Files}
use Rattle.coco_log.specs.LogState.{IsOnlyRead}
use Rattle.coco_log.specs.Reading.{IsOf}
use Rattle.coco_store.specs.Entries.{prepared_kind}
use Rattle.coco_rebuild.specs.Sources.{HasEpoch, IsReadUpTo}
use Rattle.coco_rebuild.proofs.Reading.{IsAt}
use Rattle.coco_rebuild.proofs.sources.entry_of.Given as goal

-- the entry that was read last is there, and those before it are of earlier epochs
abbrev pub invariant-loop-prepared : goal.invariant-loop-prepared
invariant-loop-prepared g l = record {
  of : IsOf l.file prepared_kind l.entries;
  is : IsPrepared l.prepared;
  at : (all : List Prepared) (last : ℕ) (files : Files) → g.H.Host.reads l.fn.host ≡ Some files → HasEpoch all l.epoch (files l.file) → last < l.epoch → IsReadUpTo l.fn.entries all last (files l.file)
      → IsAt l.entries all l.prepared l.epoch (files l.file);
  read : IsOnlyRead g.H.Host l.fn.host l.host;
  counts : g.H.Host.disk_faults l.host ≡ g.H.Host.disk_faults l.fn.host;
}

abbrev pub decreases-loop-prepared : goal.decreases-loop-prepared
decreases-loop-prepared g l = l.entries.end - l.entries.at
