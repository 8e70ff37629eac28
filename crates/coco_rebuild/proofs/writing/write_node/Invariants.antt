use Rattle.std.proofs.Common.{◌≡◌, ℕ, List, [], ◌∷◌, Some}
use Rattle.coco_host.specs.Files.{Files}
use Rattle.coco_log.specs.Changes.{ChangesOnly}
use Rattle.coco_log.specs.Drafts.{Drafts}
use Rattle.coco_store.specs.Contents.{Contents}
use Rattle.coco_store.specs.Entries.{prepared_kind}
use Rattle.coco_rebuild.specs.Sources.{AreOthers, AreSources}
use Rattle.coco_rebuild.proofs.Epochs.{AreWritten}
use Rattle.coco_rebuild.proofs.writing.write_node.Given as goal

-- the epochs so far have their entry in the draft
abbrev pub invariant-loop-epoch : goal.invariant-loop-epoch
invariant-loop-epoch g l = record {
  sources : AreSources l.layout l.node l.sources;
  file : l.draft.file ≡ l.file;
  kind : l.draft.kind ≡ prepared_kind;
  drafts : (bodies : List (List ℕ)) × Drafts l.draft bodies (g.H.Host.reads l.host);
  written : (files : Files) (c : Contents) → g.H.Host.reads l.fn.host ≡ Some files → AreOthers l.layout l.node l.epochs files c
      → AreWritten l.layout l.node l.epochs c l.epoch-index l.draft l.sources (g.H.Host.reads l.host);
  changes : ChangesOnly g.H.Host (l.file ∷ []) l.fn.host l.host;
  counts : g.H.Host.disk_faults l.host ≡ g.H.Host.disk_faults l.fn.host;
  stream : g.H.Host.say_faults l.host ≡ g.H.Host.say_faults l.fn.host;
}
