use Rattle.std.proofs.Common.{◌≡◌, ℕ, ◌<◌, List, [], ◌∷◌, ◌++◌, length, map}
use Rattle.std.specs.FinMap.{entries}
use Rattle.coco_load.specs.RowMaps.{lent_map}
use Rattle.coco_entry.specs.declared.base.TheConstants.{MOST_ITEMS}
use Rattle.coco_log.specs.Changes.{ChangesOnly}
use Rattle.coco_log.specs.Drafts.{Drafts}
use Rattle.coco_store.specs.Entries.{Values}
use Rattle.coco_ckpt.specs.Writing.{HasPut}
use Rattle.coco_ckpt.proofs.rows.write_rows.Given as goal

-- entries were added of all rows so far but those that wait for the next one
abbrev pub invariant-loop-key : goal.invariant-loop-key
invariant-loop-key g l = record {
  few : length l.batch.items < MOST_ITEMS;
  file : l.draft.file ≡ l.initial.draft.file;
  kind : l.draft.kind ≡ l.initial.draft.kind;
  put : (bodies : List (List ℕ)) → Drafts l.initial.draft bodies (g.H.Host.reads l.initial.host)
      → HasPut Values (entries (lent_map l.rows)) (l.batch.items ++ map (λ e. (e.0, e.1.now)) l.key-iterator) bodies l.draft (g.H.Host.reads l.host);
  changes : ChangesOnly g.H.Host (l.initial.draft.file ∷ []) l.initial.host l.host;
  counts : g.H.Host.disk_faults l.host ≡ g.H.Host.disk_faults l.initial.host;
}
