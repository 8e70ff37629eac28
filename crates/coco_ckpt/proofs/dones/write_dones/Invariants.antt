use Rattle.std.proofs.Common.{◌≡◌, ℕ, ◌<◌, List, [], ◌∷◌, ◌++◌, length}
use Rattle.std.specs.VecDeque.Iter.{deque_iter_rest}
use Rattle.coco_entry.specs.declared.base.TheConstants.{MOST_ITEMS}
use Rattle.coco_log.specs.Changes.{ChangesOnly}
use Rattle.coco_log.specs.Drafts.{Drafts}
use Rattle.coco_store.specs.Entries.{Dones}
use Rattle.coco_ckpt.specs.Writing.{HasPut}
use Rattle.coco_ckpt.proofs.dones.write_dones.Given as goal

-- entries were added of all Dones so far but those that wait for the next one
abbrev pub invariant-loop-done : goal.invariant-loop-done
invariant-loop-done g l = record {
  few : length l.batch.items < MOST_ITEMS;
  file : l.draft.file ≡ l.initial.draft.file;
  kind : l.draft.kind ≡ l.initial.draft.kind;
  put : (bodies : List (List ℕ)) → Drafts l.initial.draft bodies (g.H.Host.reads l.initial.host) → HasPut Dones l.kept.dones (l.batch.items ++ deque_iter_rest l.done-iterator) bodies l.draft (g.H.Host.reads l.host);
  changes : ChangesOnly g.H.Host (l.initial.draft.file ∷ []) l.initial.host l.host;
  counts : g.H.Host.disk_faults l.host ≡ g.H.Host.disk_faults l.initial.host;
}
