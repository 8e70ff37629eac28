use Rattle.std.proofs.Common.{◌≡◌, List, ◌++◌, take}
use Rattle.coco_types.specs.declared.call.Done.{Done}
use Rattle.coco_store.specs.Entries.{BaseEntry}
use Rattle.coco_store.specs.Rules.{EachBehind, IsCommittedDone, Setting}
use Rattle.coco_rules.specs.Behind.{IsBehindDones}
use Rattle.coco_rules.proofs.commits.HistoryRules.first_broken.Given as goal

abbrev pub invariant-loop-place : goal.invariant-loop-place
invariant-loop-place l =
    (l.self.last_epoch ≡ l.fn.self.last_epoch)
    × ((s : Setting) (base : List BaseEntry) (before : List Done) → s.tree ≡ l.procs → IsBehindDones s base before l.fn.self
    → EachBehind (IsCommittedDone s base) before (take l.place l.dones) × IsBehindDones s base (before ++ take l.place l.dones) l.self)
