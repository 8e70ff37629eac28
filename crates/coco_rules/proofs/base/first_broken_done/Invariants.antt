use Rattle.std.proofs.Common.{◌≡◌, List, ◌++◌, take}
use Rattle.coco_types.specs.declared.call.Done.{Done}
use Rattle.coco_store.specs.Rules.{EachBehind, IsKeptDone, Setting}
use Rattle.coco_rules.specs.Noting.{AreNoted}
use Rattle.coco_rules.proofs.base.first_broken_done.Given as goal

abbrev pub invariant-loop-place : goal.invariant-loop-place
invariant-loop-place l =
    (s : Setting) (before : List Done) → s.tree ≡ l.procs → s.entry.layout.base_epoch ≡ l.base_epoch → AreNoted s.entry.keep before l.fn.noted
    → EachBehind (IsKeptDone s) before (take l.place l.dones) × AreNoted s.entry.keep (before ++ take l.place l.dones) l.noted
