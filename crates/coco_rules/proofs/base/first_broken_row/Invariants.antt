use Rattle.std.proofs.Common.{◌≡◌, List, ◌++◌, take}
use Rattle.coco_types.specs.RowKey.{RowKey}
use Rattle.coco_types.specs.declared.value.Value.{Value}
use Rattle.coco_store.specs.Rules.{EachBehind, IsNextValue, Setting}
use Rattle.coco_rules.specs.Basing.{EndsAtKey}
use Rattle.coco_rules.proofs.base.first_broken_row.Given as goal

abbrev pub invariant-loop-place : goal.invariant-loop-place
invariant-loop-place l =
    (s : Setting) (before : List (RowKey × Value)) → s.tree ≡ l.procs → EndsAtKey before l.fn.last
    → EachBehind (IsNextValue s) before (take l.place l.rows) × EndsAtKey (before ++ take l.place l.rows) l.last
