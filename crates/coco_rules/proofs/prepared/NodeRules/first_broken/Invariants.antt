use Rattle.std.proofs.Common.{◌≡◌, [], take}
use Rattle.coco_store.specs.Rules.{EachBehind, IsNodeRow, Setting}
use Rattle.coco_rules.proofs.prepared.NodeRules.first_broken.Given as goal

abbrev pub invariant-loop-place : goal.invariant-loop-place
invariant-loop-place l = (s : Setting) → s.entry.layout ≡ l.layout → s.tree ≡ l.procs → EachBehind (λ _. IsNodeRow s l.self.node) [] (take l.place l.rows)
