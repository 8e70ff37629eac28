use Rattle.std.proofs.Common.{◌≡◌, ◌+◌, ◌*◌, ◌≤◌, take, length}
use Rattle.std.specs.List.{sum_by}
use Rattle.coco_bytes.specs.Values.{value_bytes}
use Rattle.coco_rules.proofs.lengths.args_len.Given as goal

abbrev pub invariant-loop-place : goal.invariant-loop-place
invariant-loop-place l = (l.len ≡ 1 + sum_by (λ x. length (value_bytes x)) (take l.place l.args)) × (l.len ≤ 1 + 259 * l.place)
