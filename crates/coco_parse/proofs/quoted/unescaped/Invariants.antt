use Rattle.std.proofs.Common.{length, drop, ◌-◌, ◌≡◌, ◌≤◌, ◌++◌}
use Rattle.coco_parse.specs.Escapes.{unescaped}
use Rattle.coco_parse.proofs.quoted.unescaped.Given as goal

abbrev pub invariant-loop-at : goal.invariant-loop-at
invariant-loop-at l = record {
  within : l.at ≤ length l.bytes;
  whole : l.content.items ++ unescaped (drop l.at l.bytes) ≡ unescaped l.bytes;
}

abbrev pub decreases-loop-at : goal.decreases-loop-at
decreases-loop-at l = length l.bytes - l.at
