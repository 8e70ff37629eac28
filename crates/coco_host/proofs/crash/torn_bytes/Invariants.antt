use Rattle.std.proofs.Common.{◌≡◌, length}
use Rattle.coco_host.proofs.crash.torn_bytes.Given as goal

abbrev pub invariant-loop-place : goal.invariant-loop-place
invariant-loop-place l = length l.torn.items ≡ l.place
