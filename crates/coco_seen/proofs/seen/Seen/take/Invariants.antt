use Rattle.std.proofs.Common.{◌≡◌}
use Rattle.coco_seen.proofs.seen.Seen.take.Given as goal

abbrev pub invariant-loop-2 : goal.invariant-loop-2
invariant-loop-2 g l = l.note ≡ l.initial.note

abbrev pub invariant-loop : goal.invariant-loop
invariant-loop g l = l.note ≡ l.initial.note
