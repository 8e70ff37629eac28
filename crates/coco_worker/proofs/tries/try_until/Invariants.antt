use Rattle.std.proofs.Common.{◌<◌}
use Rattle.std.specs.Prelude.{length}
use Rattle.coco_desks.specs.Gains.{AreSame}
use Rattle.coco_worker.specs.Trying.{IsGated, IsOver, TriesOnly}
use Rattle.coco_worker.proofs.TryLemmas.{SoFar}
use Rattle.coco_worker.proofs.tries.try_until.Given as goal

-- those so far conflicted, and one more is allowed
abbrev pub invariant-attempts : goal.invariant-attempts
invariant-attempts g l = record {
  some : 0 < l.left;
  same : AreSame l.fn.slot.passes.items l.slot.passes.items;
  others : TriesOnly l.fn.slot l.slot;
  over : IsOver l.room;
  gated : IsGated (g.G.Gate.named l.gate) l.fn.slot → IsGated (g.G.Gate.named l.gate) l.slot;
  so_far : SoFar l.procs l.request l.place (length l.shards) l.attempts l.left l.fn.slot l.slot l.ends;
}

abbrev pub decreases-attempts : goal.decreases-attempts
decreases-attempts g l = l.left
