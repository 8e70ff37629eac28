use Rattle.std.proofs.Common.{◌≡◌, ◌-◌, length}
use Rattle.coco_desks.specs.Gains.{AreSame}
use Rattle.coco_worker.specs.Trying.{IsGated, IsOver}
use Rattle.coco_worker.proofs.WorkLemmas.{WorksSoFar, the_job}
use Rattle.coco_worker.proofs.worker.work.Given as goal

-- the requests that the seat drew are worked off
abbrev pub invariant-loop-place : goal.invariant-loop-place
invariant-loop-place g l = record {
  same : AreSame l.initial.slot.passes.items l.slot.passes.items;
  same_copies : AreSame l.initial.slot.copy_passes.items l.slot.copy_passes.items;
  worker : l.slot.worker ≡ l.initial.slot.worker;
  seat : l.slot.seat.claims ≡ l.claims;
  over : IsOver l.room;
  gated : IsGated (g.G.Gate.named l.gate) l.initial.slot → IsGated (g.G.Gate.named l.gate) l.slot;
  so_far : WorksSoFar (the_job l.procs l.requests (length l.shards) l.initial.slot.worker l.config (g.N.Net.carries l.net)) l.initial.slot l.slot;
}

abbrev pub decreases-loop-place : goal.decreases-loop-place
decreases-loop-place g l = l.claims.n - length l.slot.seat.drawn
