use Rattle.std.proofs.Common.{◌≡◌, ◌+◌, length}
use Rattle.coco_ast.specs.Keyed.{Rows}
use Rattle.coco_tail.specs.Running.{FitAll, IsOver, requests_of}
use Rattle.coco_tail.specs.Shards.{AreQuietAfter, HaveNewest, KeepStable}
use Rattle.coco_tail.proofs.TailLemmas.{TailLeft}
use Rattle.coco_tail.proofs.progress.Progress.run_tail.Given as goal

-- the tail of the other requests comes behind
abbrev pub invariant-loop-placed : goal.invariant-loop-placed
invariant-loop-placed l = record {
  fit : FitAll l.procs (requests_of l.placed-iterator.rest.items);
  few : l.time + length l.placed-iterator.rest.items ≡ l.after + length l.fn.tail.items;
  over : IsOver l.self.running;
  epoch : l.self.epoch ≡ l.initial.self.epoch;
  quiet : AreQuietAfter l.time l.shards;
  kept : KeepStable l.initial.shards l.shards;
  left : (m : Rows) → HaveNewest m l.initial.shards →
      TailLeft l.procs l.initial.self.epoch (length l.initial.shards) m l.after l.fn.tail.items l.initial.self.dones.items l.initial.self.pieces
      l.time l.placed-iterator.rest.items l.self.dones.items l.self.pieces l.shards;
}
