use Rattle.std.proofs.Common.{◌≡◌, ◌-◌, length}
use Rattle.coco_ast.specs.Keyed.{Rows}
use Rattle.coco_eval.specs.Standing.{Ready, HasGiven}
use Rattle.coco_tail.specs.Shards.{AreQuietAfter, HaveNewest, KeepStable}
use Rattle.coco_tail.proofs.calls.read_all.Given as goal

-- it is ready, and has been given the newest values, which stay
abbrev pub invariant-loop-key : goal.invariant-loop-key
invariant-loop-key l = record {
  procs : l.running.procs ≡ l.initial.running.procs;
  call : l.running.call ≡ l.initial.running.call;
  ready : l.running.standing ≡ Ready;
  given : (m : Rows) → HaveNewest m l.initial.shards → HasGiven l.running.given m;
  newest : (m : Rows) → HaveNewest m l.initial.shards → HaveNewest m l.shards;
  quiet : AreQuietAfter l.time l.shards;
  kept : KeepStable l.initial.shards l.shards;
}

abbrev pub decreases-loop-key : goal.decreases-loop-key
decreases-loop-key l = 64 - length l.running.given
