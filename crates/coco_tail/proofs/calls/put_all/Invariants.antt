use Rattle.std.proofs.Common.{◌≡◌, drop}
use Rattle.coco_ast.specs.Keyed.{Rows, put_over}
use Rattle.coco_tail.specs.Shards.{AreQuietAfter, HaveNewest, KeepStable}
use Rattle.coco_tail.proofs.calls.put_all.Given as goal

-- the other writes come behind
abbrev pub invariant-loop-write : goal.invariant-loop-write
invariant-loop-write l = record {
  newest : (m : Rows) → HaveNewest m l.initial.shards → (n : Rows) × HaveNewest n l.shards × (put_over n (drop l.write-index l.writes) ≡ put_over m l.writes);
  quiet : AreQuietAfter l.time l.shards;
  kept : KeepStable l.initial.shards l.shards;
}
