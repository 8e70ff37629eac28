use Rattle.std.proofs.Common.{◌≡◌, ◌≤◌, take, length}
use Rattle.std.specs.Vec.{vec_len, vec_capacity}
use Rattle.coco_occ.proofs.Interleavings.{SoFar}
use Rattle.coco_occ.proofs.turns.run_steps.Given as goal

abbrev pub invariant-loop-who : goal.invariant-loop-who
invariant-loop-who l = record {
  so_far : SoFar (take l.who-index l.order) l.moves.items l.fn.shards l.shards l.fn.attempts l.attempts;
  few : vec_len l.moves ≤ l.who-index;
  room : vec_capacity l.moves ≡ length l.order;
}
