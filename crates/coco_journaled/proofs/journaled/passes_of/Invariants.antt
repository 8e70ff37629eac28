use Rattle.std.proofs.Common.{◌≡◌, ◌≤◌, map, length, vec_len, vec_capacity}
use Rattle.coco_journaled.specs.Passes.{pass_at}
use Rattle.coco_journaled.proofs.journaled.passes_of.Given as goal

abbrev pub invariant-loop-note : goal.invariant-loop-note
invariant-loop-note g l = record {
  list : l.list.items ≡ map pass_at l.yielded;
  count : vec_len l.list ≡ length l.yielded;
  room : vec_len l.fn.notes ≤ vec_capacity l.list;
}
