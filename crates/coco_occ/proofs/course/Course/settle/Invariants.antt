use Rattle.std.proofs.Common.{◌≡◌, ◌≤◌, length, take, map, None, vec_capacity}
use Rattle.coco_occ.proofs.course.Course.settle.Given as goal

abbrev pub invariant-loop : goal.invariant-loop
invariant-loop l = record {
  list : l.self.expected.items ≡ map (λ w. None) (take l.index l.writes);
  room : length l.writes ≤ vec_capacity l.self.expected;
  others : l.self ≡ record l.initial.self { expected = l.self.expected };
}
