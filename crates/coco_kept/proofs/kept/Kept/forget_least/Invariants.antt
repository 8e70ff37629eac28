use Rattle.std.proofs.Common.{◌≡◌, ◌≤◌, not, length, nat_eq}
use Rattle.std.specs.List.{filter, AllByRecursion}
use Rattle.coco_ast.specs.History.{ids_of, greatest_with}
use Rattle.coco_kept.proofs.kept.Kept.forget_least.Given as goal

-- those that are to stay are there, and the floor grows by what is still to go
abbrev pub invariant-loop-self : goal.invariant-loop-self
invariant-loop-self l = record {
  from : AllByRecursion (λ d. l.least ≤ d.epoch) l.self.dones;
  stay : filter (λ d. not (nat_eq d.epoch l.least)) l.self.dones ≡ filter (λ d. not (nat_eq d.epoch l.least)) l.initial.self.dones;
  floor : greatest_with l.self.floor (ids_of (filter (λ d. nat_eq d.epoch l.least) l.self.dones)) ≡ greatest_with l.initial.self.floor (ids_of (filter (λ d. nat_eq d.epoch l.least) l.initial.self.dones));
  keep : l.self.keep ≡ l.initial.self.keep;
  room : l.initial.self.room ≤ l.self.room;
}

abbrev pub decreases-loop-self : goal.decreases-loop-self
decreases-loop-self l = length l.self.dones
