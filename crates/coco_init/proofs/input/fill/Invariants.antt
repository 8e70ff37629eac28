use Rattle.std.proofs.Common.{◌≡◌, ◌≤◌, ◌-◌, length, take}
use Rattle.coco_lines.specs.Reads.{Gives, source_moment}
use Rattle.coco_init.proofs.input.fill.Given as goal

-- the source gave what stands in front of the count
abbrev pub invariant-reads : goal.invariant-reads
invariant-reads g l = record {
  within : l.count ≤ length l.into;
  gives : Gives (source_moment g.S.Source l.fn.input) (source_moment g.S.Source l.input) (take l.count l.into);
  counts : g.S.Source.faults l.input ≡ g.S.Source.faults l.fn.input;
}

abbrev pub decreases-reads : goal.decreases-reads
decreases-reads g l = length l.initial.into - l.count
