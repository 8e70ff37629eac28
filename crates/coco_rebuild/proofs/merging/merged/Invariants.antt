use Rattle.std.proofs.Common.{◌+◌, length, reverse}
use Rattle.coco_rebuild.proofs.Interleaving.{IsMerging}
use Rattle.coco_rebuild.specs.Sources.{HaveOtherKeys}
use Rattle.coco_rebuild.proofs.merging.merged.Given as goal

-- the rows that were taken, the last one first, stand behind those that are left
abbrev pub invariant-loop-row : goal.invariant-loop-row
invariant-loop-row l = record {
  merging : IsMerging l.initial.rows.items l.initial.others.items l.rows.items l.others.items (reverse l.merged.items);
  apart : HaveOtherKeys l.rows.items l.others.items;
}

-- so many rows are left
abbrev pub decreases-loop-row : goal.decreases-loop-row
decreases-loop-row l = length l.rows.items + length l.others.items
