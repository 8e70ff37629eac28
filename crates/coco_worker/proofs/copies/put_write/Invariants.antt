use Rattle.std.proofs.Common.{[], ◌∷◌}
use Rattle.coco_desks.specs.Gains.{AreSame, Gain}
use Rattle.coco_worker.specs.Copying.{asked}
use Rattle.coco_worker.proofs.CopyLemmas.{puts_below}
use Rattle.coco_worker.proofs.copies.put_write.Given as goal

-- the first copies of the write's partition are asked
abbrev pub invariant-loop-copy : goal.invariant-loop-copy
invariant-loop-copy g l = record {
  same : AreSame l.fn.passes l.passes;
  copied : Gain asked l.fn.passes l.passes (λ table. puts_below l.copy (g.N.Net.carries l.net) l.commit table (l.write ∷ []));
}
