use Rattle.std.proofs.Common.{take}
use Rattle.coco_desks.specs.Gains.{AreSame, Gain}
use Rattle.coco_worker.specs.Copying.{asked, puts_at}
use Rattle.coco_worker.proofs.copies.deliver.Given as goal

-- the first writes are delivered
abbrev pub invariant-loop-write : goal.invariant-loop-write
invariant-loop-write g l = record {
  same : AreSame l.fn.passes l.passes;
  copied : Gain asked l.fn.passes l.passes (λ table. puts_at (g.N.Net.carries l.net) l.commit table (take l.write-index l.writes));
}
