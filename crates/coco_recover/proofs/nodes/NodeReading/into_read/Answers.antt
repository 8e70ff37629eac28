use Rattle.std.proofs.Common.{refl}
use Rattle.coco_recover.specs.Nodes.{node_basis}
use Rattle.coco_recover.proofs.NodeFiles.{read_so}
use Rattle.coco_recover.proofs.nodes.NodeReading.into_read.Goals as goal

pub returns : goal.returns
returns c =
    let r = c.self.inside in
    let b = node_basis r.layout.now r.procs.now r.epochs.now r.node r.shards.items r.copies.items in
    rw (← c.self.view_is, c.if-self.false)
    (record {
      entries = refl;
      read = λ s layout tree. read_so b s r.rules (record { tables = r.tables; greatest = r.greatest; entries = r.taken }) layout tree (c.self.invariant.1 c.if-self.false);
      err = tt;
    })
