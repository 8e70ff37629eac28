use Rattle.std.proofs.Common.{◌≡◌, Some, map}
use Rattle.coco_host.specs.Files.{Files}
use Rattle.coco_log.specs.LogState.{IsOnlyRead}
use Rattle.coco_recover.specs.Nodes.{greatest_prepared, nodes_of}
use Rattle.coco_recover.specs.Steps.{AreHeld, AreRead}
use Rattle.coco_recover.proofs.files.read_nodes.Given as goal

abbrev pub invariant-loop-node : goal.invariant-loop-node
invariant-loop-node g l = record {
  read : AreRead l.last l.committed l.loaded l.logs.items l.node;
  only : IsOnlyRead g.H.Host l.initial.host l.host;
  counts : g.H.Host.disk_faults l.host ≡ g.H.Host.disk_faults l.initial.host;
  held : (files : Files) → g.H.Host.reads l.initial.host ≡ Some files → AreHeld files (g.H.Host.may_leave l.host) l.last l.committed (nodes_of l.loaded) l.logs.items l.node;
  prepared : l.prepared.items ≡ map greatest_prepared (nodes_of l.loaded);
}
