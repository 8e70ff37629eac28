use Rattle.std.proofs.Common.{◌≡◌, Some}
use Rattle.coco_host.specs.Files.{Files}
use Rattle.coco_log.specs.LogState.{IsOnlyRead}
use Rattle.coco_recover.specs.Nodes.{nodes_of}
use Rattle.coco_recover.specs.Without.{AreOthersHeld, AreOthersRead}
use Rattle.coco_recover.proofs.without.read_others.Given as goal

abbrev pub invariant-loop-node : goal.invariant-loop-node
invariant-loop-node g l = record {
  read : AreOthersRead l.last l.committed l.left_out l.loaded l.logs.items l.node;
  only : IsOnlyRead g.H.Host l.initial.host l.host;
  counts : g.H.Host.disk_faults l.host ≡ g.H.Host.disk_faults l.initial.host;
  held : (files : Files) → g.H.Host.reads l.initial.host ≡ Some files → AreOthersHeld files (g.H.Host.may_leave l.host) l.last l.committed l.left_out (nodes_of l.loaded) l.logs.items l.node;
}
