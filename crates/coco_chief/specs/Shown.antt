-- What contracts see of the coordinator's core.
use Rattle.coco_chief.specs.declared.machine.ChiefCore.{ChiefCore}
use Rattle.coco_chief.specs.Chief.{Chief}
use Rattle.coco_chief.specs.Ranges.{covers}

abbrev pub chief_of : ChiefCore → Chief
chief_of c = record {
  nodes = c.nodes;
  committed = covers c.committed.items;
  last = c.last;
  current = c.current;
  phase = c.phase;
  voted = c.voted.items;
  finished = c.finished.items;
}
