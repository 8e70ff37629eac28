use Rattle.std.proofs.Common.{◌≡◌, ◌++◌, take}
use Rattle.coco_parallel.specs.Ends.{AreLeft, dones_of}
use Rattle.coco_parallel.proofs.ends.take_from.Given as goal

-- the Dones so far have the calls of the requests as they were
abbrev pub invariant-loop-script : goal.invariant-loop-script
invariant-loop-script l = record {
  dones : l.dones.items ≡ l.fn.dones.items ++ dones_of l.epoch l.fn.requests (take l.script-index l.tried);
  left : AreLeft (take l.script-index l.tried) l.fn.requests l.requests;
}
