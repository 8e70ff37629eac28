use Rattle.std.proofs.Common.{◌≡◌, ◌++◌, take}
use Rattle.coco_order.specs.Execution.{concat}
use Rattle.coco_parallel.specs.Ends.{AreLeft, dones_of}
use Rattle.coco_parallel.proofs.ends.take_commits.Given as goal

-- the Dones so far have the calls of the requests as they were
abbrev pub invariant-loop-transcript : goal.invariant-loop-transcript
invariant-loop-transcript l = record {
  dones : l.dones.items ≡ l.fn.dones.items ++ dones_of l.epoch l.fn.requests (concat (take l.transcript-index l.transcripts));
  left : AreLeft (concat (take l.transcript-index l.transcripts)) l.fn.requests l.requests;
}
