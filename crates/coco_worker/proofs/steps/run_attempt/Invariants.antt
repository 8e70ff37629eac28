use Rattle.std.proofs.Common.{◌≡◌}
use Rattle.coco_desks.specs.Gains.{AreSame}
use Rattle.coco_occ.specs.Steps.{at_shard}
use Rattle.coco_occ.specs.Trying.{Ready}
use Rattle.coco_worker.specs.Gains.{Make}
use Rattle.coco_worker.proofs.steps.run_attempt.Given as goal

-- the attempt is ready, and the passes made just what it asked
abbrev pub invariant-loop : goal.invariant-loop
invariant-loop g l = record {
  left : l.attempt ≡ record l.fn.attempt { script = l.attempt.script; standing = Ready };
  same : AreSame l.fn.passes l.passes;
  made : Make l.fn.passes l.passes (λ shard. at_shard shard l.attempt.script);
}
