use Rattle.std.proofs.Common.{◌≡◌, ◌-◌, length}
use Rattle.coco_desks.specs.Gains.{AreSame}
use Rattle.coco_eval.specs.Standing.{Ready}
use Rattle.coco_query.specs.Reading.{Reads}
use Rattle.coco_query.proofs.reading.read_all.Given as goal

-- the run is ready, was given what was read, and nothing else was read
abbrev pub invariant-loop-key : goal.invariant-loop-key
invariant-loop-key g l = record {
  procs : l.running.procs ≡ l.fn.running.procs;
  call : l.running.call ≡ l.fn.running.call;
  ready : l.running.standing ≡ Ready;
  given : l.running.given ≡ l.had;
  same : AreSame l.fn.passes l.passes;
  reads : Reads (length l.tables) l.fn.passes l.passes l.had;
}

abbrev pub decreases-loop-key : goal.decreases-loop-key
decreases-loop-key g l = 64 - length l.running.given
