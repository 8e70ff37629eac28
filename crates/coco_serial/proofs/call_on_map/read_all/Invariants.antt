use Rattle.std.proofs.Common.{◌≡◌, ◌-◌, length}
use Rattle.coco_eval.specs.Standing.{Ready, HasGiven}
use Rattle.coco_serial.specs.Applied.{rows_of}
use Rattle.coco_serial.proofs.call_on_map.read_all.Given as goal

-- it is ready, and has been given what the map has
abbrev pub invariant-loop-key : goal.invariant-loop-key
invariant-loop-key l = record {
  procs : l.running.procs ≡ l.initial.running.procs;
  call : l.running.call ≡ l.initial.running.call;
  ready : l.running.standing ≡ Ready;
  given : HasGiven l.running.given (rows_of l.rows);
}

abbrev pub decreases-loop-key : goal.decreases-loop-key
decreases-loop-key l = 64 - length l.running.given
