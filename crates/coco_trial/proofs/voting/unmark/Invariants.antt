use Rattle.std.proofs.Common.{◌≡◌, ◌++◌, map, take, drop}
use Rattle.coco_trial.specs.Voting.{unmarked}
use Rattle.coco_trial.proofs.voting.unmark.Given as goal

-- those before are unmarked
abbrev pub invariant-loop-place : goal.invariant-loop-place
invariant-loop-place l = l.voters ≡ map unmarked (take l.place l.initial.voters) ++ drop l.place l.initial.voters
