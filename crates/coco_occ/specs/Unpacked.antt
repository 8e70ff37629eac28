-- What is kept packed, as contracts see it.
use Rattle.std.specs.Prelude.{◌≡◌, List, map}
use Rattle.coco_types.specs.declared.call.AttemptId.{AttemptId}
use Rattle.coco_shard.specs.Packed.{answer_of, op_of}
use Rattle.coco_occ.specs.declared.outcome.Outcome.{Outcome}
use Rattle.coco_occ.specs.declared.outcome.Outcome.TheVariants.{Committed, Conflict, OverTime}
use Rattle.coco_occ.specs.declared.packed_outcome.Kind.{Kind}
use Rattle.coco_occ.specs.declared.packed_outcome.Kind.TheVariants as kept
use Rattle.coco_occ.specs.declared.script.PackedStep.{PackedStep}
use Rattle.coco_occ.specs.declared.script.Step.{Step}

abbrev pub outcome_of : Kind → Outcome
outcome_of (kept.Committed time reply) = Committed time reply
outcome_of (kept.Conflict why) = Conflict why
outcome_of kept.OverTime = OverTime

-- a step, as it is kept
abbrev pub step_from : AttemptId → PackedStep → Step
step_from by s = record { shard = s.shard; ask = record { by = by; op = op_of s.op }; answer = answer_of s.answer }

abbrev pub steps_of : AttemptId → List PackedStep → List Step
steps_of by items = map (step_from by) items

-- another packed step that says the same
abbrev pub IsCopyOf : PackedStep → PackedStep → Type 0
IsCopyOf s copy = (by : AttemptId) → step_from by copy ≡ step_from by s
