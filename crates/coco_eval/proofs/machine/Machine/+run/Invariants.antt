use Rattle.std.proofs.Common.{◌≡◌, ◌-◌, ◌*◌, []}
use Rattle.coco_ast.specs.Checks.{key_weight}
use Rattle.coco_ast.specs.Plans.{name_at}
use Rattle.coco_eval.specs.Planned.{statements_by}
use Rattle.coco_eval.specs.Moves.{kept_of}
use Rattle.coco_eval.specs.Places.{runs, turns, from}
use Rattle.coco_eval.proofs.RunLemmas.{IsLed}
use Rattle.coco_eval.proofs.machine.Machine.+run.Given as goal

abbrev pub invariant-behind-loop-at : goal.invariant-behind-loop-at
invariant-behind-loop-at l = record {
  path : l.self.path.items ≡ [];
  led : IsLed (λ m. runs m l.tables (from l.first (statements_by l.plan l.block)) (kept_of l.initial.self)) (λ m. runs m l.tables (from l.at (statements_by l.plan l.block)) (kept_of l.self))
      (key_weight (from l.first (statements_by l.plan l.block))) (key_weight (from l.at (statements_by l.plan l.block))) l.initial.self l.self;
}

abbrev pub invariant-turns-loop-turn : goal.invariant-turns-loop-turn
invariant-turns-loop-turn l = record {
  path : l.self.path.items ≡ [];
  led : IsLed (λ m. turns (runs m l.tables (statements_by l.plan l.block)) (name_at l.plan.names l.slot) (l.bound - l.first) l.first (kept_of l.initial.self)) (λ m. turns (runs m l.tables (statements_by l.plan l.block)) (name_at l.plan.names l.slot) (l.bound - l.turn) l.turn (kept_of l.self))
      ((l.bound - l.first) * key_weight (statements_by l.plan l.block)) ((l.bound - l.turn) * key_weight (statements_by l.plan l.block)) l.initial.self l.self;
}
