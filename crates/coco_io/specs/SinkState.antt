-- What contracts see of a sink in memory.
use Rattle.std.specs.Prelude.{◌≡◌, ℕ, List, true, false, Result, Ok, Err}
use Rattle.coco_types.specs.declared.error.OutFault.{OutFault}
use Rattle.coco_types.specs.declared.error.OutFault.TheVariants.{Failed, NoMemory}
use Rattle.coco_io.specs.Plan.{Plan, next_fails, after_call}

-- a sink in memory: the bytes that it took, and its calls
pub record SinkState : Type 0 where
  pub bytes : List ℕ
  pub plan : Plan

-- a write of a piece of this length takes it whole, fails where the plan says so, and lacks memory with nothing changed
abbrev pub WritesByPlan : Result ℕ OutFault → ℕ → SinkState → SinkState → Type 0
WritesByPlan (Ok k) len old new = (k ≡ len) × (next_fails old.plan ≡ false) × (new.plan ≡ after_call old.plan)
WritesByPlan (Err Failed) len old new = (next_fails old.plan ≡ true) × (new.plan ≡ after_call old.plan)
WritesByPlan (Err NoMemory) len old new = new ≡ old
