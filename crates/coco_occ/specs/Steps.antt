-- Steps of one attempt, and the steps at a shard.
use Rattle.std.specs.Prelude.{◌≡◌, ℕ, nat_eq, List, map}
use Rattle.std.specs.List.{filter, AllByRecursion}
use Rattle.coco_types.specs.declared.call.AttemptId.{AttemptId}
use Rattle.coco_shard.specs.Law.{Entry}
use Rattle.coco_occ.specs.declared.script.Step.{Step}

abbrev pub AreBy : AttemptId → List Step → Type 0
AreBy by steps = AllByRecursion (λ s. s.ask.by ≡ by) steps

-- without the shard
abbrev pub taken : Step → Entry
taken s = record { ask = s.ask; answer = s.answer }

abbrev pub at_shard : ℕ → List Step → List Entry
at_shard shard steps = map taken (filter (λ s. nat_eq s.shard shard) steps)
