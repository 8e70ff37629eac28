-- Where the faults of a batch come from.
use Rattle.std.specs.Prelude.{◌≡◌, ⊤, ℕ, ◌<◌, Result, Ok, Err}
use Rattle.coco_types.specs.Limits.{epochs_end}
use Rattle.coco_io.specs.Counts.{Rose}
use Rattle.coco_cluster.specs.Around.{Around, SkipsFew, spare}
use Rattle.coco_cluster.specs.GivingUp.{AreGivenUp}
use Rattle.coco_cluster.specs.declared.stop.Stop.{Stop}
use Rattle.coco_cluster.specs.declared.stop.Stop.TheVariants as stop

-- what two counts of faults are, before and after
pub record Counts : Type 0 where
  pub say : ℕ
  pub disk : ℕ

-- a batch doesn't read; a count rose where its fault is answered, and none moved where there is no fault; with a request or more, nodes are unreachable where four attempts were given up, and epochs are used up
-- where there is no next number, but for few that may have been skipped
abbrev pub CountsBatch : {T : Type 0} → Result T Stop → ℕ → Around → Around → ℕ → Counts → Counts → Type 0
CountsBatch (Ok x) next was now requests before after = after ≡ before
CountsBatch (Err stop.Read) next was now requests before after = ⊥
CountsBatch (Err stop.Say) next was now requests before after = Rose before.say after.say
CountsBatch (Err stop.Disk) next was now requests before after = Rose before.disk after.disk
CountsBatch (Err (stop.NotAStore file at)) next was now requests before after = after ≡ before
CountsBatch (Err stop.Unreachable) next was now requests before after = AreGivenUp 4 was now × (0 < requests)
CountsBatch (Err stop.EpochsUsedUp) next was now requests before after = SkipsFew next epochs_end 0 (spare was now) × (0 < requests)
CountsBatch (Err stop.NoMemory) next was now requests before after = ⊤
