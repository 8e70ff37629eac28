-- What becomes of some of the tables in a list.
use Rattle.std.specs.Prelude.{◌≡◌, ℕ, ◌<◌, Bool, true, false, List, length, slice_index_or}
use Rattle.std.specs.FinMap.{get, empty}
use Rattle.coco_types.specs.RowKey.{RowKey}
use Rattle.coco_copy.specs.CopyState.{CopyState, begun, promoted_at}
use Rattle.coco_shard.specs.RowState.{ShardState, Holds, newest_at}

-- as many as before: those at the chosen places are what the change makes of them, and the others as they were
pub record ChangesAt {X : Type 0} (none : X) (chosen : ℕ → Bool) (Makes : ℕ → X → X → Type 0) (old new : List X) : Type 0 where
  pub count : length new ≡ length old
  pub there : (place : ℕ) → place < length old → chosen place ≡ true → Makes place (slice_index_or old place none) (slice_index_or new place none)
  pub elsewhere : (place : ℕ) → chosen place ≡ false → slice_index_or new place none ≡ slice_index_or old place none

-- what promoting makes of a shard, and of a copy
abbrev pub PromotesShard : ShardState → ShardState → Type 0
PromotesShard s t = Holds (newest_at s) t

pub record PromotesCopy (s t : CopyState) : Type 0 where
  pub epoch : t.epoch ≡ s.epoch
  pub stable : (k : RowKey) → get t.stable k ≡ promoted_at s k
  pub pending : t.pending ≡ empty

-- and what reverting makes of a copy
abbrev pub reverted : CopyState → CopyState
reverted s = begun s.epoch s.stable
