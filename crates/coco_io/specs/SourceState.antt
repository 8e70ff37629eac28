-- What contracts see of a source in memory.
use Rattle.std.specs.Prelude.{ℕ, min, List, Bool, length}
use Rattle.coco_io.specs.Plan.{Plan}

-- the bytes that it gave, those that are left, whether a read met their end, how many a call gives at most, and its calls
pub record SourceState : Type 0 where
  pub given : List ℕ
  pub left : List ℕ
  pub at_end : Bool
  pub most : ℕ
  pub plan : Plan

-- how many bytes a read gives into a buffer of this length
abbrev pub count_given : SourceState → ℕ → ℕ
count_given s room = min (min (length s.left) room) s.most
