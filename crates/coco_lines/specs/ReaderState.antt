-- What contracts see of a reader.
use Rattle.std.specs.Prelude.{◌≡◌, ℕ, ◌+◌, ◌≤◌, List, [], Bool, true, length}
use Rattle.coco_types.specs.Limits.{most_input_bytes}

-- the bytes taken from the source and not given yet, whether the input ended behind them, how many bytes were taken, and how many lines given
pub record ReaderState : Type 0 where
  pub pending : List ℕ
  pub ended : Bool
  pub taken : ℕ
  pub given : ℕ

pub record IsReaderState (s : ReaderState) : Type 0 where
  pub counts : s.given + length s.pending ≤ s.taken
  pub within : s.taken ≤ most_input_bytes
  pub none_behind : s.ended ≡ true → s.pending ≡ []
