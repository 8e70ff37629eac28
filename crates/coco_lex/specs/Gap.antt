-- What separates tokens.
use Rattle.std.specs.Prelude.{◌≡◌, ◌≢◌, ℕ, ◌<◌, ◌≤◌, ◌⊎◌, List, length, slice_index, IsTrue}
use Rattle.coco_lex.specs.Bytes.{is_blank, number_sign, line_feed}

-- byte i belongs to a comment: a number sign stands at or before it, no earlier than `from`, and no line feed between
abbrev pub IsCommented : List ℕ → ℕ → ℕ → Type 0
IsCommented text from i = (j : ℕ) × (from ≤ j) × (j ≤ i) × (slice_index text j ≡ number_sign) × ((k : ℕ) → j ≤ k → k < i → slice_index text k ≢ line_feed)

abbrev pub Separates : List ℕ → ℕ → ℕ → Type 0
Separates text from i = IsTrue (is_blank (slice_index text i)) ⊎ IsCommented text from i

-- each byte of the gap separates, and the byte behind it does not
pub record IsGap (text : List ℕ) (from to : ℕ) : Type 0 where
  pub ordered : from ≤ to
  pub within : to ≤ length text
  pub separates : (i : ℕ) → from ≤ i → i < to → Separates text from i
  pub ends : to < length text → ¬ (Separates text from to)
