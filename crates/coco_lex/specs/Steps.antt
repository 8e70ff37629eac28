-- What the small functions of the lexer find.
use Rattle.std.specs.Prelude.{◌≡◌, ◌≢◌, ℕ, ◌+◌, ◌-◌, ◌<◌, ◌≤◌, ◌⊎◌, List, ◌++◌, length, take, slice_index, IsTrue}
use Rattle.coco_lex.specs.Bytes.{quote, is_blank, number_sign, line_feed}
use Rattle.coco_lex.specs.Lexeme.{escaped}
use Rattle.coco_lex.specs.Refusal.{Opens, IsBadAt}

-- a comment of n bytes, up to its line feed or the end of the text
pub record IsComment (rest : List ℕ) (n : ℕ) : Type 0 where
  pub positive : 0 < n
  pub within : n ≤ length rest
  pub inside : (k : ℕ) → k + 1 < n → slice_index rest k ≢ line_feed
  pub ended : n < length rest → slice_index rest (n - 1) ≡ line_feed

-- a blank or a comment of n bytes at the front, or neither where n is 0
pub record IsSeparator (rest : List ℕ) (n : ℕ) : Type 0 where
  pub within : n ≤ length rest
  pub none : n ≡ 0 → (¬ (IsTrue (is_blank (slice_index rest 0)))) × (slice_index rest 0 ≢ number_sign)
  pub some : 0 < n → ((n ≡ 1) × IsTrue (is_blank (slice_index rest 0))) ⊎ ((slice_index rest 0 ≡ number_sign) × IsComment rest n)

-- where a text's content stops: at the end of the rest, at a quote, or at what is bad
abbrev pub Stops : List ℕ → ℕ → Type 0
Stops rest n = n < length rest → (slice_index rest n ≡ quote) ⊎ IsBadAt rest n

-- the next part of a text's content is n bytes long, or the content stops where n is 0
pub record IsPart (rest : List ℕ) (at n : ℕ) : Type 0 where
  pub within : at + n ≤ length rest
  pub stops : n ≡ 0 → Stops rest at
  pub part : 0 < n → (b : ℕ) × (32 ≤ b) × (take (at + n) rest ≡ take at rest ++ escaped b)

-- a text's content up to where it stops, with how many bytes it has
pub record IsContent (rest : List ℕ) (end count : ℕ) : Type 0 where
  pub content : List ℕ
  pub opens : Opens rest end content
  pub counts : length content ≡ count
  pub stops : Stops rest end
