-- Where and why a procedure text has no tokens.
use Rattle.std.specs.Prelude.{◌≡◌, ◌≢◌, ℕ, ◌+◌, ◌%◌, ◌<◌, ◌≤◌, ◌⊎◌, List, ◌∷◌, length, take, drop, slice_index, All, IsUtf8, Result, Ok, Err}
use Rattle.std.specs.List.{suffix_len}
use Rattle.std.specs.Str.{IsValidUpTo}
use Rattle.std.specs.Str.Parse.{digits_value}
use Rattle.coco_ast.specs.declared.name.TheConstants.{MOST_NAME_BYTES}
use Rattle.coco_lex.specs.Bytes.{quote, backslash, is_backslash}
use Rattle.coco_lex.specs.Lexeme.{IsWord, IsDigits, IsQuoted, IsLexeme, IsLongest, spelled}
use Rattle.coco_lex.specs.Tokens.{AreTokens, Follow}
use Rattle.coco_types.specs.declared.limits.TheConstants.{MOST_TEXT_BYTES}
use Rattle.coco_lex.specs.declared.limits.TheConstants.{MOST_NUMBER}
use Rattle.coco_lex.specs.declared.token.Token.{Token}
use Rattle.coco_lex.specs.declared.error.LexError.{LexError}
use Rattle.coco_lex.specs.declared.error.LexFault.{LexFault}
use Rattle.coco_lex.specs.declared.error.LexFault.TheVariants.{Refused, NoMemory}
use Rattle.coco_lex.specs.declared.error.LexKind.{LexKind}
use Rattle.coco_lex.specs.declared.error.LexKind.TheVariants.{Utf8, Stray, LongName, WideNumber, OpenText, BadText, LongText}

-- how many backslashes stand directly before byte i
abbrev pub backslashes_before : List ℕ → ℕ → ℕ
backslashes_before bytes i = suffix_len is_backslash (take i bytes)

-- a quote behind the first closes a text where no backslash or an even number of them stands before it
pub record ClosesAt (rest : List ℕ) (i : ℕ) : Type 0 where
  pub behind : 0 < i
  pub within : i < length rest
  pub at_quote : slice_index rest i ≡ quote
  pub even : backslashes_before rest i % 2 ≡ 0

abbrev pub IsClosed : List ℕ → Type 0
IsClosed rest = (i : ℕ) × ClosesAt rest i

-- a control character, or a backslash before neither a quote nor a backslash
abbrev pub IsBadAt : List ℕ → ℕ → Type 0
IsBadAt rest n = (slice_index rest n < 32) ⊎ ((slice_index rest n ≡ backslash) × (slice_index rest (n + 1) ≢ quote) × (slice_index rest (n + 1) ≢ backslash))

-- a quote opens a text, and the bytes up to n spell its content
pub record Opens (rest : List ℕ) (n : ℕ) (content : List ℕ) : Type 0 where
  pub within : n ≤ length rest
  pub printable : All (λ b. 32 ≤ b) content
  pub spelling : take n rest ≡ quote ∷ spelled content

-- this is wrong at the front, and its place is n bytes behind that
abbrev pub IsFault : List ℕ → LexKind → ℕ → Type 0
IsFault rest Utf8 n = ⊥
IsFault rest Stray n = (n ≡ 0) × (slice_index rest 0 ≢ quote) × ((m : ℕ) → ¬ (IsLexeme (take m rest)))
IsFault rest LongName n = (n ≡ 0) × ((m : ℕ) × IsLongest rest m × IsWord (take m rest) × (MOST_NAME_BYTES < m))
IsFault rest WideNumber n = (n ≡ 0) × ((m : ℕ) × IsLongest rest m × IsDigits (take m rest) × (MOST_NUMBER < digits_value 10 (take m rest)))
IsFault rest OpenText n = (n ≡ 0) × (slice_index rest 0 ≡ quote) × (¬ (IsClosed rest))
IsFault rest BadText n = IsClosed rest × (n < length rest) × IsBadAt rest n × ((content : List ℕ) × Opens rest n content)
IsFault rest LongText n = (n ≡ 0) × ((m : ℕ) × (content : List ℕ) × IsLongest rest m × IsQuoted content (take m rest) × (MOST_TEXT_BYTES < length content))

-- this is wrong with what stands at a place
pub record IsFaultAt (text : List ℕ) (from : ℕ) (e : LexError) : Type 0 where
  pub within : from < length text
  pub offset : ℕ
  pub place : e.at ≡ from + offset
  pub fault : IsFault (drop from text) e.kind offset

-- in a text of UTF-8 the fault is what comes behind the tokens before it
pub record IsFirstFault (text : List ℕ) (e : LexError) : Type 0 where
  pub utf8 : IsUtf8 text
  pub tokens : List Token
  pub from : ℕ
  pub follow : Follow text 0 tokens from
  pub fault : IsFaultAt text from e

-- the front that is UTF-8 goes no further
pub record IsFirstBadByte (text : List ℕ) (e : LexError) : Type 0 where
  pub kind : e.kind ≡ Utf8
  pub place : IsValidUpTo text e.at

abbrev pub IsRefused : List ℕ → LexError → Type 0
IsRefused text e = IsFirstBadByte text e ⊎ IsFirstFault text e

-- what a text is read as: its tokens, or its first refusal
abbrev pub ReadsAs : List ℕ → Result (List Token) LexError → Type 0
ReadsAs text (Ok ts) = AreTokens text ts
ReadsAs text (Err e) = IsRefused text e

abbrev pub OnRefused : LexFault → (LexError → Type 0) → Type 0
OnRefused (Refused e) P = P e
OnRefused NoMemory P = Unit {0}
