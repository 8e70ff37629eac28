-- The tokens of a procedure text.
use Rattle.std.specs.Prelude.{ℕ, ◌-◌, ◌<◌, ◌≤◌, List, [], ◌∷◌, length, take, drop, Contains, IsUtf8}
use Rattle.std.specs.Str.Parse.{digits_value}
use Rattle.coco_ast.specs.declared.name.TheConstants.{MOST_NAME_BYTES}
use Rattle.coco_lex.specs.Gap.{IsGap}
use Rattle.coco_lex.specs.Lexeme.{IsWord, IsDigits, IsText, IsQuoted, IsSymbol, IsLongest, keywords}
use Rattle.coco_types.specs.declared.limits.TheConstants.{MOST_TEXT_BYTES}
use Rattle.coco_lex.specs.declared.limits.TheConstants.{MOST_NUMBER}
use Rattle.coco_lex.specs.declared.token.Token.{Token}
use Rattle.coco_lex.specs.declared.token.TokenKind.{TokenKind}
use Rattle.coco_lex.specs.declared.token.TokenKind.TheVariants.{Keyword, Name, Number, Text, Symbol}

-- how long a word or a text's content may be, and how great a number
pub record KeepsLimits (bytes : List ℕ) : Type 0 where
  pub word : IsWord bytes → length bytes ≤ MOST_NAME_BYTES
  pub number : IsDigits bytes → digits_value 10 bytes ≤ MOST_NUMBER
  pub text : (content : List ℕ) → IsQuoted content bytes → length content ≤ MOST_TEXT_BYTES

abbrev pub IsOfKind : TokenKind → List ℕ → Type 0
IsOfKind Keyword bytes = Contains keywords bytes
IsOfKind Name bytes = IsWord bytes × (¬ (Contains keywords bytes))
IsOfKind Number bytes = IsDigits bytes
IsOfKind Text bytes = IsText bytes
IsOfKind Symbol bytes = IsSymbol bytes

-- a token of this kind and length stands at the front
pub record IsFront (rest : List ℕ) (kind : TokenKind) (n : ℕ) : Type 0 where
  pub longest : IsLongest rest n
  pub limits : KeepsLimits (take n rest)
  pub kind_fits : IsOfKind kind (take n rest)

-- a token's slice is the longest lexeme that begins there, and keeps the limits
pub record IsToken (text : List ℕ) (t : Token) : Type 0 where
  pub ordered : t.start < t.end
  pub front : IsFront (drop t.start text) t.kind (t.end - t.start)

-- from one place to another, gaps and these tokens in turn, a gap first and last
abbrev pub Follow : List ℕ → ℕ → List Token → ℕ → Type 0
Follow text from [] to = IsGap text from to
Follow text from (t ∷ ts) to = IsGap text from t.start × IsToken text t × Follow text t.end ts to

-- a text's tokens, in order: between them only what separates
pub record AreTokens (text : List ℕ) (ts : List Token) : Type 0 where
  pub utf8 : IsUtf8 text
  pub follow : Follow text 0 ts (length text)
