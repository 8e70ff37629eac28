-- What makes a token one of some word. Only contracts of private functions and proofs name it.
use Rattle.std.specs.Prelude.{◌≡◌, ℕ, ◌-◌, ◌≤◌, true, List, length, take, drop, IsUtf8}
use Rattle.std.specs.Str.Parse.{digits_value}
use Rattle.coco_ast.specs.Words.{is_word}
use Rattle.coco_lex.specs.Lexeme.{IsDigits}
use Rattle.coco_types.specs.declared.limits.TheConstants.{MOST_TEXT_BYTES}
use Rattle.coco_lex.specs.declared.limits.TheConstants.{MOST_NUMBER}
use Rattle.coco_lex.specs.declared.token.Token.{Token}
use Rattle.coco_lex.specs.declared.token.TokenKind.{TokenKind}
use Rattle.coco_lex.specs.declared.token.TokenKind.TheVariants as kind
use Rattle.coco_parse.specs.Escapes.{content}

abbrev pub Spells : TokenKind → List ℕ → Type 0
Spells kind.Keyword bytes = Unit {0}
Spells kind.Name bytes = is_word bytes ≡ true
Spells kind.Number bytes = IsDigits bytes × (digits_value 10 bytes ≤ MOST_NUMBER)
Spells kind.Text bytes = (2 ≤ length bytes) × (length (content bytes) ≤ MOST_TEXT_BYTES) × IsUtf8 (content bytes)
Spells kind.Symbol bytes = Unit {0}

pub record IsReadable (text : List ℕ) (t : Token) : Type 0 where
  pub ordered : t.start ≤ t.end
  pub within : t.end ≤ length text
  pub spells : Spells t.kind (take (t.end - t.start) (drop t.start text))
