-- What the tokens of a procedure text look like, each by its bytes alone.
use Rattle.std.specs.Prelude.{◌≡◌, ℕ, ◌<◌, ◌≤◌, ◌||◌, ◌==◌, if◌then◌else◌, List, [], ◌∷◌, ◌++◌, length, take, IsTrue, All, Contains, codes}
use Rattle.std.specs.List.{flat_map, AllPass}
use Rattle.std.specs.Str.Parse.{IsNumeral}
use Rattle.coco_ast.specs.Words.{is_word_start, is_word_byte}
use Rattle.coco_lex.specs.Bytes.{quote, backslash}

abbrev pub IsWord : List ℕ → Type 0
IsWord [] = ⊥
IsWord (b ∷ bs) = IsTrue (is_word_start b) × AllPass is_word_byte bs

abbrev pub keywords : List (List ℕ)
keywords = codes "table" ∷ codes "proc" ∷ codes "let" ∷ codes "get" ∷ codes "put" ∷ codes "delete" ∷ codes "if" ∷ codes "else" ∷ codes "repeat" ∷ codes "as" ∷ codes "refuse" ∷ codes "reply" ∷ codes "none" ∷ codes "not" ∷ codes "and" ∷ codes "or" ∷ []

-- one or more digits
abbrev pub IsDigits : List ℕ → Type 0
IsDigits = IsNumeral 10

-- how a byte of a text's content is written: a quote and a backslash behind a backslash
abbrev pub escaped : ℕ → List ℕ
escaped b = if b == quote || b == backslash then backslash ∷ b ∷ [] else b ∷ []

abbrev pub spelled : List ℕ → List ℕ
spelled content = flat_map escaped content

-- the bytes are this content in quotes, and no control character is in it
pub record IsQuoted (content bytes : List ℕ) : Type 0 where
  pub printable : All (λ b. 32 ≤ b) content
  pub spelling : bytes ≡ quote ∷ (spelled content ++ quote ∷ [])

abbrev pub IsText : List ℕ → Type 0
IsText bytes = (content : List ℕ) × IsQuoted content bytes

abbrev pub IsSymbol : List ℕ → Type 0
IsSymbol [] = ⊥
IsSymbol (b ∷ []) = Contains (codes "(){}[],;=<>+-*/%") b
IsSymbol (b ∷ c ∷ []) = Contains (codes "=!<>") b × (c ≡ 61)
IsSymbol (b ∷ c ∷ d ∷ bs) = ⊥

pub data IsLexeme (bytes : List ℕ) : Type 0 where
  of_word : IsWord bytes → IsLexeme bytes
  of_digits : IsDigits bytes → IsLexeme bytes
  of_text : IsText bytes → IsLexeme bytes
  of_symbol : IsSymbol bytes → IsLexeme bytes

-- the first n bytes are a lexeme, and no longer front is one
pub record IsLongest (rest : List ℕ) (n : ℕ) : Type 0 where
  pub within : n ≤ length rest
  pub lexeme : IsLexeme (take n rest)
  pub longest : (m : ℕ) → n < m → m ≤ length rest → ¬ (IsLexeme (take m rest))
