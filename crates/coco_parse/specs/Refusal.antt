-- What tokens are read as: a tree, or their first refusal.
use Rattle.std.specs.Prelude.{◌≡◌, ℕ, zero, suc, ◌<◌, ◌≤◌, List, [], ◌∷◌, length, take, Result, Ok, Err}
use Rattle.coco_ast.specs.Tree.{Procedures}
use Rattle.coco_lex.specs.declared.token.Token.{Token}
use Rattle.coco_parse.specs.Grammar.{IsText, IsFront}
use Rattle.coco_parse.specs.Limits.{Passes}
use Rattle.coco_parse.specs.Wording.{words_of}
use Rattle.coco_parse.specs.declared.error.ParseError.{ParseError}
use Rattle.coco_parse.specs.declared.error.ParseFault.{ParseFault}
use Rattle.coco_parse.specs.declared.error.ParseFault.TheVariants.{Refused, NoMemory}
use Rattle.coco_parse.specs.declared.error.ParseKind.{ParseKind}
use Rattle.coco_parse.specs.declared.error.ParseKind.TheVariants.{Unexpected, TooDeep, TooMany, Range}
use Rattle.coco_parse.specs.declared.word.Word.{Word}

-- none of the first n words goes beyond a limit
abbrev pub KeepLimits : List Word → ℕ → Type 0
KeepLimits ws n = (m : ℕ) → m < n → (k : ParseKind) → ¬ (Passes k (take (suc m) ws))

pub record IsTreeOf (ws : List Word) (t : Procedures) : Type 0 where
  pub text : IsText ws t
  pub limits : KeepLimits ws (length ws)

-- no continuation allows word n, or the text ends there and may not
pub record IsUnexpected (ws : List Word) (n : ℕ) : Type 0 where
  pub at_word : n < length ws → ¬ (IsFront (take (suc n) ws))
  pub at_end : n ≡ length ws → (t : Procedures) → ¬ (IsText ws t)

pub record IsTooMuch (ws : List Word) (n : ℕ) (k : ParseKind) : Type 0 where
  pub within : n < length ws
  pub allowed : IsFront (take (suc n) ws)
  pub passes : Passes k (take (suc n) ws)

abbrev pub IsFault : List Word → ℕ → ParseKind → Type 0
IsFault ws n Unexpected = IsUnexpected ws n
IsFault ws n TooDeep = IsTooMuch ws n TooDeep
IsFault ws n TooMany = IsTooMuch ws n TooMany
IsFault ws n Range = IsTooMuch ws n Range

-- the words before word n go on as a file's and keep the limits, and word n is the first that doesn't
pub record IsRefusedAt (ws : List Word) (n : ℕ) (k : ParseKind) : Type 0 where
  pub within : n ≤ length ws
  pub front : IsFront (take n ws)
  pub limits : KeepLimits ws n
  pub fault : IsFault ws n k

-- where word n begins, and the text's end behind the last
abbrev pub place_of : List ℕ → List Token → ℕ → ℕ
place_of text [] n = length text
place_of text (t ∷ ts) zero = t.start
place_of text (t ∷ ts) (suc n) = place_of text ts n

pub record IsRefused (text : List ℕ) (ts : List Token) (e : ParseError) : Type 0 where
  pub count : ℕ
  pub place : e.at ≡ place_of text ts count
  pub refused : IsRefusedAt (words_of text ts) count e.kind

abbrev pub ParsesAs : List ℕ → List Token → Result Procedures ParseError → Type 0
ParsesAs text ts (Ok t) = IsTreeOf (words_of text ts) t
ParsesAs text ts (Err e) = IsRefused text ts e

abbrev pub OnRefused : ParseFault → (ParseError → Type 0) → Type 0
OnRefused (Refused e) P = P e
OnRefused NoMemory P = Unit {0}
