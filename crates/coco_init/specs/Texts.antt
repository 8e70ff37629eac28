-- What a text of procedures is answered: its tree, or the first thing that is wrong with it.
use Rattle.std.specs.Prelude.{◌≡◌, ⊤, ℕ, ◌<◌, ◌≤◌, List, length, Result, Ok, Err}
use Rattle.coco_types.specs.Limits.{most_procedure_bytes}
use Rattle.coco_ast.specs.Checks.{IsFirstError}
use Rattle.coco_ast.specs.Tree.{Procedures}
use Rattle.coco_ast.specs.declared.error.CheckError.{CheckError}
use Rattle.coco_lex.specs.Refusal.{IsRefused as HasNoTokens}
use Rattle.coco_lex.specs.Tokens.{AreTokens}
use Rattle.coco_lex.specs.declared.token.Token.{Token}
use Rattle.coco_parse.specs.Refusal.{IsRefused as HaveNoTree, IsTreeOf}
use Rattle.coco_parse.specs.Wording.{words_of}
use Rattle.coco_parse.specs.declared.error.ParseError.{ParseError}
use Rattle.coco_store.specs.Texts.{IsAcceptedText}
use Rattle.coco_ending.specs.declared.ending.Ending.{Ending}
use Rattle.coco_ending.specs.declared.ending.Ending.TheVariants as ending
use Rattle.coco_ending.specs.declared.error.TextError.{TextError}
use Rattle.coco_ending.specs.declared.error.TextError.TheVariants.{Long, Lex, Parse, Check}

-- it has tokens, and they have no tree
pub record IsParseError (text : List ℕ) (e : ParseError) : Type 0 where
  pub tokens : List Token
  pub lexed : AreTokens text tokens
  pub refused : HaveNoTree text tokens e

-- its tokens have a tree, and the tree has an error
pub record IsCheckError (text : List ℕ) (e : CheckError) : Type 0 where
  pub tokens : List Token
  pub lexed : AreTokens text tokens
  pub tree : Procedures
  pub parsed : IsTreeOf (words_of text tokens) tree
  pub first : IsFirstError tree e

-- this is the first thing that is wrong with a text
abbrev pub IsTextError : List ℕ → TextError → Type 0
IsTextError text Long = most_procedure_bytes < length text
IsTextError text (Lex e) = (length text ≤ most_procedure_bytes) × HasNoTokens text e
IsTextError text (Parse e) = (length text ≤ most_procedure_bytes) × IsParseError text e
IsTextError text (Check e) = (length text ≤ most_procedure_bytes) × IsCheckError text e

abbrev pub AcceptsOrRefuses : List ℕ → Result Procedures TextError → Type 0
AcceptsOrRefuses text (Ok tree) = IsAcceptedText text tree
AcceptsOrRefuses text (Err e) = IsTextError text e

-- a text has one answer
abbrev pub HasOneAnswer : List ℕ → Type 0
HasOneAnswer text = (a b : Result Procedures TextError) → AcceptsOrRefuses text a → AcceptsOrRefuses text b → a ≡ b

-- the text's tree, or the ending that its error makes
abbrev pub AcceptsOrEnds : List ℕ → Result Procedures Ending → Type 0
AcceptsOrEnds text (Ok tree) = IsAcceptedText text tree
AcceptsOrEnds text (Err (ending.Refused e)) = IsTextError text e
AcceptsOrEnds text (Err ending.NoMemory) = ⊤
AcceptsOrEnds text (Err _) = ⊥
