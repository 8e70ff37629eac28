-- What reading a printed text gives.
use Rattle.std.specs.Prelude.{List, ℕ, length, Ok}
use Rattle.coco_ast.specs.Tree.{Procedures}
use Rattle.coco_lex.specs.Tokens.{AreTokens}
use Rattle.coco_lex.specs.declared.token.Token.{Token}
use Rattle.coco_parse.specs.Grammar.{IsText}
use Rattle.coco_parse.specs.Refusal.{KeepLimits, ParsesAs}
use Rattle.coco_parse.specs.Wording.{words_of}

-- some text has this tree
abbrev pub IsTree : Procedures → Type 0
IsTree t = (text : List ℕ) × (tokens : List Token) × AreTokens text tokens × IsText (words_of text tokens) t

-- the text has tokens, and they have this tree; where they keep the limits they are read as it
pub record ReadsBack (text : List ℕ) (t : Procedures) : Type 0 where
  pub tokens : List Token
  pub lexed : AreTokens text tokens
  pub written : IsText (words_of text tokens) t
  pub parsed : KeepLimits (words_of text tokens) (length (words_of text tokens)) → ParsesAs text tokens (Ok t)
