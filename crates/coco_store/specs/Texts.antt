-- Texts of procedures that are accepted, each with its tree.
use Rattle.std.specs.Prelude.{◌≡◌, ℕ, ◌≤◌, List, length}
use Rattle.coco_types.specs.Limits.{most_procedure_bytes}
use Rattle.coco_ast.specs.Checks.{HasNoError, behind_builtins}
use Rattle.coco_ast.specs.Tree.{Procedures}
use Rattle.coco_lex.specs.declared.token.Token.{Token}
use Rattle.coco_lex.specs.Tokens.{AreTokens}
use Rattle.coco_parse.specs.Refusal.{IsTreeOf}
use Rattle.coco_parse.specs.Wording.{words_of}

-- the text isn't too long, has tokens, and these have a tree without errors; the whole tree has the built-in procedures in front
pub record IsAcceptedText (text : List ℕ) (tree : Procedures) : Type 0 where
  pub short : length text ≤ most_procedure_bytes
  pub tokens : List Token
  pub lexed : AreTokens text tokens
  pub own : Procedures
  pub parsed : IsTreeOf (words_of text tokens) own
  pub sound : HasNoError own
  pub whole : tree ≡ behind_builtins own
