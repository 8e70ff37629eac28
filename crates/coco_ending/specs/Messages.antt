-- How the errors of a text are printed.
use Rattle.std.specs.Prelude.{ℕ, List, ◌++◌, codes, decimal}
use Rattle.coco_ast.specs.Messages.{error_text as check_text}
use Rattle.coco_lex.specs.Messages.{error_text as lex_text}
use Rattle.coco_parse.specs.Messages.{error_text as parse_text}
use Rattle.coco_types.specs.Limits.{most_procedure_bytes}
use Rattle.coco_ending.specs.declared.error.TextError.{TextError}
use Rattle.coco_ending.specs.declared.error.TextError.TheVariants.{Long, Lex, Parse, Check}

abbrev pub error_text : TextError → List ℕ
error_text Long = codes "long at byte " ++ decimal most_procedure_bytes
error_text (Lex e) = lex_text e
error_text (Parse e) = parse_text e
error_text (Check e) = check_text e
