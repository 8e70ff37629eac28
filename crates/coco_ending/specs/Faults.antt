-- Which ending a fault of a text makes.
use Rattle.coco_check.specs.declared.fault.CheckFault.{CheckFault}
use Rattle.coco_check.specs.declared.fault.CheckFault.TheVariants as check
use Rattle.coco_lex.specs.declared.error.LexFault.{LexFault}
use Rattle.coco_lex.specs.declared.error.LexFault.TheVariants as lex
use Rattle.coco_parse.specs.declared.error.ParseFault.{ParseFault}
use Rattle.coco_parse.specs.declared.error.ParseFault.TheVariants as parse
use Rattle.coco_ending.specs.declared.ending.Ending.{Ending}
use Rattle.coco_ending.specs.declared.ending.Ending.TheVariants.{NoMemory, Refused}
use Rattle.coco_ending.specs.declared.error.TextError.TheVariants.{Lex, Parse, Check}

abbrev pub lex_ending : LexFault → Ending
lex_ending (lex.Refused e) = Refused (Lex e)
lex_ending lex.NoMemory = NoMemory

abbrev pub parse_ending : ParseFault → Ending
parse_ending (parse.Refused e) = Refused (Parse e)
parse_ending parse.NoMemory = NoMemory

abbrev pub check_ending : CheckFault → Ending
check_ending (check.Refused e) = Refused (Check e)
check_ending check.NoMemory = NoMemory
