-- How refusals are printed.
use Rattle.std.specs.Prelude.{ℕ, List, ◌++◌, codes, decimal}
use Rattle.coco_lex.specs.declared.error.LexError.{LexError}
use Rattle.coco_lex.specs.declared.error.LexFault.{LexFault}
use Rattle.coco_lex.specs.declared.error.LexFault.TheVariants.{Refused, NoMemory}
use Rattle.coco_lex.specs.declared.error.LexKind.{LexKind}
use Rattle.coco_lex.specs.declared.error.LexKind.TheVariants.{Utf8, Stray, LongName, WideNumber, OpenText, BadText, LongText}

abbrev pub kind_text : LexKind → List ℕ
kind_text Utf8 = codes "utf8"
kind_text Stray = codes "stray"
kind_text LongName = codes "long name"
kind_text WideNumber = codes "wide number"
kind_text OpenText = codes "open text"
kind_text BadText = codes "bad text"
kind_text LongText = codes "long text"

abbrev pub error_text : LexError → List ℕ
error_text e = kind_text e.kind ++ codes " at byte " ++ decimal e.at

abbrev pub fault_text : LexFault → List ℕ
fault_text (Refused e) = error_text e
fault_text NoMemory = codes "out of memory"
