-- How refusals are printed.
use Rattle.std.specs.Prelude.{ℕ, List, ◌++◌, codes, decimal}
use Rattle.coco_parse.specs.declared.error.ParseError.{ParseError}
use Rattle.coco_parse.specs.declared.error.ParseFault.{ParseFault}
use Rattle.coco_parse.specs.declared.error.ParseFault.TheVariants.{Refused, NoMemory}
use Rattle.coco_parse.specs.declared.error.ParseKind.{ParseKind}
use Rattle.coco_parse.specs.declared.error.ParseKind.TheVariants.{Unexpected, TooDeep, TooMany, Range}

abbrev pub kind_text : ParseKind → List ℕ
kind_text Unexpected = codes "unexpected"
kind_text TooDeep = codes "too deep"
kind_text TooMany = codes "too many"
kind_text Range = codes "range"

abbrev pub error_text : ParseError → List ℕ
error_text e = kind_text e.kind ++ codes " at byte " ++ decimal e.at

abbrev pub fault_text : ParseFault → List ℕ
fault_text (Refused e) = error_text e
fault_text NoMemory = codes "out of memory"
