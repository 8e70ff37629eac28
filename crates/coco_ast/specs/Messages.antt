-- How errors are printed.
use Rattle.std.specs.Prelude.{ℕ, List, ◌++◌, codes, decimal}
use Rattle.coco_ast.specs.declared.error.CheckError.{CheckError}
use Rattle.coco_ast.specs.declared.error.CheckKind.{CheckKind}
use Rattle.coco_ast.specs.declared.error.CheckKind.TheVariants.{UnknownName, Twice, TooManyKeys, RepeatBound, NoReply}

abbrev pub kind_text : CheckKind → List ℕ
kind_text UnknownName = codes "unknown name"
kind_text Twice = codes "twice"
kind_text (TooManyKeys count) = codes "too many keys"
kind_text RepeatBound = codes "repeat bound"
kind_text NoReply = codes "no reply"

abbrev pub error_text : CheckError → List ℕ
error_text e = kind_text e.kind ++ (codes " at item " ++ (decimal e.item ++ (codes " statement " ++ decimal e.statement)))
