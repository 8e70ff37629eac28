use Rattle.std.proofs.Common.{map}
use Rattle.coco_ast.specs.Views.{procedure_of}
use Rattle.coco_parse.specs.Machine.{Items}
use Rattle.coco_parse.specs.Steps.{Stands, left}
use Rattle.coco_parse.proofs.state.Parser.file.Given as goal

abbrev pub invariant-loop-word : goal.invariant-loop-word
invariant-loop-word l = Stands l.self l.cursor (Items l.tables.items (map procedure_of l.procs.items))

abbrev pub decreases-loop-word : goal.decreases-loop-word
decreases-loop-word l = left l.self l.cursor
