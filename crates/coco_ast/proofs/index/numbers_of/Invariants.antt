use Rattle.coco_ast.proofs.Indexing.{IsIndexBelow}
use Rattle.coco_ast.proofs.index.numbers_of.Given as goal

abbrev pub invariant-loop-i : goal.invariant-loop-i
invariant-loop-i l = IsIndexBelow l.i l.procs l.numbers
