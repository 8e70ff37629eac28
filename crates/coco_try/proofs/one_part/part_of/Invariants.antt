use Rattle.std.proofs.Common.{[], take}
use Rattle.coco_ast.specs.Tree.{Procedures}
use Rattle.coco_batches.specs.Asking.{AreNew, known_of}
use Rattle.coco_try.specs.Work.{AllFit, HasClasses}
use Rattle.coco_try.proofs.one_part.part_of.Given as goal

-- the requests so far are taken in
abbrev pub invariant-loop-request : goal.invariant-loop-request
invariant-loop-request l = record {
  classes : HasClasses (known_of l.kept []) (take l.request-index l.requests) l.part.fresh l.part.answered;
  new : AreNew l.kept l.part.fresh;
  fit : (procs : Procedures) → AllFit procs l.requests → AllFit procs l.part.fresh;
}
