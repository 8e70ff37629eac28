use Rattle.std.proofs.Common.{◌≡◌, vec_len}
use Rattle.coco_ast.specs.Views.{expression_of}
use Rattle.coco_parse.specs.Machine.{enclose, conclude}
use Rattle.coco_parse.specs.Steps.{frames_of}
use Rattle.coco_parse.proofs.frames.collapse.Given as goal

abbrev pub invariant-loop-frame : goal.invariant-loop-frame
invariant-loop-frame l = record {
  encloses : enclose (expression_of l.operand) (frames_of l.frames.items) ≡ enclose (expression_of l.fn.operand) (frames_of l.fn.frames.items);
  concludes : conclude (expression_of l.operand) (frames_of l.frames.items) ≡ conclude (expression_of l.fn.operand) (frames_of l.fn.frames.items);
}

abbrev pub decreases-loop-frame : goal.decreases-loop-frame
decreases-loop-frame l = vec_len l.frames
