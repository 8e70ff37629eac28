use Rattle.std.proofs.Common.{◌≡◌, vec_len}
use Rattle.coco_ast.specs.Views.{expression_of}
use Rattle.coco_parse.specs.Machine.{operate}
use Rattle.coco_parse.specs.Steps.{frames_of}
use Rattle.coco_parse.proofs.frames.operate.Given as goal

abbrev pub invariant-loop-frame : goal.invariant-loop-frame
invariant-loop-frame l = operate (expression_of l.operand) (frames_of l.frames.items) l.op ≡ operate (expression_of l.fn.operand) (frames_of l.fn.frames.items) l.op

abbrev pub decreases-loop-frame : goal.decreases-loop-frame
decreases-loop-frame l = vec_len l.frames
