use Rattle.std.proofs.Common.{◌≡◌, drop}
use Rattle.coco_ast.specs.Fitting.{any_writes}
use Rattle.coco_ast.specs.Views.{statements_of}
use Rattle.coco_ast.proofs.checked.+writes.Given as goal

-- whether the block writes is left to the statements behind
abbrev pub invariant-block_writes-loop-stmt : goal.invariant-block_writes-loop-stmt
invariant-block_writes-loop-stmt l = any_writes (statements_of (drop l.stmt-index l.block)) ≡ any_writes (statements_of l.block)
