use Rattle.std.proofs.Common.{◌≡◌, drop}
use Rattle.coco_ast.specs.Checks.{ends}
use Rattle.coco_ast.specs.Views.{statements_of}
use Rattle.coco_check.proofs.measure.+ends.Given as goal

-- whether the block ends is left to the statements behind
abbrev pub invariant-block_ends-loop-stmt : goal.invariant-block_ends-loop-stmt
invariant-block_ends-loop-stmt l = ends (statements_of (drop l.stmt-index l.block)) ≡ ends (statements_of l.block)
