use Rattle.std.proofs.Common.{◌≡◌, ◌+◌, ◌≤◌, max, min, drop}
use Rattle.coco_ast.specs.Checks.{key_weight, counted_weight}
use Rattle.coco_ast.specs.Plans.{depth}
use Rattle.coco_ast.specs.Views.{statements_of}
use Rattle.coco_check.proofs.measure.+measure.Given as goal

-- what was found so far and what the statements behind have are the block's weight and depth
abbrev pub invariant-block_measure-loop-stmt : goal.invariant-block_measure-loop-stmt
invariant-block_measure-loop-stmt l =
    let rest = statements_of (drop l.stmt-index l.block) in
    record {
      most : l.weight ≤ 1000000;
      weight : min (l.weight + key_weight rest) 1000000 ≡ counted_weight (statements_of l.block);
      depth : max l.deep (depth rest) ≡ depth (statements_of l.block);
    }
