use Rattle.std.proofs.Common.{◌≡◌, ◌++◌, drop}
use Rattle.std.specs.String.{string_bytes}
use Rattle.coco_ast.specs.Views.{statements_of}
use Rattle.coco_print.specs.Printed.{lines_text}
use Rattle.coco_print.proofs.statement.+blocks.Given as goal

abbrev pub invariant-push_lines-loop-stmt : goal.invariant-push_lines-loop-stmt
invariant-push_lines-loop-stmt l = string_bytes l.out ++ lines_text l.margin (statements_of (drop l.stmt-index l.block)) ≡ string_bytes l.initial.out ++ lines_text l.margin (statements_of l.block)
