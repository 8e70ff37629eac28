use Rattle.std.proofs.Common.{◌≡◌, ◌≤◌, ◌+◌, ◌*◌, length, take, drop, vec_len}
use Rattle.std.specs.Vec.{vec_capacity}
use Rattle.coco_ast.specs.Checks.{in_order}
use Rattle.coco_ast.specs.Planning.{names_throughout}
use Rattle.coco_ast.specs.Views.{statements_of}
use Rattle.coco_ast.specs.declared.tree.Stmt.{size-Stmt}
use Rattle.coco_ast.specs.declared.tree.Stmt.TheVariants.{If}
use Rattle.coco_ast.proofs.PlanLemmas.{AreStepsBelow}
use Rattle.coco_check.specs.Drafting.{Extends}
use Rattle.coco_check.specs.Search.{walk}
use Rattle.coco_check.specs.Walking.{walk_of}
use Rattle.coco_check.proofs.body.Body.+body.Given as goal

-- a block leads to its statements, a statement to the parts of its `if`, and those to blocks that are less deep
abbrev pub decreases-check_block : goal.decreases-check_block
decreases-check_block l = 3 * goal.size-check_block l + 2

abbrev pub decreases-check_stmt : goal.decreases-check_stmt
decreases-check_stmt l = 3 * size-Stmt l.stmt.now + 1

abbrev pub decreases-check_if : goal.decreases-check_if
decreases-check_if l = 3 * size-Stmt (If l.test.now l.yes.now l.no.now)

-- the walk over the statements behind comes to that over the whole block; those before have their steps
abbrev pub invariant-check_block-loop-stmt : goal.invariant-check_block-loop-stmt
invariant-check_block-loop-stmt l =
    let rest = in_order l.around (statements_of (drop l.stmt-index l.block)) in
    record {
      numbers : l.self.last + length rest ≡ l.fn.self.last + length (in_order l.around (statements_of l.block));
      walk : walk l.tables.keys (walk_of l.self) rest ≡ walk l.tables.keys (walk_of l.fn.self) (in_order l.around (statements_of l.block));
      adds : Extends l.initial.draft l.draft (names_throughout (statements_of (take l.stmt-index l.block)));
      below : AreStepsBelow l.draft.slots l.draft.terms.items (take l.stmt-index l.block) l.steps.items;
      room : (vec_len l.steps ≡ l.stmt-index) × (length l.block ≤ vec_capacity l.steps);
    }
