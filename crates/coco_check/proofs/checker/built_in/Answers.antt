use Rattle.std.proofs.Common.{sym, subst}
use Rattle.coco_ast.specs.Checks.{IsAccepted}
use Rattle.coco_ast.proofs.Accepted.{builtins_accepted}
use Rattle.coco_check.proofs.checker.built_in.Goals as goal

pub of-requires-clause-accepted : goal.of-requires-clause-accepted
of-requires-clause-accepted c = subst IsAccepted (sym c.in_ok-tree.ensures) builtins_accepted
