use Rattle.std.proofs.Common.{sym, subst}
use Rattle.coco_cluster.specs.Standing.{IsSound}
use Rattle.coco_command_tests.proofs.copies.put_on_three.Goals as goal

pub answer_lines-requires-clause-sound : goal.answer_lines-requires-clause-sound
answer_lines-requires-clause-sound g c _ _ = subst (IsSound c.in_ok-cluster.cluster) (sym c.requires) c.in_ok-cluster.ensures.sound
