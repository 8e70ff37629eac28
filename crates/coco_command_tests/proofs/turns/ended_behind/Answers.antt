use Rattle.std.proofs.Common.{sym, subst}
use Rattle.coco_cluster.specs.Standing.{IsSound}
use Rattle.coco_command_tests.proofs.turns.ended_behind.Goals as goal

pub turn-ended-requires-clause-sound : goal.turn-ended-requires-clause-sound
turn-ended-requires-clause-sound g c _ _ = subst (IsSound c.in_ok-cluster.cluster) (sym c.requires) c.in_ok-cluster.ensures.sound
