use Rattle.std.proofs.Common.{sym, subst}
use Rattle.coco_cluster.specs.Standing.{IsSound}
use Rattle.coco_command_tests.proofs.turns.put_once.Goals as goal

pub turn-requires-clause-sound : goal.turn-requires-clause-sound
turn-requires-clause-sound g c _ _ = subst (IsSound c.in_ok-cluster.cluster) (sym c.requires) c.in_ok-cluster.ensures.sound
