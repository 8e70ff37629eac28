use Rattle.std.proofs.Common.{ℕ, [], Option, None, Some, sym, subst, arith}
use Rattle.std.specs.List.{IsDistinct}
use Rattle.coco_ast.specs.History.{AreAbove}
use Rattle.coco_cluster.specs.declared.cluster.Cluster.{Cluster}
use Rattle.coco_cluster.specs.Turning.{MayTurn}
use Rattle.coco_command_tests.proofs.turns.told_in_turn.Goals as goal

none_above : (f : Option ℕ) → AreAbove f []
none_above None = tt
none_above (Some n) = tt

none_may : (k : Cluster) → MayTurn k []
unfolding IsDistinct
none_may k = record { fit = tt; distinct = tt; unkept = tt; above = none_above k.kept.floor; few = omega arith }

pub turn-requires-clause-may : goal.turn-requires-clause-may
turn-requires-clause-may g c κs within = subst (MayTurn c.in_ok-cluster.cluster) (sym c.new.ensures.items) (none_may c.in_ok-cluster.cluster)
