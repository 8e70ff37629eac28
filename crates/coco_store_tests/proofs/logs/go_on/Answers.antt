use Rattle.coco_log.proofs.Rests.{opened_rests}
use Rattle.std.proofs.Common.{refl}
use Rattle.coco_store_tests.proofs.logs.go_on.Goals as goal

pub append-requires-clause-rest : goal.append-requires-clause-rest
append-requires-clause-rest c = opened_rests _ _ _ _ (c.in_ok-log.ensures.ok _ refl) c.in_ok-log.ensures.read.same
