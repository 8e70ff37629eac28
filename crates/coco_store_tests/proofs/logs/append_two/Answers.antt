use Rattle.std.proofs.Common.{refl}
use Rattle.coco_log.proofs.Rests.{made_rests, appended_rests}
use Rattle.coco_store_tests.proofs.logs.append_two.Goals as goal

pub append-requires-clause-rest : goal.append-requires-clause-rest
append-requires-clause-rest c = made_rests _ _ _ _ _ _ _ (c.in_ok-log.ensures.ok _ refl) refl

pub append-requires-2-clause-rest : goal.append-requires-2-clause-rest
append-requires-2-clause-rest c =
    let rest = made_rests _ _ _ _ _ _ _ (c.in_ok-log.ensures.ok _ refl) refl in
    appended_rests _ _ _ _ _ _ _ _ (c.in_ok-append.ensures.ok _ rest.0 refl rest.1) refl
