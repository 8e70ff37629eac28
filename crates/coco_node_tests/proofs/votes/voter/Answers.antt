use Rattle.std.proofs.Common.{ap}
use Rattle.coco_append.proofs.GainLemmas.{made_stands}
use Rattle.coco_log.specs.LogState.{LogState}
use Rattle.coco_node_tests.proofs.votes.voter.Goals as goal

pub returns-clause-unspent : goal.returns-clause-unspent
returns-clause-unspent g c = ap (λ (log : LogState). log.spent) c.in_ok-log.ensures.log

pub returns-clause-stands : goal.returns-clause-stands
returns-clause-stands g c = made_stands c.in_ok-log.log 2 2 _ _ _ c.in_ok-log.ensures.files c.in_ok-log.ensures.ok
