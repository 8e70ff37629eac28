use Rattle.coco_occ.proofs.OneTurn.{one_ask}
use Rattle.coco_occ.proofs.attempt.Attempt.next.Goals as goal

pub returns-then-go_on-clause-told : goal.returns-then-go_on-clause-told
returns-then-go_on-clause-told c = one_ask c.go_on.new.self.standing c.shard.result c.ask.result.now c.shard.ensures c.ask.ensures
