use Rattle.coco_occ.proofs.OneTurn.{if_ok_at, on_ok_both, on_err_any, brought, may_be_asked}
use Rattle.coco_occ.proofs.turns.bring_answer.Goals as goal

pub returns-in-Ok-clause-ok : goal.returns-in-Ok-clause-ok
returns-in-Ok-clause-ok c =
    on_ok_both c.take_lent.result (λ ok sound. brought c.args.shards.now c.args.attempt.now c.take_lent.new.self c.from.result c.args.shard c.args.ask.now c.in-Ok.answer c.apply.new.self c.index-shards-from.result
    c.from.ensures c.requires.below (if_ok_at _ c.apply.result c.in-Ok.answer c.in-Ok.is c.apply.ensures.answer) (if_ok_at _ c.apply.result c.in-Ok.answer c.in-Ok.is c.apply.ensures.state) (ok c.args.shard c.args.ask.now c.requires.waits) sound) c.take_lent.ensures.ok c.take_lent.ensures.sound

pub returns-in-Ok-clause-shards : goal.returns-in-Ok-clause-shards
returns-in-Ok-clause-shards c = on_err_any c.take_lent.result (may_be_asked c.args.shards.now c.from.result c.args.shard c.args.ask.now c.apply.new.self c.index-shards-from.result c.from.ensures c.requires.below (if_ok_at _ c.apply.result c.in-Ok.answer c.in-Ok.is c.apply.ensures.state))
