use Rattle.std.proofs.Common.{◌≡◌, ℕ, arith, slice_index_or}
use Rattle.coco_desks.proofs.GainLemmas.{as_many, lock_here, same_looked, same_set, same_stepped}
use Rattle.coco_shard.specs.Table.{after_ask, answer_in}
use Rattle.coco_shard.specs.declared.ops.Answer.{Answer}
use Rattle.coco_occ.specs.Trying.{Waits}
use Rattle.coco_occ.proofs.OneTurn.{one_ask}
use Rattle.coco_worker.proofs.ScriptLemmas.{by_ok, made_step}
use Rattle.coco_worker.proofs.steps.ask_shard.Goals as goal

pub step_lent-requires : goal.step_lent-requires
step_lent-requires g c =
    lock_here c.args.shards.now c.args.passes.now c.from-place.result c.index-passes-place.result c.index-shards-place.result c.requires.locks
    (omega (arith, c.from-place.ensures, c.requires.below c.shard.result c.shard.ensures.0 c.shard.ensures.1))
    c.index-shards-place.is

pub returns-in_err-step_lent-clause-same : goal.returns-in_err-step_lent-clause-same
returns-in_err-step_lent-clause-same g c =
    same_set c.args.passes.now c.from-place.result c.step_lent.new.pass c.index-passes-place.result
    (same_looked (slice_index_or c.args.passes.now c.from-place.result c.index-passes-place.result) c.step_lent.new.pass c.in_err-step_lent.ensures.err)

pub returns-clause-same : goal.returns-clause-same
returns-clause-same g c =
    same_set c.args.passes.now c.from-place.result c.step_lent.new.pass c.index-passes-place.result
    (same_stepped answer_in after_ask (slice_index_or c.args.passes.now c.from-place.result c.index-passes-place.result) c.step_lent.new.pass c.ask.result.now c.step_lent.new.answer c.in_ok-step_lent.ensures.ok)

pub returns-clause-step : goal.returns-clause-step
returns-clause-step g c =
    let made : Answer = c.step_lent.new.answer in
    let many = as_many c.args.shards.now c.args.passes.now c.requires.locks in
    let shard : ℕ = c.shard.result in
    let ask = c.ask.result.now in
    let waits : c.args.attempt.now.standing ≡ Waits shard ask = one_ask c.args.attempt.now.standing shard ask c.shard.ensures c.ask.ensures in
    by_ok c.take_lent.result c.take_lent.ensures.ok (λ took. (
      shard,
      ask,
      made,
      took shard ask waits,
      made_step c.args.passes.now c.from-place.result c.step_lent.new.pass c.index-passes-place.result shard ask made c.from-place.ensures
          (omega (arith, c.from-place.ensures, c.requires.below shard c.shard.ensures.0 c.shard.ensures.1)) c.in_ok-step_lent.ensures.ok,
    ))
