use Rattle.std.proofs.Common.{length, arith, slice_index_or}
use Rattle.coco_desks.proofs.GainLemmas.{as_many, lock_here, same_looked, same_set, same_stepped}
use Rattle.coco_query.specs.Frozen.{after_ask, answer_in}
use Rattle.coco_query.specs.declared.frozen.FrozenAsk.TheVariants.{Get}
use Rattle.coco_query.proofs.ReadingLemmas.{by_ok, by_outcome, reads_one}
use Rattle.coco_query.proofs.reading.get.Goals as goal

pub step_lent-requires : goal.step_lent-requires
step_lent-requires g c =
    lock_here c.args.tables.now c.args.passes.now c.partition-place.result c.index-passes-place.result c.index-tables-place.result c.requires.locks c.partition-place.ensures.within c.index-tables-place.is

pub returns-clause-same : goal.returns-clause-same
returns-clause-same g c =
    let p = slice_index_or c.args.passes.now c.partition-place.result c.index-passes-place.result in
    same_set c.args.passes.now c.partition-place.result c.step_lent.new.pass c.index-passes-place.result
    (by_outcome c.step_lent.result (λ steps. same_stepped answer_in after_ask p c.step_lent.new.pass (Get c.args.key) c.step_lent.new.answer steps) (λ looks. same_looked p c.step_lent.new.pass looks) c.step_lent.ensures.ok c.step_lent.ensures.err)

pub returns-clause-reads : goal.returns-clause-reads
returns-clause-reads g c =
    let many = as_many c.args.tables.now c.args.passes.now c.requires.locks in
    by_ok c.step_lent.result c.step_lent.ensures.ok (λ steps.
    reads_one (length c.args.tables.now) c.args.passes.now c.partition-place.result c.step_lent.new.pass c.index-passes-place.result c.args.key c.step_lent.new.answer c.partition-place.ensures.is
    (omega (arith, many, c.partition-place.ensures.within)) steps)
