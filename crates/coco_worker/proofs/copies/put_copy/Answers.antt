use Rattle.std.proofs.Common.{◌≡◌, ℕ, ◌+◌, ◌*◌, length, ap, subst, arith, slice_index_or}
use Rattle.coco_copy.specs.Puts.{after_ask, answer_in}
use Rattle.coco_copy.specs.declared.ops.CopyAsk.{CopyAsk}
use Rattle.coco_desks.proofs.GainLemmas.{as_many, lock_here, same_looked, same_set, same_stepped}
use Rattle.coco_journaled.specs.Passes.{Steps}
use Rattle.coco_worker.proofs.CopyLemmas.{carried_to, put_skip, put_step, table_within}
use Rattle.coco_worker.proofs.copies.put_copy.Goals as goal

pub bounds-copies-table : goal.bounds-copies-table
bounds-copies-table g c =
    table_within c.args.commit.partitions c.args.commit.config.copies c.from-count.result c.args.partition c.args.copy (length c.args.copies.now) c.requires.may.tables_are c.from-count.ensures c.requires.partition c.requires.copy

pub bounds-passes-table : goal.bounds-passes-table
bounds-passes-table g c =
    let many : length c.args.passes.now ≡ length c.args.copies.now = as_many c.args.copies.now c.args.passes.now c.requires.locks in
    let within = table_within c.args.commit.partitions c.args.commit.config.copies c.from-count.result c.args.partition c.args.copy (length c.args.copies.now) c.requires.may.tables_are c.from-count.ensures c.requires.partition c.requires.copy in
    omega (arith, many, within)

pub step-requires : goal.step-requires
step-requires g c =
    lock_here c.args.copies.now c.args.passes.now (c.args.partition * c.from-count.result + c.args.copy) c.index-passes-table.result c.index-copies-table.result c.requires.locks
    (table_within c.args.commit.partitions c.args.commit.config.copies c.from-count.result c.args.partition c.args.copy (length c.args.copies.now) c.requires.may.tables_are c.from-count.ensures c.requires.partition c.requires.copy)
    c.index-copies-table.is

pub returns-in_err-step-clause-same : goal.returns-in_err-step-clause-same
returns-in_err-step-clause-same g c =
    let table : ℕ = c.args.partition * c.from-count.result + c.args.copy in
    same_set c.args.passes.now table c.step.new.pass c.index-passes-table.result (same_looked (slice_index_or c.args.passes.now table c.index-passes-table.result) c.step.new.pass c.in_err-step.ensures.err)

pub returns-then-not-carries-clause-copied : goal.returns-then-not-carries-clause-copied
returns-then-not-carries-clause-copied g c =
    let carries = g.N.Net.carries c.args.net.now in
    let commit = c.args.commit in
    put_skip carries commit c.args.write.now c.args.partition c.args.copy c.carries.result
    (carried_to carries commit c.args.partition c.args.copy c.from.result c.carries.result c.carries.ensures c.from.ensures) c.args.passes.now c.if-not-carries.true

pub returns-clause-same : goal.returns-clause-same
returns-clause-same g c =
    let table : ℕ = c.args.partition * c.from-count.result + c.args.copy in
    same_set c.args.passes.now table c.step.new.pass c.index-passes-table.result
    (same_stepped answer_in after_ask (slice_index_or c.args.passes.now table c.index-passes-table.result) c.step.new.pass c.put_of.result c.in_ok-step.field-0 c.in_ok-step.ensures.ok)

pub returns-clause-copied : goal.returns-clause-copied
returns-clause-copied g c =
    let carries = g.N.Net.carries c.args.net.now in
    let commit = c.args.commit in
    let table : ℕ = c.args.partition * c.from-count.result + c.args.copy in
    let many : length c.args.passes.now ≡ length c.args.copies.now = as_many c.args.copies.now c.args.passes.now c.requires.locks in
    let within = table_within commit.partitions commit.config.copies c.from-count.result c.args.partition c.args.copy (length c.args.copies.now) c.requires.may.tables_are c.from-count.ensures c.requires.partition c.requires.copy in
    put_step carries commit c.args.write.now c.args.partition c.args.copy c.carries.result
    (carried_to carries commit c.args.partition c.args.copy c.from.result c.carries.result c.carries.ensures c.from.ensures) c.args.passes.now c.if-not-carries.false table c.step.new.pass
    c.index-passes-table.result c.in_ok-step.field-0 (ap (λ (n : ℕ). c.args.partition * n + c.args.copy) c.from-count.ensures) (omega (arith, many, within))
    (subst (λ (a : CopyAsk). Steps answer_in after_ask (slice_index_or c.args.passes.now table c.index-passes-table.result) a c.in_ok-step.field-0 c.step.new.pass) c.put_of.ensures c.in_ok-step.ensures.ok)
