use Rattle.std.proofs.Common.{◌++◌, take, arith}
use Rattle.coco_store.specs.Rules.{IsNextValue}
use Rattle.coco_rules.specs.Basing.{EndsAtKey}
use Rattle.coco_rules.proofs.JudgedLemmas.{all_gone, broken_here, one_further}
use Rattle.coco_rules.proofs.base.first_broken_row.Goals as goal

pub returns-then-not-takes_row-clause-found : goal.returns-then-not-takes_row-clause-found
returns-then-not-takes_row-clause-found c = λ s before tree ends.
    let rows = c.args.rows.now in
    let i = c.loop-place.place in
    let so_far = c.loop-place.invariant s before tree ends in
    broken_here (IsNextValue s) before rows i c.index-rows-place.result c.loop-place-test.true c.index-rows-place.is so_far.0
    (rw c.if-not-takes_row.true at (c.takes_row.ensures s (before ++ take i rows) tree so_far.1))

pub loop-place-preserved : goal.loop-place-preserved
loop-place-preserved c = λ s before tree ends.
    let rows = c.args.rows.now in
    let i = c.loop-place.place in
    let so_far = c.loop-place.invariant s before tree ends in
    one_further (IsNextValue s) (λ l. EndsAtKey l c.takes_row.new.last) before rows i c.index-rows-place.result c.loop-place-test.true c.index-rows-place.is so_far.0
    (rw c.if-not-takes_row.false at (c.takes_row.ensures s (before ++ take i rows) tree so_far.1))

pub returns-clause-found : goal.returns-clause-found
returns-clause-found c = λ s before tree ends.
    all_gone (IsNextValue s) (λ l. EndsAtKey l c.loop-place.last) before c.args.rows.now c.loop-place.place (omega (arith, c.loop-place-test.false)) (c.loop-place.invariant s before tree ends)
