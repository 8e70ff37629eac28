use Rattle.std.proofs.Common.{◌≡◌, ◌∙◌, ℕ, List, ap, subst, sym}
use Rattle.std.specs.List.Sorted.{IsStrictlyIncreasing}
use Rattle.coco_chief.specs.Chief.{has}
use Rattle.coco_chief.proofs.SpanLemmas.{range_is, written, written_all, written_has, written_increases, written_more}
use Rattle.coco_chief.proofs.ranges.epochs_of.Goals as goal

pub write_out-requires : goal.write_out-requires
write_out-requires c = range_is 0 c.args.ranges.now c.loop-range.range-index _ c.requires c.loop-range-test.true

pub loop-range-preserved : goal.loop-range-preserved
loop-range-preserved c = written_more c.args.ranges.now c.loop-range.range-index _ c.loop-range.epochs.items c.write_out.new.epochs.items c.loop-range-test.true c.loop-range.invariant c.in_ok-write_out.ensures

pub returns-clause-rising : goal.returns-clause-rising
returns-clause-rising c =
    let all : c.loop-range.epochs.items ≡ written c.args.ranges.now = written_all c.args.ranges.now c.loop-range.range-index c.loop-range.epochs.items c.loop-range-test.false c.loop-range.invariant in
    subst IsStrictlyIncreasing (sym all) (written_increases c.args.ranges.now c.requires)

pub returns-clause-covered : goal.returns-clause-covered
returns-clause-covered c x =
    let all : c.loop-range.epochs.items ≡ written c.args.ranges.now = written_all c.args.ranges.now c.loop-range.range-index c.loop-range.epochs.items c.loop-range-test.false c.loop-range.invariant in
    ap (λ (es : List ℕ). has es x) all ∙ written_has c.args.ranges.now x c.requires
