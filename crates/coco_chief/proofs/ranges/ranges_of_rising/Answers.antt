use Rattle.std.proofs.Common.{sym, ap, ◌∙◌, arith}
use Rattle.std.specs.Prelude.{◌||◌}
use Rattle.coco_chief.proofs.EpochLemmas.{has_more, last_of_more, sorted_next}
use Rattle.coco_chief.proofs.ranges.ranges_of_rising.Goals as goal

pub loop-epoch-preserved : goal.loop-epoch-preserved
loop-epoch-preserved c =
    let i = c.loop-epoch.epoch-index in
    let xs = c.args.epochs.now in
    let last = last_of_more xs i c.loop-epoch-test.true (c.loop-epoch.invariant.behind c.loop-epoch-test.true) in
    record {
      covered = λ x. rw (has_more xs i x c.loop-epoch-test.true, ← c.loop-epoch.invariant.covered x) (c.in_ok-add_epoch.ensures.covers x);
      end = c.in_ok-add_epoch.ensures.end ∙ sym last;
      behind = λ lt. rw last (sorted_next xs i c.requires lt);
      ranges = c.in_ok-add_epoch.ensures.ranges;
    }
