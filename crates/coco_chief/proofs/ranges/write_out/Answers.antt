use Rattle.std.proofs.Common.{◌+◌, arith, rules}
use Rattle.coco_chief.proofs.SpanLemmas.{span_step, span_whole}
use Rattle.coco_chief.proofs.ranges.write_out.Goals as goal

pub loop-behind-preserved : goal.loop-behind-preserved
loop-behind-preserved c = span_step c.args.range.now.first c.loop-behind.behind (c.args.range.now.first + c.loop-behind.behind) c.args.epochs.now.items c.loop-behind.epochs.items c.push.new.self.items c.loop-behind.invariant (search rules) c.in_ok-push.ensures.items

pub returns : goal.returns
returns c = span_whole c.args.range.now c.loop-behind.behind c.args.epochs.now.items c.loop-behind.epochs.items c.push-2.new.self.items c.requires c.loop-behind.invariant (omega arith) c.in_ok-push-2.ensures.items
