use Rattle.std.proofs.Common.{refl, arith}
use Rattle.coco_chief.proofs.RangeLemmas.{adds_longer, adds_alone, behind_last}
use Rattle.coco_chief.proofs.ranges.add_epoch.Goals as goal

pub overflow_sub-epoch : goal.overflow_sub-epoch
overflow_sub-epoch c = behind_last c.args.ranges.now.items c.pop.new.self.items c.in-Some.range c.args.epoch c.in-Some.ensures.items c.requires.behind

pub returns-in-Some-clause-covers : goal.returns-in-Some-clause-covers
returns-in-Some-clause-covers c = (adds_longer c.args.ranges.now.items c.pop.new.self.items c.push_reserved.new.self.items c.in-Some.range _ c.args.epoch c.in-Some.ensures.items c.push_reserved.ensures.items refl refl c.requires.ranges c.requires.behind c.if-epoch-range-le1.true).covers-is

pub returns-in-Some-clause-end : goal.returns-in-Some-clause-end
returns-in-Some-clause-end c = (adds_longer c.args.ranges.now.items c.pop.new.self.items c.push_reserved.new.self.items c.in-Some.range _ c.args.epoch c.in-Some.ensures.items c.push_reserved.ensures.items refl refl c.requires.ranges c.requires.behind c.if-epoch-range-le1.true).end-is

pub returns-in-Some-clause-ranges : goal.returns-in-Some-clause-ranges
returns-in-Some-clause-ranges c = (adds_longer c.args.ranges.now.items c.pop.new.self.items c.push_reserved.new.self.items c.in-Some.range _ c.args.epoch c.in-Some.ensures.items c.push_reserved.ensures.items refl refl c.requires.ranges c.requires.behind c.if-epoch-range-le1.true).ranges-are

pub returns-in_ok-push-in-Some-2-clause-covers : goal.returns-in_ok-push-in-Some-2-clause-covers
returns-in_ok-push-in-Some-2-clause-covers c = (adds_alone c.args.ranges.now.items c.pop.new.self.items c.push_reserved-in-Some-2.new.self.items c.push-in-Some-2.new.self.items c.in-Some.range _ c.args.epoch c.in-Some.ensures.items c.push_reserved-in-Some-2.ensures.items c.in_ok-push-in-Some-2.ensures.items refl refl c.requires.ranges c.if-epoch-range-le1.false).covers-is

pub returns-in_ok-push-in-Some-2-clause-end : goal.returns-in_ok-push-in-Some-2-clause-end
returns-in_ok-push-in-Some-2-clause-end c = (adds_alone c.args.ranges.now.items c.pop.new.self.items c.push_reserved-in-Some-2.new.self.items c.push-in-Some-2.new.self.items c.in-Some.range _ c.args.epoch c.in-Some.ensures.items c.push_reserved-in-Some-2.ensures.items c.in_ok-push-in-Some-2.ensures.items refl refl c.requires.ranges c.if-epoch-range-le1.false).end-is

pub returns-in_ok-push-in-Some-2-clause-ranges : goal.returns-in_ok-push-in-Some-2-clause-ranges
returns-in_ok-push-in-Some-2-clause-ranges c = (adds_alone c.args.ranges.now.items c.pop.new.self.items c.push_reserved-in-Some-2.new.self.items c.push-in-Some-2.new.self.items c.in-Some.range _ c.args.epoch c.in-Some.ensures.items c.push_reserved-in-Some-2.ensures.items c.in_ok-push-in-Some-2.ensures.items refl refl c.requires.ranges c.if-epoch-range-le1.false).ranges-are
