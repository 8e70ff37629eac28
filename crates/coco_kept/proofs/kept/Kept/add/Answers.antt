use Rattle.std.proofs.Common.{refl, ap, ◌∙◌}
use Rattle.coco_kept.specs.Keeping.{newest_epoch}
use Rattle.coco_kept.proofs.HoldLemmas.{up_to_from, newest-push}
use Rattle.coco_kept.proofs.KeepLemmas.{holds_more}
use Rattle.coco_kept.proofs.kept.Kept.add.Goals as goal

pub make_place-requires : goal.make_place-requires
make_place-requires c = up_to_from c.args.done.epoch c.args.self.now.dones c.requires.newest

pub push-requires-clause-new : goal.push-requires-clause-new
push-requires-clause-new c = c.make_place.ensures.absent c.args.done.id c.requires.new

pub push-requires-clause-last : goal.push-requires-clause-last
push-requires-clause-last c = c.make_place.ensures.up_to

pub push-requires-clause-within : goal.push-requires-clause-within
push-requires-clause-within c = λ n is. c.make_place.ensures.within n is c.args.done refl

pub returns-clause-dones : goal.returns-clause-dones
returns-clause-dones c = c.push.ensures.dones ∙ c.make_place.ensures.kept c.args.done refl

pub returns-clause-floor : goal.returns-clause-floor
returns-clause-floor c = c.push.ensures.floor ∙ c.make_place.ensures.floor c.args.done refl

pub returns-clause-newest : goal.returns-clause-newest
returns-clause-newest c = ap newest_epoch c.push.ensures.dones ∙ newest-push c.make_place.new.self.dones c.args.done c.make_place.ensures.up_to

pub returns-clause-kept : goal.returns-clause-kept
returns-clause-kept c = λ before added holds newest.
    holds_more c.args.self.now c.push.new.self c.args.done c.make_place.ensures.some (c.push.ensures.keep ∙ c.make_place.ensures.keep)
    (c.push.ensures.dones ∙ c.make_place.ensures.kept c.args.done refl) (c.push.ensures.floor ∙ c.make_place.ensures.floor c.args.done refl)
    before added holds (up_to_from c.args.done.epoch added newest)
