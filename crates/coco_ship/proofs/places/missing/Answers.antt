use Rattle.std.proofs.Common.{[], List, ℕ, refl, rules, subst}
use Rattle.std.proofs.lemmas.Result.{IfOk-weaker}
use Rattle.coco_ship.specs.Sets.{HasSame}
use Rattle.coco_ship.proofs.SetLemmas.{misses_as, misses_nothing}
use Rattle.coco_ship.proofs.places.missing.Goals as goal

pub returns-then-is_just : goal.returns-then-is_just
returns-then-is_just c =
    let there = c.args.there.now in
    let ps = c.args.places.now in
    let copied : HasSame there c.of-had.result = subst (λ qs. HasSame qs c.of-had.result) (search rules) c.of-had.ensures in
    let none : HasSame [] c.of.result = subst (λ (qs : List ℕ). HasSame qs c.of.result) c.new.ensures.items c.of.ensures in
    misses_as there there ps [] c.of.result (misses_nothing there c.of-had.result ps copied (c.is_just.ensures c.if-is_just.true)) (λ q. refl) none

pub returns : goal.returns
returns c =
    let there = c.args.there.now in
    let ps = c.args.places.now in
    let copied : HasSame there c.of-had.result = subst (λ qs. HasSame qs c.of-had.result) (search rules) c.of-had.ensures in
    IfOk-weaker c.lacked.result _ _ (λ missing h. misses_as there c.of-had.result ps missing missing h copied (λ q. refl)) c.lacked.ensures
