use Rattle.std.proofs.Common.{◌+◌, ◌<◌, length, rules, subst, sym, take}
use Rattle.std.proofs.lemmas.List.{take_all}
use Rattle.coco_ship.specs.Sets.{HasSame, Keeps}
use Rattle.coco_ship.proofs.SetLemmas.{keeps_as, keeps_more, keeps_none, keeps_same}
use Rattle.coco_ship.proofs.places.kept.Goals.{then-has+in_ok-add, else-has}
use Rattle.coco_ship.proofs.places.kept.Goals as goal

pub loop-place-init : goal.loop-place-init
loop-place-init c = keeps_none c.args.set.now c.new-still.result c.new-still.ensures

pub loop-place-preserved : goal.loop-place-preserved
loop-place-preserved c =
    let old = c.args.set.now in
    let ps = c.args.places.now in
    let i = c.loop-place.place-index in
    let mid = c.loop-place.still in
    let within : i < length ps = search rules in
    elim c.if-has.branch [
      | then-has+in_ok-add w ↦ subst (Keeps old (take (i + 1) ps)) (sym w.still-is) (keeps_more old mid w.add.new.places ps i within c.loop-place.invariant (cc) w.in_ok-add.ensures)
      | else-has w ↦ subst (Keeps old (take (i + 1) ps)) (sym w.still-is) (keeps_same old mid ps i within c.loop-place.invariant (cc))
    ]

pub returns : goal.returns
returns c =
    let ps = c.args.places.now in
    let whole : Keeps c.args.set.now ps c.loop-place.still = subst (λ qs. Keeps c.args.set.now qs c.loop-place.still) (take_all c.loop-place.place-index ps (search rules)) c.loop-place.invariant in
    keeps_as c.args.set.now ps c.loop-place.still c.of.result whole (subst (λ qs. HasSame qs c.of.result) c.into_vec.ensures c.of.ensures)
