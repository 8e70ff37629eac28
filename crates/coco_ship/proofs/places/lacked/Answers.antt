use Rattle.std.proofs.Common.{◌+◌, ◌<◌, length, refl, rules, subst, sym, take}
use Rattle.std.proofs.lemmas.List.{take_all}
use Rattle.coco_ship.specs.Sets.{HasSame, Misses}
use Rattle.coco_ship.proofs.SetLemmas.{misses_as, misses_more, misses_none, misses_same}
use Rattle.coco_ship.proofs.places.lacked.Goals.{then-not-has+in_ok-add, else-not-has}
use Rattle.coco_ship.proofs.places.lacked.Goals as goal

pub loop-place-init : goal.loop-place-init
loop-place-init c = misses_none c.args.had.now c.new-missing.result c.new-missing.ensures

pub loop-place-preserved : goal.loop-place-preserved
loop-place-preserved c =
    let there = c.args.had.now in
    let ps = c.args.places.now in
    let i = c.loop-place.place-index in
    let mid = c.loop-place.missing in
    let within : i < length ps = search rules in
    elim c.if-not-has.branch [
      | then-not-has+in_ok-add w ↦ subst (Misses there (take (i + 1) ps)) (sym w.missing-is) (misses_more there mid w.add.new.places ps i within c.loop-place.invariant (cc) w.in_ok-add.ensures)
      | else-not-has w ↦ subst (Misses there (take (i + 1) ps)) (sym w.missing-is) (misses_same there mid ps i within c.loop-place.invariant (cc))
    ]

pub returns : goal.returns
returns c =
    let ps = c.args.places.now in
    let had = c.args.had.now in
    let whole : Misses had ps c.loop-place.missing = subst (λ qs. Misses had qs c.loop-place.missing) (take_all c.loop-place.place-index ps (search rules)) c.loop-place.invariant in
    misses_as had had ps c.loop-place.missing c.of.result whole (λ q. refl) (subst (λ qs. HasSame qs c.of.result) c.into_vec.ensures c.of.ensures)
