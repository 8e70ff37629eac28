use Rattle.std.proofs.Common.{◌≡◌, ◌+◌, ◌∙◌, ◌∷◌, [], ap, arith, length, length-append, subst, sym}
use Rattle.coco_ship.specs.Examples.{AreNumbered}
use Rattle.coco_ship.proofs.ExampleLemmas.{numbered_push}
use Rattle.coco_node_tests.proofs.ship.pieces.Goals as goal

pub loop-number-preserved : goal.loop-number-preserved
loop-number-preserved c =
    let old = c.loop-number.pieces.items in
    let x = c.in_ok-one.one in
    let items = c.in_ok-push.ensures.items in
    let longer : length c.push.new.self.items ≡ length old + 1 = ap length items ∙ length-append old (x ∷ []) in
    record {
      count = omega (arith, longer, c.loop-number.invariant.count);
      numbered = subst AreNumbered (sym items) (numbered_push old c.loop-number.number x c.loop-number.invariant.count c.loop-number.invariant.numbered c.in_ok-one.ensures);
    }
