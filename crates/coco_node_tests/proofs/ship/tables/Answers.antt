use Rattle.std.proofs.Common.{◌≡◌, ◌+◌, ◌∙◌, ◌∷◌, [], ap, arith, length, length-append, subst, sym}
use Rattle.coco_ship.proofs.ExampleLemmas.{early_begun, early_push, AreEarly}
use Rattle.coco_node_tests.proofs.ship.tables.Goals as goal

pub loop-number-preserved : goal.loop-number-preserved
loop-number-preserved c =
    let old = c.loop-number.tables.items in
    let x = c.in_ok-copy.copy in
    let items = c.in_ok-push.ensures.items in
    let longer : length c.push.new.self.items ≡ length old + 1 = ap length items ∙ length-append old (x ∷ []) in
    record {
      count = omega (arith, longer, c.loop-number.invariant.count);
      early = subst (AreEarly c.args.pieces.now) (sym items) (early_push c.args.pieces.now old c.loop-number.number x c.loop-number.invariant.count c.loop-number.invariant.early c.in_ok-copy.ensures.epoch c.in_ok-copy.ensures.written);
    }

pub returns : goal.returns
returns c = early_begun c.args.pieces.now c.loop-number.tables.items (omega (arith, c.loop-number.invariant.count)) c.loop-number.invariant.early
