use Rattle.std.proofs.Common.{◌≡◌, ◌+◌, ◌<◌, ◌∙◌, ◌∷◌, [], ap, arith, length, length-append, rules}
use Rattle.coco_ship.proofs.NoteLemmas.{begins_push}
use Rattle.coco_ship.proofs.line.lines_for.Goals as goal

pub loop-noted-preserved : goal.loop-noted-preserved
loop-noted-preserved c =
    let old = c.loop-noted.lines.items in
    let line = c.in_ok-line.line in
    let items = c.in_ok-push.ensures.items in
    let longer : length c.push.new.self.items ≡ length old + 1 = ap length items ∙ length-append old (line ∷ []) in
    let within : c.loop-noted.noted-index < length c.args.notes.now = search rules in
    record {
      count = omega (arith, longer, c.loop-noted.invariant.count);
      begun = begins_push c.args.notes.now old c.push.new.self.items c.loop-noted.noted-index c.noted-item.result line c.loop-noted.invariant.count within c.noted-item.is items c.in_ok-line.ensures c.loop-noted.invariant.begun;
    }
