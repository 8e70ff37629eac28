use Rattle.std.proofs.Common.{◌≡◌, ◌<◌, arith, length, rules, subst, take}
use Rattle.std.specs.List.{All}
use Rattle.std.proofs.lemmas.List.{take_all}
use Rattle.std.proofs.lemmas.List.Elements.{All-more}
use Rattle.coco_msg.specs.Bytes.{IsWrite}
use Rattle.coco_ship.proofs.ask.writes_fit.Goals as goal

pub loop-write-preserved : goal.loop-write-preserved
loop-write-preserved c =
    let ws = c.args.writes.now in
    let i = c.loop-write.write-index in
    let w = c.write-item.result in
    let within : i < length ws = search rules in
    All-more IsWrite ws i w within c.loop-write.invariant (subst IsWrite c.write-item.is c.write_fits.ensures)

pub returns : goal.returns
returns c =
    let ws = c.args.writes.now in
    let i = c.loop-write.write-index in
    let whole : take i ws ≡ ws = take_all i ws (omega arith) in
    subst (All IsWrite) whole c.loop-write.invariant
