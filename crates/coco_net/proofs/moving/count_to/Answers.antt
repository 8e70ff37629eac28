use Rattle.std.proofs.Common.{◌≤◌, ◌<◌, length, take, arith, rules}
use Rattle.std.proofs.lemmas.List.{length-take}
use Rattle.coco_net.specs.Mail.{letters_to}
use Rattle.coco_net.proofs.RoomLemmas.{count_more, count_most}
use Rattle.coco_net.proofs.moving.count_to.Goals as goal

pub overflow_add-count : goal.overflow_add-count
overflow_add-count c =
    let most : length (letters_to c.args.place (take c.loop-posted.posted-index c.args.letters.now)) ≤ length (take c.loop-posted.posted-index c.args.letters.now) = count_most c.args.place (take c.loop-posted.posted-index c.args.letters.now) in
    let one : c.from-count.result ≤ 1 = search rules in
    omega (arith, most, one, length-take c.loop-posted.posted-index c.args.letters.now, c.loop-posted.invariant)

pub loop-posted-preserved : goal.loop-posted-preserved
loop-posted-preserved c =
    let within : c.loop-posted.posted-index < length c.args.letters.now = search rules in
    count_more c.args.place c.args.letters.now c.loop-posted.posted-index c.posted-item.result c.loop-posted.count c.from-count.result within (search rules) c.loop-posted.invariant (search rules)
