use Rattle.std.proofs.Common.{◌<◌, length, get_or, rules}
use Rattle.coco_net.proofs.MailLemmas.{given_next}
use Rattle.coco_net.proofs.post.note_given.Goals as goal

pub loop-n-preserved : goal.loop-n-preserved
loop-n-preserved c =
    let within : c.loop-n.n-index < length c.args.chosen.now = search rules in
    let there : get_or c.args.chosen.now c.loop-n.n-index 0 < length c.args.sent.now = c.requires c.loop-n.n-index 0 within in
    given_next c.args.sent.now c.args.chosen.now c.loop-n.n-index c.index-sent-n.result c.args.given.now.items c.loop-n.given.items c.add.new.self.items within there (search rules) c.loop-n.invariant (search rules)
