use Rattle.std.proofs.Common.{◌<◌, length, get_or, rules}
use Rattle.coco_net.proofs.MailLemmas.{one_letter_more}
use Rattle.coco_net.proofs.post.letters_for.Goals as goal

pub loop-n-preserved : goal.loop-n-preserved
loop-n-preserved c =
    let within : c.loop-n.n-index < length c.args.chosen.now = search rules in
    let there : get_or c.args.chosen.now c.loop-n.n-index 0 < length c.args.sent.now = c.requires c.loop-n.n-index 0 within in
    record {
      letters = one_letter_more c.args.place c.args.sent.now c.args.chosen.now c.loop-n.n-index c.index-sent-n.result c.loop-n.letters.items c.push_for.new.letters.items within there (search rules) c.loop-n.invariant.letters c.in_ok-push_for.ensures.letters;
      few = c.in_ok-push_for.ensures.few;
    }
