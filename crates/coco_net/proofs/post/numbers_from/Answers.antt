use Rattle.std.proofs.Common.{◌<◌, length, arith}
use Rattle.coco_net.proofs.MailLemmas.{all_pushed, one_picked_more}
use Rattle.coco_net.proofs.post.numbers_from.Goals as goal

pub loop-n-preserved : goal.loop-n-preserved
loop-n-preserved c =
    let within : c.loop-n.n < length c.args.sent.now = omega arith in
    record {
      picked = one_picked_more c.args.sent.now c.loop-n.numbers.items c.push.new.self.items c.loop-n.n c.args.from within c.in_ok-push.ensures.items c.loop-n.invariant.picked;
      within = all_pushed (λ n. n < length c.args.sent.now) c.loop-n.numbers.items c.push.new.self.items c.loop-n.n c.in_ok-push.ensures.items c.loop-n.invariant.within within;
    }
