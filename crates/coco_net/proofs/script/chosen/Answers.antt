use Rattle.std.proofs.Common.{◌≡◌, ◌<◌, ◌∙◌, ap, length, arith, take, get_or}
use Rattle.std.proofs.lemmas.List.{get_or_read}
use Rattle.coco_net.specs.Rounds.{is_lost}
use Rattle.coco_net.proofs.ChoiceLemmas.{script_loss, script_step, within_more}
use Rattle.coco_net.proofs.MailLemmas.{any_posted}
use Rattle.coco_net.proofs.script.chosen.Goals as goal

pub loop-n-preserved : goal.loop-n-preserved
loop-n-preserved c =
    let sent = c.args.sent.now in
    let within : c.loop-n.n < length sent = omega arith in
    let told : c.is_lost-lost.result ≡ is_lost c.args.lose (take c.loop-n.n sent) (get_or sent c.loop-n.n any_posted) =
    c.is_lost-lost.ensures ∙ ap (is_lost c.args.lose (take c.loop-n.n sent)) (get_or_read sent c.loop-n.n c.index-sent-n.result within c.index-sent-n.is any_posted) in
    record {
      within = within_more (length sent) c.loop-n.numbers.items c.push_times.new.numbers.items c.loop-n.n c.times_for.result within c.in_ok-push_times.ensures c.loop-n.invariant.within;
      given = script_step sent c.args.lose c.args.times c.loop-n.n c.times_for.result c.loop-n.numbers.items c.push_times.new.numbers.items c.is_lost-lost.result within told c.times_for.ensures c.in_ok-push_times.ensures ∙ c.loop-n.invariant.given;
      lost = script_loss sent c.args.lose c.loop-n.n c.loop-n.loses c.is_lost-lost.result c.either-loses.result within told c.either-loses.ensures ∙ c.loop-n.invariant.lost;
    }
