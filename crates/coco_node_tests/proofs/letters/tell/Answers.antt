use Rattle.std.proofs.Common.{◌≡◌, List, [], ◌∷◌, ◌++◌, ap, arith, refl, subst, sym, ◌∙◌}
use Rattle.std.specs.List.{Contains}
use Rattle.std.proofs.lemmas.List.Elements.{Contains-push}
use Rattle.coco_msg.specs.declared.action.Action.{Action}
use Rattle.coco_msg.specs.declared.message.Message.TheVariants.{Commit}
use Rattle.coco_net.specs.declared.letter.Posted.{Posted}
use Rattle.coco_letters.specs.Saying.{posted, posts_of, AreToSay}
use Rattle.coco_node_tests.proofs.letters.tell.Goals as goal

pub send_actions-requires-clause-messages : goal.send_actions-requires-clause-messages
send_actions-requires-clause-messages g c = subst AreToSay (sym (c.deref.ensures.value ∙ c.in_ok-actions.ensures)) (omega arith, record { is = omega (arith, c.ranges.epoch.fits); commit = refl }, tt)

pub resend-requires-clause-message : goal.resend-requires-clause-message
resend-requires-clause-message g c = record { is = omega (arith, c.ranges.epoch.fits); commit = refl }

pub resend-requires-clause-sent : goal.resend-requires-clause-sent
resend-requires-clause-sent g c =
    let before : List Posted = g.N.Net.sent c.args.net.now in
    let sent = c.in_ok-send_actions.ensures.sent ∙ ap (λ (actions : List Action). before ++ posts_of 8 actions) (c.deref.ensures.value ∙ c.in_ok-actions.ensures) in
    subst (λ (ps : List Posted). Contains ps (posted 8 0 (Commit c.args.epoch))) (sym sent) (Contains-push before (posted 8 0 (Commit c.args.epoch)))
