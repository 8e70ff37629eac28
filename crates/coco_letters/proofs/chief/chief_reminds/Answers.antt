use Rattle.std.proofs.Common.{◌≡◌, ◌<◌, ◌++◌, ◌^◌, List, ap, arith, refl, subst, sym, ◌∙◌}
use Rattle.std.proofs.lemmas.Result.{on_ok_weaker}
use Rattle.coco_msg.specs.declared.action.Action.{Action}
use Rattle.coco_net.specs.declared.letter.Posted.{Posted}
use Rattle.coco_chief.specs.Shown.{chief_of}
use Rattle.coco_chief.specs.Table.{reminds}
use Rattle.coco_letters.specs.Saying.{posts_of, AreToSay}
use Rattle.coco_letters.proofs.SayingLemmas.{reminds_says}
use Rattle.coco_letters.proofs.TellingLemmas.{reminds_says as turn_says}
use Rattle.coco_letters.proofs.WorldLemmas.{remind_goes}
use Rattle.coco_letters.proofs.OnlyLemmas.{sends_nothing}
use Rattle.coco_letters.proofs.chief.chief_reminds.Goals as goal

pub send_actions-requires-clause-messages : goal.send_actions-requires-clause-messages
send_actions-requires-clause-messages g c =
    let chief = chief_of c.args.chief.now in
    let said : c.deref.result.now ≡ (reminds chief) = c.deref.ensures.value ∙ c.in_ok-actions.ensures in
    let fits : chief.last < 2 ^ 64 = omega (arith, c.last-last.ensures) in
    subst AreToSay (sym said) (reminds_says chief c.requires.few fits)

pub returns-clause-world : goal.returns-clause-world
returns-clause-world g c =
    let chief = chief_of c.args.chief.now in
    let before : List Posted = g.N.Net.sent c.args.net.now in
    let said : c.deref.result.now ≡ (reminds chief) = c.deref.ensures.value ∙ c.in_ok-actions.ensures in
    let fits : chief.last < 2 ^ 64 = omega (arith, c.last-last.ensures) in
    on_ok_weaker c.send_actions.result
    (λ sent. λ cores. remind_goes cores chief chief before (g.N.Net.sent c.send_actions.new.net) c.requires.few fits
    (record { chief_is = refl; sent_is = sent ∙ ap (λ (actions : List Action). before ++ posts_of 8 actions) said }))
    c.send_actions.ensures.sent

pub returns-clause-says : goal.returns-clause-says
returns-clause-says g c =
    let chief = chief_of c.args.chief.now in
    let before : List Posted = g.N.Net.sent c.args.net.now in
    let said : c.deref.result.now ≡ (reminds chief) = c.deref.ensures.value ∙ c.in_ok-actions.ensures in
    let fits : chief.last < 2 ^ 64 = omega (arith, c.last-last.ensures) in
    on_ok_weaker c.send_actions.result
    (λ sent. turn_says chief chief before (g.N.Net.sent c.send_actions.new.net) c.requires.few fits
    (record { chief_is = refl; sent_is = sent ∙ ap (λ (actions : List Action). before ++ posts_of 8 actions) said }))
    c.send_actions.ensures.sent

pub returns-in_err-actions-clause-sends : goal.returns-in_err-actions-clause-sends
returns-in_err-actions-clause-sends g c = sends_nothing c.args.net.now
