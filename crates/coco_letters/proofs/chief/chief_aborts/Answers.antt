use Rattle.std.proofs.Common.{◌≡◌, ◌<◌, ◌++◌, ◌^◌, List, ap, arith, refl, subst, sym, ◌∙◌}
use Rattle.std.proofs.lemmas.Result.{on_ok_weaker}
use Rattle.coco_msg.specs.declared.action.Action.{Action}
use Rattle.coco_msg.specs.declared.message.Message.TheVariants.{Abort}
use Rattle.coco_net.specs.declared.letter.Posted.{Posted}
use Rattle.coco_chief.specs.Shown.{chief_of}
use Rattle.coco_chief.specs.Table.{aborted, Turn}
use Rattle.coco_letters.specs.Saying.{posts_of, AreToSay}
use Rattle.coco_letters.proofs.SayingLemmas.{each_says}
use Rattle.coco_letters.proofs.TellingLemmas.{aborted_says}
use Rattle.coco_letters.proofs.WorldLemmas.{abort_goes}
use Rattle.coco_letters.proofs.OnlyLemmas.{sends_nothing}
use Rattle.coco_letters.proofs.chief.chief_aborts.Goals as goal

pub send_actions-requires-clause-messages : goal.send_actions-requires-clause-messages
send_actions-requires-clause-messages g c =
    let chief = chief_of c.args.chief.now in
    let said : c.deref.result.now ≡ (aborted chief).0 = c.deref.ensures.value ∙ ap (λ (turn : Turn). turn.0) c.in_ok-actions.ensures.ok in
    let fits : chief.current < 2 ^ 64 = omega (arith, c.current-current.ensures) in
    subst AreToSay (sym said) (each_says chief.nodes (Abort chief.current) c.requires.few (record { is = fits; commit = refl }))

pub returns-clause-world : goal.returns-clause-world
returns-clause-world g c =
    let chief = chief_of c.args.chief.now in
    let before : List Posted = g.N.Net.sent c.args.net.now in
    let said : c.deref.result.now ≡ (aborted chief).0 = c.deref.ensures.value ∙ ap (λ (turn : Turn). turn.0) c.in_ok-actions.ensures.ok in
    let fits : chief.current < 2 ^ 64 = omega (arith, c.current-current.ensures) in
    on_ok_weaker c.send_actions.result
    (λ sent. λ cores. abort_goes cores chief (chief_of c.abort.new.self) before (g.N.Net.sent c.send_actions.new.net) c.requires.few fits c.requires.undecided
    (record { chief_is = ap (λ (turn : Turn). turn.1) c.in_ok-actions.ensures.ok; sent_is = sent ∙ ap (λ (actions : List Action). before ++ posts_of 8 actions) said }))
    c.send_actions.ensures.sent

pub returns-clause-says : goal.returns-clause-says
returns-clause-says g c =
    let chief = chief_of c.args.chief.now in
    let before : List Posted = g.N.Net.sent c.args.net.now in
    let said : c.deref.result.now ≡ (aborted chief).0 = c.deref.ensures.value ∙ ap (λ (turn : Turn). turn.0) c.in_ok-actions.ensures.ok in
    let fits : chief.current < 2 ^ 64 = omega (arith, c.current-current.ensures) in
    on_ok_weaker c.send_actions.result
    (λ sent. aborted_says chief (chief_of c.abort.new.self) before (g.N.Net.sent c.send_actions.new.net) c.requires.few fits
    (record { chief_is = ap (λ (turn : Turn). turn.1) c.in_ok-actions.ensures.ok; sent_is = sent ∙ ap (λ (actions : List Action). before ++ posts_of 8 actions) said }))
    c.send_actions.ensures.sent

pub returns-in_err-actions-clause-sends : goal.returns-in_err-actions-clause-sends
returns-in_err-actions-clause-sends g c = sends_nothing c.args.net.now
