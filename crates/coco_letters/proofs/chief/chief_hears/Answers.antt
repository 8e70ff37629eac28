use Rattle.std.proofs.Common.{◌≡◌, ◌++◌, List, ap, refl, subst, sym, ◌∙◌}
use Rattle.std.proofs.lemmas.Result.{on_ok_weaker}
use Rattle.coco_msg.specs.declared.action.Action.{Action}
use Rattle.coco_net.specs.declared.letter.Posted.{Posted}
use Rattle.coco_chief.specs.Shown.{chief_of}
use Rattle.coco_chief.specs.Table.{handled, Turn}
use Rattle.coco_letters.specs.Saying.{posts_of, AreToSay}
use Rattle.coco_letters.proofs.HearingLemmas.{chief_drops, chief_takes, heard_from, posted_is}
use Rattle.coco_letters.proofs.SayingLemmas.{chief_says, nodes_stay}
use Rattle.coco_letters.proofs.TellingLemmas.{adds_same, hears_says}
use Rattle.coco_letters.proofs.WorldLemmas.{chief_goes, nothing_goes}
use Rattle.coco_letters.proofs.OnlyLemmas.{sends_nothing}
use Rattle.coco_letters.proofs.chief.chief_hears.Goals as goal

pub send_actions-requires-clause-messages : goal.send_actions-requires-clause-messages
send_actions-requires-clause-messages g c =
    let from = c.args.letter.now.from in
    let m = c.in-Some.message in
    let heard = heard_from c.args.letter.now c.in_ok-message.field-0 m c.in-Some.is c.in_ok-message.ensures.found in
    let said : c.deref.result.now ≡ (handled from m (chief_of c.args.chief.now)).0 = c.deref.ensures.value ∙ ap (λ (turn : Turn). turn.0) c.in_ok-actions-in-Some.ensures.ok in
    subst AreToSay (sym said) (chief_says from m (chief_of c.args.chief.now) c.requires.few heard.say)

pub returns-in_ok-actions-in-Some-clause-heard : goal.returns-in_ok-actions-in-Some-clause-heard
returns-in_ok-actions-in-Some-clause-heard g c =
    let from = c.args.letter.now.from in
    let m = c.in-Some.message in
    let heard = heard_from c.args.letter.now c.in_ok-message.field-0 m c.in-Some.is c.in_ok-message.ensures.found in
    let before : List Posted = g.N.Net.sent c.args.net.now in
    let said : c.deref.result.now ≡ (handled from m (chief_of c.args.chief.now)).0 = c.deref.ensures.value ∙ ap (λ (turn : Turn). turn.0) c.in_ok-actions-in-Some.ensures.ok in
    on_ok_weaker c.send_actions.result
    (λ sent. chief_takes c.args.letter.now m (chief_of c.args.chief.now) before (chief_of c.handle.new.self) (g.N.Net.sent c.send_actions.new.net) heard
    (ap (λ (turn : Turn). turn.1) c.in_ok-actions-in-Some.ensures.ok) (sent ∙ ap (λ (actions : List Action). before ++ posts_of 8 actions) said))
    c.send_actions.ensures.sent

pub returns-in_ok-actions-in-Some-clause-says : goal.returns-in_ok-actions-in-Some-clause-says
returns-in_ok-actions-in-Some-clause-says g c =
    let from = c.args.letter.now.from in
    let m = c.in-Some.message in
    let heard = heard_from c.args.letter.now c.in_ok-message.field-0 m c.in-Some.is c.in_ok-message.ensures.found in
    let before : List Posted = g.N.Net.sent c.args.net.now in
    let said : c.deref.result.now ≡ (handled from m (chief_of c.args.chief.now)).0 = c.deref.ensures.value ∙ ap (λ (turn : Turn). turn.0) c.in_ok-actions-in-Some.ensures.ok in
    on_ok_weaker c.send_actions.result
    (λ sent. hears_says c.args.letter.now (chief_of c.args.chief.now) (chief_of c.handle.new.self) before (g.N.Net.sent c.send_actions.new.net) c.requires.few
    (chief_takes c.args.letter.now m (chief_of c.args.chief.now) before (chief_of c.handle.new.self) (g.N.Net.sent c.send_actions.new.net) heard
    (ap (λ (turn : Turn). turn.1) c.in_ok-actions-in-Some.ensures.ok) (sent ∙ ap (λ (actions : List Action). before ++ posts_of 8 actions) said)))
    c.send_actions.ensures.sent

pub returns-in_ok-actions-in-Some-clause-world : goal.returns-in_ok-actions-in-Some-clause-world
returns-in_ok-actions-in-Some-clause-world g c =
    let from = c.args.letter.now.from in
    let m = c.in-Some.message in
    let heard = heard_from c.args.letter.now c.in_ok-message.field-0 m c.in-Some.is c.in_ok-message.ensures.found in
    let before : List Posted = g.N.Net.sent c.args.net.now in
    let said : c.deref.result.now ≡ (handled from m (chief_of c.args.chief.now)).0 = c.deref.ensures.value ∙ ap (λ (turn : Turn). turn.0) c.in_ok-actions-in-Some.ensures.ok in
    on_ok_weaker c.send_actions.result
    (λ sent. λ cores. chief_goes from m cores (chief_of c.args.chief.now) (chief_of c.handle.new.self) before (g.N.Net.sent c.send_actions.new.net) c.requires.few heard.say
    (posted_is from 8 c.args.letter.now m before heard c.requires.sent)
    (ap (λ (turn : Turn). turn.1) c.in_ok-actions-in-Some.ensures.ok) (sent ∙ ap (λ (actions : List Action). before ++ posts_of 8 actions) said))
    c.send_actions.ensures.sent

pub returns-in_ok-actions-in-Some-clause-nodes : goal.returns-in_ok-actions-in-Some-clause-nodes
returns-in_ok-actions-in-Some-clause-nodes g c =
    ap (λ (turn : Turn). turn.1.nodes) c.in_ok-actions-in-Some.ensures.ok ∙ nodes_stay c.args.letter.now.from c.in-Some.message (chief_of c.args.chief.now)

pub returns-in-None-clause-heard : goal.returns-in-None-clause-heard
returns-in-None-clause-heard g c =
    chief_drops c.args.letter.now (chief_of c.args.chief.now) (g.N.Net.sent c.args.net.now) (chief_of c.args.chief.now) (g.N.Net.sent c.args.net.now)
    (λ m from. sym c.in-None.is ∙ c.in_ok-message.ensures.only m from.say from.bytes) refl refl

pub returns-in-None-clause-world : goal.returns-in-None-clause-world
returns-in-None-clause-world g c = λ cores. nothing_goes (record { cores = cores; chief = chief_of c.args.chief.now; sent = g.N.Net.sent c.args.net.now })

pub returns-in-None-clause-sends : goal.returns-in-None-clause-sends
returns-in-None-clause-sends g c = sends_nothing c.args.net.now

pub returns-in-None-clause-says : goal.returns-in-None-clause-says
returns-in-None-clause-says g c = adds_same (g.N.Net.sent c.args.net.now)

pub returns-in_err-message-clause-sends : goal.returns-in_err-message-clause-sends
returns-in_err-message-clause-sends g c = sends_nothing c.args.net.now

pub returns-in_err-actions-in-Some-clause-sends : goal.returns-in_err-actions-in-Some-clause-sends
returns-in_err-actions-in-Some-clause-sends g c = sends_nothing c.args.net.now
