use Rattle.std.proofs.Common.{refl, sym, ◌∙◌}
use Rattle.std.proofs.lemmas.Result.{IfOk-weaker}
use Rattle.coco_letters.proofs.HearingLemmas.{heard_awaited, hears_drops, hears_takes, posted_is}
use Rattle.coco_letters.proofs.WorldLemmas.{node_goes, nothing_goes}
use Rattle.coco_letters.proofs.OnlyLemmas.{sends_nothing}
use Rattle.coco_letters.proofs.nodes.node_hears.Goals as goal

pub takes-requires-clause-message : goal.takes-requires-clause-message
takes-requires-clause-message g c = (heard_awaited c.args.phase c.args.epoch c.args.letter.now c.in_ok-message.field-0 c.in-Some.message c.in-Some.is c.in_ok-message.ensures.found).0.say

pub returns-in-Some-clause-hears : goal.returns-in-Some-clause-hears
returns-in-Some-clause-hears g c =
    let heard = heard_awaited c.args.phase c.args.epoch c.args.letter.now c.in_ok-message.field-0 c.in-Some.message c.in-Some.is c.in_ok-message.ensures.found in
    IfOk-weaker c.takes.result _ _
    (λ actions takes. hears_takes c.args.phase c.args.epoch c.args.node c.args.letter.now c.in-Some.message c.args.cores.now (g.N.Net.sent c.args.net.now) c.takes.new.cores (g.N.Net.sent c.takes.new.net) actions.items heard.0 heard.1 takes)
    c.takes.ensures.takes

pub returns-in-Some-clause-world : goal.returns-in-Some-clause-world
returns-in-Some-clause-world g c =
    let heard = heard_awaited c.args.phase c.args.epoch c.args.letter.now c.in_ok-message.field-0 c.in-Some.message c.in-Some.is c.in_ok-message.ensures.found in
    IfOk-weaker c.takes.result _ _
    (λ actions takes. λ chief. node_goes c.args.node c.in-Some.message c.args.cores.now c.takes.new.cores (g.N.Net.sent c.args.net.now) (g.N.Net.sent c.takes.new.net) actions.items chief heard.0.say c.requires.node
    (posted_is 8 c.args.node c.args.letter.now c.in-Some.message (g.N.Net.sent c.args.net.now) heard.0 c.requires.sent) takes)
    c.takes.ensures.takes

pub returns-in-None-clause-hears : goal.returns-in-None-clause-hears
returns-in-None-clause-hears g c =
    hears_drops c.args.phase c.args.epoch c.args.node c.args.letter.now c.args.cores.now (g.N.Net.sent c.args.net.now) c.args.cores.now (g.N.Net.sent c.args.net.now) c.new.result.items
    (λ m from awaited. sym c.in-None.is ∙ c.in_ok-message.ensures.only m from awaited) refl refl c.new.ensures.items

pub returns-in-None-clause-world : goal.returns-in-None-clause-world
returns-in-None-clause-world g c = λ chief. nothing_goes (record { cores = c.args.cores.now; chief = chief; sent = g.N.Net.sent c.args.net.now })

pub returns-in-None-clause-sends : goal.returns-in-None-clause-sends
returns-in-None-clause-sends g c = sends_nothing c.args.net.now

pub returns-in_err-message-clause-sends : goal.returns-in_err-message-clause-sends
returns-in_err-message-clause-sends g c = sends_nothing c.args.net.now
