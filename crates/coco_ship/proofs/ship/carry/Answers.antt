use Rattle.std.proofs.Common.{◌≡◌, ◌∙◌, ◌++◌, [], List, append-nil, subst}
use Rattle.std.specs.List.{All, Contains}
use Rattle.std.proofs.lemmas.Result.{on_ok_weaker}
use Rattle.coco_net.specs.declared.letter.Posted.{Posted}
use Rattle.coco_ship.specs.Shipping.{news}
use Rattle.coco_ship.specs.Taking.{Hears, OfBoth}
use Rattle.coco_ship.proofs.RoundLemmas.{all_among, carry_came, none_given, on_ok_two, passes_sent, passes_then, phase_front}
use Rattle.coco_ship.proofs.ship.carry.Goals as goal

pub returns-in_err-send_all-clause-passes : goal.returns-in_err-send_all-clause-passes
returns-in_err-send_all-clause-passes g c =
    let some = c.send_all.ensures.some in
    passes_sent c.args.net.now c.send_all.new.net some.0 c.requires.fit (phase_front c.args.epoch some.0 some.1 c.args.letters.items some.3 c.requires.phase) some.2 c.send_all.ensures.given c.send_all.ensures.faults c.send_all.ensures.seed

pub returns-clause-passes : goal.returns-clause-passes
returns-clause-passes g c =
    passes_then (passes_sent c.args.net.now c.send_all.new.net c.args.letters.items c.requires.fit c.requires.phase c.in_ok-send_all.ensures.sent c.send_all.ensures.given c.send_all.ensures.faults c.send_all.ensures.seed) c.deliver.ensures.passes

pub returns-clause-sent : goal.returns-clause-sent
returns-clause-sent g c =
    let sent : g.N.Net.sent c.deliver.new.net ≡ g.N.Net.sent c.args.net.now ++ c.args.letters.items = c.deliver.ensures.sent ∙ c.in_ok-send_all.ensures.sent in
    on_ok_weaker c.deliver.result (λ _. sent) c.deliver.ensures.heard

pub returns-in_err-send_all-clause-were_sent : goal.returns-in_err-send_all-clause-were_sent
returns-in_err-send_all-clause-were_sent g c = none_given (g.N.Net.sent c.args.net.now ++ c.args.letters.items) (g.N.Net.given c.args.net.now) (g.N.Net.given c.send_all.new.net) c.send_all.ensures.given

pub returns-clause-were_sent : goal.returns-clause-were_sent
returns-clause-were_sent g c =
    let after = g.N.Net.given c.deliver.new.net in
    let sent : g.N.Net.sent c.deliver.new.net ≡ g.N.Net.sent c.args.net.now ++ c.args.letters.items = c.deliver.ensures.sent ∙ c.in_ok-send_all.ensures.sent in
    subst (λ (z : List Posted). All (Contains z) (news (g.N.Net.given c.args.net.now) after)) sent
    (subst (λ (z : List Posted). All (Contains (g.N.Net.sent c.deliver.new.net)) (news z after)) c.send_all.ensures.given c.deliver.ensures.passes.were_sent)

pub returns-clause-heard : goal.returns-clause-heard
returns-clause-heard g c =
    on_ok_weaker c.deliver.result (λ heard. subst (λ (z : List Posted). OfBoth c.args.ring (Hears c.args.ring c.args.epoch (news z (g.N.Net.given c.deliver.new.net))) c.args.lines.now c.args.copies.now c.deliver.new.lines c.deliver.new.copies) c.send_all.ensures.given heard) c.deliver.ensures.heard

pub returns-clause-came : goal.returns-clause-came
returns-clause-came g c =
    on_ok_two c.deliver.result (λ new_ones faults. carry_came (g.N.Net.faults c.args.net.now) (g.N.Net.faults c.send_all.new.net) (g.N.Net.faults c.deliver.new.net) (g.N.Net.fresh c.args.net.now) (g.N.Net.fresh c.send_all.new.net) c.args.letters.items
    (g.N.Net.given c.args.net.now) (g.N.Net.given c.send_all.new.net) (g.N.Net.given c.deliver.new.net) c.send_all.ensures.faults c.in_ok-send_all.ensures.fresh c.send_all.ensures.given new_ones faults) c.deliver.ensures.new_ones c.deliver.ensures.faults

pub returns-in_err-send_all-clause-only : goal.returns-in_err-send_all-clause-only
returns-in_err-send_all-clause-only g c =
    let some = c.send_all.ensures.some in
    all_among (g.N.Net.sent c.args.net.now) (g.N.Net.sent c.send_all.new.net) some.0 some.1 c.args.letters.items some.2 some.3

pub returns-clause-only : goal.returns-clause-only
returns-clause-only g c =
    let sent : g.N.Net.sent c.deliver.new.net ≡ g.N.Net.sent c.args.net.now ++ c.args.letters.items = c.deliver.ensures.sent ∙ c.in_ok-send_all.ensures.sent in
    all_among (g.N.Net.sent c.args.net.now) (g.N.Net.sent c.deliver.new.net) c.args.letters.items [] c.args.letters.items sent (append-nil c.args.letters.items)
