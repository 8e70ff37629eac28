use Rattle.std.proofs.Common.{◌≡◌, ◌∙◌, ◌++◌, [], List, append-nil, arith, subst, sym}
use Rattle.std.specs.List.{All, Contains}
use Rattle.std.proofs.lemmas.Result.{on_ok_weaker}
use Rattle.coco_net.specs.declared.letter.Posted.{Posted}
use Rattle.coco_ship.specs.Shipping.{news}
use Rattle.coco_ship.specs.Taking.{waiting_below, Hears, OfBoth}
use Rattle.coco_ship.proofs.DeliverLemmas.{brings_among, hears_all_given, news_is, waiting_all}
use Rattle.coco_ship.proofs.RoundLemmas.{passes_given, passes_sent, risen}
use Rattle.coco_ship.proofs.ship.deliver.Goals as goal

pub returns-in_err-round-clause-passes : goal.returns-in_err-round-clause-passes
returns-in_err-round-clause-passes g c =
    passes_sent c.args.net.now c.round.new.self [] c.requires.fit (λ i d h. absurd (omega (arith, h))) (c.round.ensures.sent ∙ sym (append-nil (g.N.Net.sent c.args.net.now))) c.in_err-round.ensures.err.0 c.in_err-round.ensures.err.2 c.round.ensures.seed

pub returns-clause-passes : goal.returns-clause-passes
returns-clause-passes g c =
    let ring = c.args.ring in
    let w = g.N.Net.waiting c.round.new.self in
    let gives = c.in_ok-round.ensures.ok in
    passes_given c.args.net.now c.hand_out.new.net c.args.copies.now gives.0 c.hand_out.ensures.fit (c.hand_out.ensures.sent ∙ c.round.ensures.sent) (c.hand_out.ensures.given ∙ gives.1)
    (brings_among ring c.args.epoch (waiting_below w ring.nodes) gives.0 c.args.copies.now c.hand_out.new.copies (waiting_all ring w gives.0 c.requires.fit.is_ring gives.2.wait).among c.hand_out.ensures.tables) gives.2.were_sent
    (risen (g.N.Net.faults c.args.net.now) (g.N.Net.faults c.round.new.self) (g.N.Net.faults c.hand_out.new.net) c.in_ok-round.ensures.faults c.hand_out.ensures.faults) (c.hand_out.ensures.seed ∙ c.round.ensures.seed)

pub returns-clause-heard : goal.returns-clause-heard
returns-clause-heard g c =
    let ring = c.args.ring in
    let w = g.N.Net.waiting c.round.new.self in
    let gives = c.in_ok-round.ensures.ok in
    let new : news (g.N.Net.given c.args.net.now) (g.N.Net.given c.hand_out.new.net) ≡ gives.0 = news_is (g.N.Net.given c.args.net.now) (g.N.Net.given c.hand_out.new.net) gives.0 (c.hand_out.ensures.given ∙ gives.1) in
    on_ok_weaker c.hand_out.result (λ ok. subst (λ (ps : List Posted). OfBoth ring (Hears ring c.args.epoch ps) c.args.lines.now c.args.copies.now c.hand_out.new.lines c.hand_out.new.copies) (sym new)
    (hears_all_given ring c.args.epoch (waiting_below w ring.nodes) gives.0 c.args.lines.now c.args.copies.now c.hand_out.new.lines c.hand_out.new.copies c.requires.fit.is_ring (waiting_all ring w gives.0 c.requires.fit.is_ring gives.2.wait) ok)) c.hand_out.ensures.ok

pub returns-clause-new_ones : goal.returns-clause-new_ones
returns-clause-new_ones g c =
    let gives = c.in_ok-round.ensures.ok in
    let given : g.N.Net.given c.hand_out.new.net ≡ g.N.Net.given c.args.net.now ++ gives.0 = c.hand_out.ensures.given ∙ gives.1 in
    let fresh = g.N.Net.fresh c.args.net.now in
    let come : g.N.Net.faults c.hand_out.new.net ≡ g.N.Net.faults c.args.net.now → All (Contains (news (g.N.Net.given c.args.net.now) (g.N.Net.given c.hand_out.new.net))) fresh =
    λ same. subst (λ (ps : List Posted). All (Contains ps) fresh) (sym (news_is (g.N.Net.given c.args.net.now) (g.N.Net.given c.hand_out.new.net) gives.0 given)) (gives.2.new_ones (sym c.hand_out.ensures.faults ∙ same)) in
    on_ok_weaker c.hand_out.result (λ _. come) c.hand_out.ensures.ok
