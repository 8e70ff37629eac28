use Rattle.std.proofs.Common.{◌≡◌, Some, ap, arith, subst, sym, ◌∙◌}
use Rattle.std.specs.List.{slice_get}
use Rattle.std.proofs.lemmas.Option.{same_Some, slice_get-get_or}
use Rattle.std.proofs.lemmas.Result.{on_ok_weaker}
use Rattle.coco_node.specs.Node.{Node}
use Rattle.coco_node.specs.Table.{forced, Turn}
use Rattle.coco_letters.specs.Saying.{AreToSay}
use Rattle.coco_letters.proofs.HearingLemmas.{turns_by}
use Rattle.coco_letters.proofs.SayingLemmas.{vote_says}
use Rattle.coco_letters.proofs.WorldLemmas.{force_goes}
use Rattle.coco_letters.proofs.OnlyLemmas.{sends_nothing}
use Rattle.coco_letters.proofs.nodes.node_forced.Goals as goal

pub forced-requires-clause-forcing : goal.forced-requires-clause-forcing
forced-requires-clause-forcing g c =
    let there : slice_get c.args.cores.now c.args.node ≡ Some c.index-cores-node.result = slice_get-get_or c.args.cores.now c.args.node c.index-cores-node.result c.requires.node ∙ ap (λ (x : Node). Some x) (sym c.index-cores-node.is) in
    ap (λ (core : Node). core.forcing) (sym c.index-cores-node.is ∙ same_Some c.index-cores-node.result c.requires.forcing.core (sym there ∙ c.requires.forcing.there)) ∙ c.requires.forcing.forcing

pub send_actions-requires-clause-messages : goal.send_actions-requires-clause-messages
send_actions-requires-clause-messages g c =
    let said : c.deref.result.now ≡ (forced c.args.epoch c.index-cores-node.result).0 = c.deref.ensures.value ∙ ap (λ (turn : Turn). turn.0) c.in_ok-actions.ensures.ok in
    subst AreToSay (sym said) (vote_says _ c.args.epoch (omega (arith, c.ranges.epoch.fits)))

pub returns-clause-turns : goal.returns-clause-turns
returns-clause-turns g c =
    on_ok_weaker c.send_actions.result
    (λ sent. turns_by c.args.node (forced c.args.epoch) c.args.cores.now c.index-cores-node.result c.forced.new.self c.in_ok-actions.actions.items c.deref.result.now c.index-cores-node.is c.in_ok-actions.ensures.ok c.deref.ensures.value (g.N.Net.sent c.args.net.now) (g.N.Net.sent c.send_actions.new.net) c.requires.node sent)
    c.send_actions.ensures.sent

pub returns-clause-world : goal.returns-clause-world
returns-clause-world g c =
    on_ok_weaker c.send_actions.result
    (λ sent. λ chief. force_goes c.args.node c.args.epoch c.args.cores.now _ chief (g.N.Net.sent c.args.net.now) (g.N.Net.sent c.send_actions.new.net) c.requires.node (omega (arith, c.ranges.epoch.fits)) c.requires.forcing
    (turns_by c.args.node (forced c.args.epoch) c.args.cores.now c.index-cores-node.result c.forced.new.self c.in_ok-actions.actions.items c.deref.result.now c.index-cores-node.is c.in_ok-actions.ensures.ok c.deref.ensures.value (g.N.Net.sent c.args.net.now) (g.N.Net.sent c.send_actions.new.net) c.requires.node sent))
    c.send_actions.ensures.sent

pub returns-in_err-actions-clause-sends : goal.returns-in_err-actions-clause-sends
returns-in_err-actions-clause-sends g c = sends_nothing c.args.net.now
