use Rattle.std.proofs.Common.{◌≡◌, Some, ap, arith, subst, sym, ◌∙◌}
use Rattle.std.specs.List.{slice_get}
use Rattle.std.proofs.lemmas.Option.{slice_get-get_or}
use Rattle.std.proofs.lemmas.Result.{on_ok_weaker}
use Rattle.coco_node.specs.Node.{Node}
use Rattle.coco_letters.specs.Saying.{AreToSay}
use Rattle.coco_letters.proofs.HearingLemmas.{asks_by}
use Rattle.coco_letters.proofs.SayingLemmas.{asks_says}
use Rattle.coco_letters.proofs.WorldLemmas.{ask_goes}
use Rattle.coco_letters.proofs.OnlyLemmas.{sends_nothing}
use Rattle.coco_letters.proofs.nodes.node_asks.Goals as goal

pub send_actions-requires-clause-messages : goal.send_actions-requires-clause-messages
send_actions-requires-clause-messages g c =
    subst AreToSay (sym (c.deref.ensures.value ∙ c.in_ok-actions.ensures)) (asks_says c.index-cores-node.result (omega (arith, c.durable-durable.ensures)))

pub returns-clause-asks : goal.returns-clause-asks
returns-clause-asks g c =
    on_ok_weaker c.send_actions.result
    (λ sent. asks_by c.args.node c.args.cores.now c.index-cores-node.result c.deref.result.now c.index-cores-node.is (c.deref.ensures.value ∙ c.in_ok-actions.ensures) (g.N.Net.sent c.args.net.now) (g.N.Net.sent c.send_actions.new.net) c.requires.node sent)
    c.send_actions.ensures.sent

pub returns-clause-world : goal.returns-clause-world
returns-clause-world g c =
    let core = c.index-cores-node.result in
    let there : slice_get c.args.cores.now c.args.node ≡ Some core = slice_get-get_or c.args.cores.now c.args.node core c.requires.node ∙ ap (λ (x : Node). Some x) (sym c.index-cores-node.is) in
    on_ok_weaker c.send_actions.result
    (λ sent. λ chief. ask_goes c.args.node c.args.cores.now core chief (g.N.Net.sent c.args.net.now) (g.N.Net.sent c.send_actions.new.net) c.requires.node there (omega (arith, c.durable-durable.ensures))
    (asks_by c.args.node c.args.cores.now core c.deref.result.now c.index-cores-node.is (c.deref.ensures.value ∙ c.in_ok-actions.ensures) (g.N.Net.sent c.args.net.now) (g.N.Net.sent c.send_actions.new.net) c.requires.node sent))
    c.send_actions.ensures.sent

pub returns-in_err-actions-clause-sends : goal.returns-in_err-actions-clause-sends
returns-in_err-actions-clause-sends g c = sends_nothing c.args.net.now
