use Rattle.std.proofs.Common.{List, subst, sym}
use Rattle.std.proofs.lemmas.Result.{on_ok_weaker}
use Rattle.coco_net.specs.declared.letter.Posted.{Posted}
use Rattle.coco_letters.specs.Turns.{AreSent}
use Rattle.coco_node_tests.proofs.letters.give.Goals as goal

pub returns : goal.returns
returns g c =
    on_ok_weaker c.round.result
    (λ gives. subst (λ (ps : List Posted). AreSent ps (g.N.Net.waiting c.round.new.self)) (sym c.round.ensures.sent)
    (c.waiting_letters_were_sent.ensures.round (g.N.Net.sent c.args.net.now) (g.N.Net.fresh c.args.net.now) (g.N.Net.faults c.args.net.now) (g.N.Net.faults c.round.new.self) (g.N.Net.waiting c.round.new.self)
    (g.N.Net.given c.args.net.now) (g.N.Net.given c.round.new.self) gives))
    c.round.ensures.ok
