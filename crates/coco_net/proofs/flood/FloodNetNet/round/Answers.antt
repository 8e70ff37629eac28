use Rattle.std.proofs.Common.{[], false}
use Rattle.std.proofs.lemmas.Result.{on_ok_weaker}
use Rattle.std.proofs.lemmas.List.Elements.{All-contains_itself}
use Rattle.coco_net.proofs.GivingLemmas.{fresh_sent, gives, none_fresh}
use Rattle.coco_net.proofs.flood.FloodNetNet.round.Goals as goal

pub returns-clause-ok : goal.returns-clause-ok
returns-clause-ok c =
    on_ok_weaker c.flood_round.result (λ is. gives c.args.self.now.post c.flood_round.new.post c.args.self.now.post.sent [] false is (All-contains_itself c.args.self.now.post.sent) (λ _. fresh_sent c.args.self.now.post)) c.flood_round.ensures.ok

pub returns-clause-fresh : goal.returns-clause-fresh
returns-clause-fresh c = on_ok_weaker c.flood_round.result (none_fresh c.args.self.now.post c.flood_round.new.post c.args.self.now.post.sent [] false) c.flood_round.ensures.ok
