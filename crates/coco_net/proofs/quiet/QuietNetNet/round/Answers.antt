use Rattle.std.proofs.Common.{[], false}
use Rattle.std.proofs.lemmas.Result.{on_ok_weaker}
use Rattle.std.proofs.lemmas.List.Elements.{All-contains_itself}
use Rattle.coco_net.specs.Mail.{fresh}
use Rattle.coco_net.proofs.GivingLemmas.{fresh_sent, gives, none_fresh}
use Rattle.coco_net.proofs.quiet.QuietNetNet.round.Goals as goal

pub returns-clause-ok : goal.returns-clause-ok
returns-clause-ok c =
    on_ok_weaker c.round.result (λ is. gives c.args.self.now.post c.round.new.self (fresh c.args.self.now.post) [] false is (fresh_sent c.args.self.now.post) (λ _. All-contains_itself (fresh c.args.self.now.post))) c.round.ensures.ok

pub returns-clause-fresh : goal.returns-clause-fresh
returns-clause-fresh c = on_ok_weaker c.round.result (none_fresh c.args.self.now.post c.round.new.self (fresh c.args.self.now.post) [] false) c.round.ensures.ok
