use Rattle.std.proofs.Common.{◌≡◌, ◌∙◌, ap, false, length, not, ◌==◌, ◌&&◌, ◌||◌, get_or, ◌+◌, ◌*◌, rules}
use Rattle.coco_power.proofs.AskedLemmas.{asked_set}
use Rattle.coco_power.proofs.record.Record.ask.Goals as goal

pub returns-clause-asked : goal.returns-clause-asked
returns-clause-asked c = λ n p kn kp.
    let len : length c.begin.new.self.asked ≡ 56 = search rules in
    asked_set c.args.self.now.asked c.begin.new.self.asked c.begins.result c.args.node c.args.point n p c.requires.node c.requires.point kn kp len c.begin.ensures.asked
    ∙ ap (λ b. ((n == c.args.node) && (p == c.args.point)) || (not b && get_or c.args.self.now.asked (n * 7 + p) false)) c.begins.ensures
