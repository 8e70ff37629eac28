use Rattle.coco_finish.proofs.HearLemmas.{answers, told_again}
use Rattle.coco_finish.proofs.taking.take_committed.Goals as goal

pub returns-then-first-clause-answers : goal.returns-then-first-clause-answers
returns-then-first-clause-answers g c =
    answers c.args.node c.args.epoch c.args.letter.now c.args.cores.now (g.N.Net.sent c.args.net.now) c.hear_committed.new.cores (g.N.Net.sent c.hear_committed.new.net) c.in_ok-first.first (g.N.Net.fresh c.args.net.now) (g.N.Net.fresh c.hear_committed.new.net) c.in_ok-first.ensures.heard c.in_ok-first.ensures.sends.fresh

pub returns-else-first-clause-told : goal.returns-else-first-clause-told
returns-else-first-clause-told g c =
    told_again c.args.node c.args.epoch c.args.letter.now c.args.cores.now (g.N.Net.sent c.args.net.now) c.hear_committed.new.cores (g.N.Net.sent c.hear_committed.new.net) c.in_ok-first.first c.if-first.false c.in_ok-first.ensures.heard c.args.tables.now.behind.items

pub returns-else-first-clause-answers : goal.returns-else-first-clause-answers
returns-else-first-clause-answers g c =
    answers c.args.node c.args.epoch c.args.letter.now c.args.cores.now (g.N.Net.sent c.args.net.now) c.hear_committed.new.cores (g.N.Net.sent c.hear_committed.new.net) c.in_ok-first.first (g.N.Net.fresh c.args.net.now) (g.N.Net.fresh c.hear_committed.new.net) c.in_ok-first.ensures.heard c.in_ok-first.ensures.sends.fresh
