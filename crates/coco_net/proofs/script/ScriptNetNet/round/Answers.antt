use Rattle.std.proofs.Common.{take, replicate}
use Rattle.std.proofs.lemmas.Result.{on_ok_weaker}
use Rattle.coco_net.specs.Mail.{fresh}
use Rattle.coco_net.specs.Rounds.{script_gives, script_loses, still_loses}
use Rattle.coco_net.proofs.GivingLemmas.{faults_more, gives, none_fresh, script_new_all, script_sent_all}
use Rattle.coco_net.proofs.script.ScriptNetNet.round.Goals as goal

pub returns-clause-ok : goal.returns-clause-ok
returns-clause-ok c =
    let s = c.args.self.now.post in
    let lose = still_loses c.args.self.now.lose s.faults in
    let before = take s.since s.sent in
    on_ok_weaker c.script_round.result
    (λ is. gives s c.script_round.new.post (script_gives lose c.args.self.now.times before (fresh s)) (replicate 9 c.args.self.now.reverse) (script_loses lose before (fresh s)) is
    (script_sent_all s lose c.args.self.now.times before) (script_new_all s lose c.args.self.now.times before c.args.self.now.some)) c.script_round.ensures.ok

pub returns-clause-faults : goal.returns-clause-faults
returns-clause-faults c =
    let s = c.args.self.now.post in
    let lose = still_loses c.args.self.now.lose s.faults in
    let before = take s.since s.sent in
    on_ok_weaker c.script_round.result
    (λ is. faults_more s c.script_round.new.post (script_gives lose c.args.self.now.times before (fresh s)) (replicate 9 c.args.self.now.reverse) (script_loses lose before (fresh s)) is) c.script_round.ensures.ok

pub returns-clause-fresh : goal.returns-clause-fresh
returns-clause-fresh c =
    let s = c.args.self.now.post in
    let lose = still_loses c.args.self.now.lose s.faults in
    let before = take s.since s.sent in
    on_ok_weaker c.script_round.result (none_fresh s c.script_round.new.post (script_gives lose c.args.self.now.times before (fresh s)) (replicate 9 c.args.self.now.reverse) (script_loses lose before (fresh s))) c.script_round.ensures.ok
