use Rattle.std.proofs.Common.{◌≡◌, ◌∙◌, [], false, Some, ap}
use Rattle.std.proofs.lemmas.Result.{on_ok_weaker}
use Rattle.std.proofs.lemmas.List.Elements.{All-contains_itself}
use Rattle.coco_net.specs.Mail.{MailState, fresh, waiting_at}
use Rattle.coco_net.specs.Rounds.{after_seeded, next_generator}
use Rattle.coco_net.proofs.GivingLemmas.{always_err, fresh_sent, gives, none_fresh, seeded_faults, seeded_gives, seeded_keeps}
use Rattle.coco_net.proofs.seeded.SeededNetNet.round.Goals as goal

pub returns-in_err-words-in-Some-clause-still_waiting : goal.returns-in_err-words-in-Some-clause-still_waiting
returns-in_err-words-in-Some-clause-still_waiting c =
    always_err c.from_residual.result (λ p. ap (λ (s : MailState). waiting_at s p) c.in_err-words-in-Some.ensures.err)

pub returns-in-None-clause-ok : goal.returns-in-None-clause-ok
returns-in-None-clause-ok c =
    on_ok_weaker c.quiet_round.result (λ is. gives c.args.self.now.post c.quiet_round.new.post (fresh c.args.self.now.post) [] false is (fresh_sent c.args.self.now.post) (λ _. All-contains_itself (fresh c.args.self.now.post))) c.quiet_round.ensures.ok

pub returns-in_ok-words-in-Some-clause-ok : goal.returns-in_ok-words-in-Some-clause-ok
returns-in_ok-words-in-Some-clause-ok c = seeded_gives c.args.self.now.post c.seeded_round.new.post c.in-Some.generator c.in_ok-words-in-Some.ensures.ok

pub returns-in_ok-words-in-Some-clause-faults : goal.returns-in_ok-words-in-Some-clause-faults
returns-in_ok-words-in-Some-clause-faults c = seeded_faults c.args.self.now.post c.seeded_round.new.post c.in-Some.generator c.in_ok-words-in-Some.ensures.ok

pub returns-in_ok-words-in-Some-clause-quiet : goal.returns-in_ok-words-in-Some-clause-quiet
returns-in_ok-words-in-Some-clause-quiet c = λ none. let never : ⊥ = cc in absurd never

pub returns-in_ok-words-in-Some-clause-disturbed : goal.returns-in_ok-words-in-Some-clause-disturbed
returns-in_ok-words-in-Some-clause-disturbed c = λ g is.
    let same : c.in-Some.generator ≡ g = cc in
    (c.in_ok-words-in-Some.ensures.ok ∙ ap (λ g. after_seeded g c.args.self.now.post) same, ap Some (c.in_ok-words-in-Some.ensures.words ∙ ap (λ g. next_generator g c.args.self.now.post) same))

pub returns-in_ok-words-in-Some-clause-fresh : goal.returns-in_ok-words-in-Some-clause-fresh
returns-in_ok-words-in-Some-clause-fresh c = (seeded_keeps c.args.self.now.post c.seeded_round.new.post c.in-Some.generator c.in_ok-words-in-Some.ensures.ok).0

pub returns-in_ok-words-in-Some-clause-sent : goal.returns-in_ok-words-in-Some-clause-sent
returns-in_ok-words-in-Some-clause-sent c = (seeded_keeps c.args.self.now.post c.seeded_round.new.post c.in-Some.generator c.in_ok-words-in-Some.ensures.ok).1

pub returns-in_ok-words-in-Some-clause-seed : goal.returns-in_ok-words-in-Some-clause-seed
returns-in_ok-words-in-Some-clause-seed c = (seeded_keeps c.args.self.now.post c.seeded_round.new.post c.in-Some.generator c.in_ok-words-in-Some.ensures.ok).2

pub returns-in-None-clause-fresh : goal.returns-in-None-clause-fresh
returns-in-None-clause-fresh c = on_ok_weaker c.quiet_round.result (none_fresh c.args.self.now.post c.quiet_round.new.post (fresh c.args.self.now.post) [] false) c.quiet_round.ensures.ok
