use Rattle.std.proofs.Common.{◌≤◌, List, ◌∷◌, ap, arith, inl, refl, subst, sym, ◌∙◌}
use Rattle.std.specs.List.{Contains}
use Rattle.coco_net.specs.declared.letter.Letter.{Letter}
use Rattle.coco_net.specs.declared.letter.Posted.{Posted}
use Rattle.coco_letters.specs.Turns.{AreSent}
use Rattle.coco_letters.specs.Worlds.{GoesOn}
use Rattle.coco_letters.proofs.HearingLemmas.{counts_then, fresh_none}
use Rattle.coco_letters.proofs.WorldLemmas.{goes_on_then, nothing_goes}
use Rattle.coco_vote.proofs.EndingLemmas.{give_same, give_then, told_all, told_more}
use Rattle.coco_vote.proofs.StepLemmas.{fresh_then}
use Rattle.coco_vote.proofs.StopLemmas.{sent_more}
use Rattle.coco_vote.proofs.giving_up.take_end.Goals as goal

pub loop-letter-init : goal.loop-letter-init
loop-letter-init g c = record {
  give_up = give_same c.args.epoch c.args.cores.now;
  told = λ q among _. inl among;
  silent = refl;
  world = λ chief. nothing_goes (record { cores = c.args.cores.now; chief = chief; sent = (g.N.Net.sent c.args.net.now) });
  sent = c.requires.sent;
  others = λ p other. refl;
  fresh = fresh_none (g.N.Net.sent c.args.net.now) (g.N.Net.fresh c.args.net.now);
  counts = record { given_stays = refl; faults_stay = refl; seed_stays = refl };
}

pub hear_end-requires-clause-sent : goal.hear_end-requires-clause-sent
hear_end-requires-clause-sent g c =
    let before = c.loop-letter.invariant in
    let le : c.args.node ≤ 8 = omega (arith, c.requires.few, c.requires.node) in
    subst (λ (ps : List Posted). Contains ps (record { to = c.args.node; letter = c.in-Some.letter })) (sym c.next.ensures.sent)
    (c.waiting_letters_were_sent.ensures.letter (g.N.Net.sent c.loop-letter.net) (g.N.Net.waiting c.loop-letter.net) (g.N.Net.waiting c.next.new.self) c.args.node c.in-Some.letter le before.sent c.in-Some.ensures.first)

pub loop-letter-preserved : goal.loop-letter-preserved
loop-letter-preserved g c =
    let before = c.loop-letter.invariant in
    record {
      give_up = give_then c.args.epoch c.args.cores.now c.loop-letter.cores c.hear_end.new.cores before.give_up c.in_ok-hear_end.ensures.give_up;
      told = told_more c.args.epoch c.args.node ((g.N.Net.waiting c.args.net.now) c.args.node) ((g.N.Net.waiting c.loop-letter.net) c.args.node) ((g.N.Net.waiting c.hear_end.new.net) c.args.node) c.in-Some.letter c.loop-letter.cores c.hear_end.new.cores
          (c.in-Some.ensures.first ∙ ap (λ (ls : List Letter). c.in-Some.letter ∷ ls) (sym (c.hear_end.ensures.sends.waiting c.args.node))) c.in_ok-hear_end.ensures.give_up c.in_ok-hear_end.ensures.told before.told;
      silent = c.in_ok-hear_end.ensures.silent ∙ c.next.ensures.sent ∙ before.silent;
      world = λ chief. goes_on_then (record { cores = c.args.cores.now; chief = chief; sent = (g.N.Net.sent c.args.net.now) }) (record { cores = c.loop-letter.cores; chief = chief; sent = (g.N.Net.sent c.loop-letter.net) }) (record { cores = c.hear_end.new.cores; chief = chief; sent = (g.N.Net.sent c.hear_end.new.net) }) (before.world chief)
          (subst (λ (ps : List Posted). GoesOn (record { cores = c.loop-letter.cores; chief = chief; sent = ps }) (record { cores = c.hear_end.new.cores; chief = chief; sent = (g.N.Net.sent c.hear_end.new.net) })) c.next.ensures.sent (c.in_ok-hear_end.ensures.world chief));
      sent = sent_more (g.N.Net.sent c.next.new.self) (g.N.Net.fresh c.next.new.self) (g.N.Net.sent c.hear_end.new.net) (g.N.Net.fresh c.hear_end.new.net) (g.N.Net.waiting c.next.new.self) (g.N.Net.waiting c.hear_end.new.net) c.in_ok-hear_end.ensures.sends.fresh c.hear_end.ensures.sends.waiting (subst (λ (ps : List Posted). AreSent ps (g.N.Net.waiting c.next.new.self)) (sym c.next.ensures.sent) (c.waiting_letters_were_sent.ensures.taken (g.N.Net.sent c.loop-letter.net) (g.N.Net.waiting c.loop-letter.net) (g.N.Net.waiting c.next.new.self) c.args.node c.next.result before.sent c.next.ensures.first c.next.ensures.others));
      others = λ p other. c.hear_end.ensures.sends.waiting p ∙ c.next.ensures.others p other ∙ before.others p other;
      fresh = fresh_then (g.N.Net.sent c.args.net.now) (g.N.Net.fresh c.args.net.now) (g.N.Net.sent c.next.new.self) (g.N.Net.fresh c.next.new.self) (g.N.Net.sent c.hear_end.new.net) (g.N.Net.fresh c.hear_end.new.net) (record { posts = before.fresh.posts; sent_is = c.next.ensures.sent ∙ before.fresh.sent_is; fresh_is = c.next.ensures.fresh ∙ before.fresh.fresh_is }) c.in_ok-hear_end.ensures.sends.fresh;
      counts = (counts_then (g.N.Net.given c.args.net.now) (g.N.Net.faults c.args.net.now) (g.N.Net.last_seed c.args.net.now) (g.N.Net.given c.next.new.self) (g.N.Net.faults c.next.new.self) (g.N.Net.last_seed c.next.new.self) (g.N.Net.given c.hear_end.new.net) (g.N.Net.faults c.hear_end.new.net) (g.N.Net.last_seed c.hear_end.new.net) (record { given_stays = c.next.ensures.given ∙ before.counts.given_stays; faults_stay = c.next.ensures.faults ∙ before.counts.faults_stay; seed_stays = c.next.ensures.seed ∙ before.counts.seed_stays }) c.hear_end.ensures.sends.counts);
    }

pub returns-in_err-hear_end-clause-counts : goal.returns-in_err-hear_end-clause-counts
returns-in_err-hear_end-clause-counts g c =
    let before = c.loop-letter.invariant in
    (counts_then (g.N.Net.given c.args.net.now) (g.N.Net.faults c.args.net.now) (g.N.Net.last_seed c.args.net.now) (g.N.Net.given c.next.new.self) (g.N.Net.faults c.next.new.self) (g.N.Net.last_seed c.next.new.self) (g.N.Net.given c.hear_end.new.net) (g.N.Net.faults c.hear_end.new.net) (g.N.Net.last_seed c.hear_end.new.net) (record { given_stays = c.next.ensures.given ∙ before.counts.given_stays; faults_stay = c.next.ensures.faults ∙ before.counts.faults_stay; seed_stays = c.next.ensures.seed ∙ before.counts.seed_stays }) c.hear_end.ensures.sends.counts)

pub returns-clause-told : goal.returns-clause-told
returns-clause-told g c = told_all c.args.epoch c.args.node ((g.N.Net.waiting c.args.net.now) c.args.node) ((g.N.Net.waiting c.loop-letter.net) c.args.node) c.loop-letter.cores c.in_default.ensures.first.0 c.loop-letter.invariant.told

pub returns-clause-sent : goal.returns-clause-sent
returns-clause-sent g c =
    let before = c.loop-letter.invariant in
    (subst (λ (ps : List Posted). AreSent ps (g.N.Net.waiting c.next.new.self)) (sym c.next.ensures.sent) (c.waiting_letters_were_sent.ensures.taken (g.N.Net.sent c.loop-letter.net) (g.N.Net.waiting c.loop-letter.net) (g.N.Net.waiting c.next.new.self) c.args.node c.next.result before.sent c.next.ensures.first c.next.ensures.others))

pub returns-in_err-hear_end-clause-fresh : goal.returns-in_err-hear_end-clause-fresh
returns-in_err-hear_end-clause-fresh g c =
    let before = c.loop-letter.invariant in
    fresh_then (g.N.Net.sent c.args.net.now) (g.N.Net.fresh c.args.net.now) (g.N.Net.sent c.next.new.self) (g.N.Net.fresh c.next.new.self) (g.N.Net.sent c.hear_end.new.net) (g.N.Net.fresh c.hear_end.new.net) (record { posts = before.fresh.posts; sent_is = c.next.ensures.sent ∙ before.fresh.sent_is; fresh_is = c.next.ensures.fresh ∙ before.fresh.fresh_is }) (c.hear_end.ensures.sends.fresh)
