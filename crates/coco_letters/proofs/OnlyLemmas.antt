-- Nets that letters are sent to, step by step.
use Rattle.std.proofs.Common.{◌≡◌, refl, ◌∙◌}
use Rattle.coco_net.specs.declared.net.Net.{Ghosts as NetGhosts}
use Rattle.coco_letters.specs.Turns.{OnlySends}
use Rattle.coco_letters.proofs.HearingLemmas.{counts_then, fresh_none}
use Rattle.coco_letters.proofs.TakingLemmas.{fresh_then}

module _ {N : Type 0} {nets : NetGhosts N} where
  pub sends_nothing : (net : N) → OnlySends nets net net
  sends_nothing net = record {
    fresh = fresh_none (nets.sent net) (nets.fresh net);
    waiting = λ p. refl;
    counts = record { given_stays = refl; faults_stay = refl; seed_stays = refl };
  }

  pub only_then : {l m n : N} → OnlySends nets l m → OnlySends nets m n → OnlySends nets l n
  only_then {l} {m} {n} one two = record {
    fresh = fresh_then (nets.sent l) (nets.fresh l) (nets.sent m) (nets.fresh m) (nets.sent n) (nets.fresh n) one.fresh two.fresh;
    waiting = λ p. two.waiting p ∙ one.waiting p;
    counts = counts_then (nets.given l) (nets.faults l) (nets.last_seed l) (nets.given m) (nets.faults m) (nets.last_seed m) (nets.given n) (nets.faults n) (nets.last_seed n) one.counts two.counts;
  }
