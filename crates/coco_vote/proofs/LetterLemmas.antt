-- Nets that keep their letters, step by step.
use Rattle.std.proofs.Common.{◌≡◌, ◌⊎◌, ◌+◌, Result, refl}
use Rattle.std.specs.Prelude.{OnErr, OnOk}
use Rattle.coco_net.specs.Giving.{GivesMore}
use Rattle.coco_net.specs.declared.net.Net.{Ghosts as NetGhosts}
use Rattle.coco_letters.specs.Turns.{AreFresh, Counts}
use Rattle.coco_letters.proofs.SendingLemmas.{sends_fresh, sends_none, sends_then}
use Rattle.coco_vote.specs.Keeping.{KeepsLetters}
use Rattle.coco_vote.proofs.GivingLemmas.{gives_counts, gives_round, gives_same, gives_then}

module _ {N : Type 0} {nets : NetGhosts N} where
  pub letters_same : (net : N) → KeepsLetters nets net net
  letters_same net = record { sends = sends_none (nets.sent net) (nets.sent net) refl; gives = gives_same (nets.given net) (nets.faults net) (nets.last_seed net) }

  pub letters_then : {l m n : N} → KeepsLetters nets l m → KeepsLetters nets m n → KeepsLetters nets l n
  letters_then {l} {m} {n} one two = record {
    sends = sends_then (nets.sent l) (nets.sent m) (nets.sent n) one.sends two.sends;
    gives = gives_then (nets.given l) (nets.faults l) (nets.last_seed l) (nets.given m) (nets.faults m) (nets.last_seed m) (nets.given n) (nets.faults n) (nets.last_seed n) one.gives two.gives;
  }

  -- letters were sent, and none was given
  pub letters_sent : {l m : N} → AreFresh (nets.sent l) (nets.fresh l) (nets.sent m) (nets.fresh m)
      → Counts (nets.given l) (nets.faults l) (nets.last_seed l) (nets.given m) (nets.faults m) (nets.last_seed m) → KeepsLetters nets l m
  letters_sent {l} {m} fresh counts = record {
    sends = sends_fresh (nets.sent l) (nets.fresh l) (nets.sent m) (nets.fresh m) fresh;
    gives = gives_counts (nets.given l) (nets.faults l) (nets.last_seed l) (nets.given m) (nets.faults m) (nets.last_seed m) counts;
  }

  -- a round
  pub letters_round : {T E : Type 0} {l m : N} (r : Result T E) → nets.sent m ≡ nets.sent l
      → OnOk r (GivesMore (nets.sent l) (nets.fresh l) (nets.faults l) (nets.faults m) (nets.waiting m) (nets.given l) (nets.given m))
      → OnOk r ((nets.faults m ≡ nets.faults l) ⊎ (nets.faults m ≡ nets.faults l + 1))
      → OnErr r ((nets.given m ≡ nets.given l) × (nets.fresh m ≡ nets.fresh l) × (nets.faults m ≡ nets.faults l))
      → nets.last_seed m ≡ nets.last_seed l → KeepsLetters nets l m
  letters_round {l = l} {m = m} r sent gives faults err seed = record {
    sends = sends_none (nets.sent l) (nets.sent m) sent;
    gives = gives_round r (nets.sent l) (nets.fresh l) (nets.waiting m) (nets.given l) (nets.faults l) (nets.last_seed l) (nets.given m) (nets.faults m) (nets.last_seed m) (nets.fresh m) gives faults err seed;
  }
