-- What parts of a vote leave, one behind another.
use Rattle.std.proofs.Common.{◌≡◌, ◌⊎◌, ◌+◌, List, Some, Result, ap, refl, subst, sym, ◌∙◌, ℕ}
use Rattle.std.specs.Prelude.{OnErr, OnOk}
use Rattle.std.specs.List.{slice_get}
use Rattle.std.proofs.Math.ListN.{set}
use Rattle.coco_host.specs.Files.{Files}
use Rattle.coco_host.specs.declared.host.Host.{Ghosts as HostGhosts}
use Rattle.coco_net.specs.Giving.{GivesMore}
use Rattle.coco_net.specs.declared.net.Net.{Ghosts as NetGhosts}
use Rattle.coco_power.specs.declared.power.Power.{Ghosts as PowerGhosts}
use Rattle.coco_letters.specs.Turns.{AreFresh, Counts, SendsMore}
use Rattle.coco_letters.specs.declared.voter.Voter.{Voter}
use Rattle.coco_log.specs.LogState.{LogState, SameBut}
use Rattle.coco_vote.specs.Asking.{IsLater}
use Rattle.coco_vote.specs.Keeping.{KeepsLetters, KeepsRest, WritesLog}
use Rattle.coco_vote.specs.Taking.{KeepPlaces, SameElsewhere}
use Rattle.coco_vote.proofs.FileLemmas.{become_none, become_then, become_wider, but_both, but_elsewhere, but_same, elsewhere_both, elsewhere_first, elsewhere_same, follow_none, follow_then, follow_wider}
use Rattle.coco_vote.proofs.GivingLemmas.{gives_counts}
use Rattle.coco_vote.proofs.LetterLemmas.{letters_round, letters_same, letters_sent, letters_then}
use Rattle.coco_vote.proofs.PowerLemmas.{later_same, later_then}
use Rattle.coco_vote.proofs.VoterLemmas.{elsewhere_still, places_same, places_set, places_then}

-- ---- one log

module _ {H : Type 0} {frame : HostGhosts H} where
  -- no file was written
  pub writes_none : (log now : LogState) (host : H) → now ≡ log → WritesLog frame log now host host
  writes_none log now host same = record {
    file = ap (λ (l : LogState). l.file) same;
    kind = ap (λ (l : LogState). l.kind) same;
    others = λ other away stands. stands;
    read = become_none (SameBut log.file) (but_same log.file) (frame.reads host);
    crash = follow_none (SameBut log.file) (but_same log.file) (frame.may_leave host);
    said = refl;
    stream = refl;
  }

  pub writes_then : {a b c : LogState} {h i j : H} → WritesLog frame a b h i → WritesLog frame b c i j → WritesLog frame a c h j
  writes_then {a} {b} {c} {h} {i} {j} one two = record {
    file = two.file ∙ one.file;
    kind = two.kind ∙ one.kind;
    others = λ other away stands. two.others other (λ at. away (at ∙ one.file)) (one.others other away stands);
    read = become_then (SameBut a.file) (but_both a.file) (frame.reads h) (frame.reads i) (frame.reads j) one.read
        (become_wider (SameBut b.file) (SameBut a.file) moved (frame.reads i) (frame.reads j) two.read);
    crash = follow_then (SameBut a.file) (but_both a.file) (frame.may_leave h) (frame.may_leave i) (frame.may_leave j) one.crash
        (follow_wider (SameBut b.file) (SameBut a.file) moved (frame.may_leave i) (frame.may_leave j) two.crash);
    said = two.said ∙ one.said;
    stream = two.stream ∙ one.stream;
  }
    where
      moved : (x y : Files) → SameBut b.file x y → SameBut a.file x y
      moved x y same n other = same n (λ at. other (at ∙ one.file))

-- ---- all nodes

module _ {H N P : Type 0} {frame : HostGhosts H} {nets : NetGhosts N} {powers : PowerGhosts P} where
  -- only what is kept of the nodes was changed
  pub rest_places : (voters now : List Voter) (host : H) (net : N) (power : P) → KeepPlaces voters now → KeepsRest frame nets powers voters now host host net net power power
  rest_places voters now host net power places = record {
    places = places;
    others = λ other away stands. stands;
    read = become_none (SameElsewhere voters) (elsewhere_same voters) (frame.reads host);
    crash = follow_none (SameElsewhere voters) (elsewhere_same voters) (frame.may_leave host);
    said = refl;
    stream = refl;
    later = later_same powers power;
    letters = letters_same net;
  }

  pub rest_same : (voters : List Voter) (host : H) (net : N) (power : P) → KeepsRest frame nets powers voters voters host host net net power power
  rest_same voters host net power = rest_places voters voters host net power (places_same voters)

  -- only the net was used
  pub rest_net : (voters : List Voter) (host : H) (net net_new : N) (power : P) → KeepsLetters nets net net_new → KeepsRest frame nets powers voters voters host host net net_new power power
  rest_net voters host net net_new power letters = record {
    places = places_same voters;
    others = λ other away stands. stands;
    read = become_none (SameElsewhere voters) (elsewhere_same voters) (frame.reads host);
    crash = follow_none (SameElsewhere voters) (elsewhere_same voters) (frame.may_leave host);
    said = refl;
    stream = refl;
    later = later_same powers power;
    letters = letters;
  }

  pub rest_then : {a b c : List Voter} {h i j : H} {l m n : N} {p q r : P}
      → KeepsRest frame nets powers a b h i l m p q → KeepsRest frame nets powers b c i j m n q r → KeepsRest frame nets powers a c h j l n p r
  rest_then {a} {b} {c} {h} {i} {j} {l} {m} {n} {p} {q} {r} one two = record {
    places = places_then a b c one.places two.places;
    others = λ other away stands. two.others other (elsewhere_still a b other one.places away) (one.others other away stands);
    read = become_then (SameElsewhere a) (elsewhere_both a) (frame.reads h) (frame.reads i) (frame.reads j) one.read
        (become_wider (SameElsewhere b) (SameElsewhere a) (elsewhere_first a b one.places) (frame.reads i) (frame.reads j) two.read);
    crash = follow_then (SameElsewhere a) (elsewhere_both a) (frame.may_leave h) (frame.may_leave i) (frame.may_leave j) one.crash
        (follow_wider (SameElsewhere b) (SameElsewhere a) (elsewhere_first a b one.places) (frame.may_leave i) (frame.may_leave j) two.crash);
    said = two.said ∙ one.said;
    stream = two.stream ∙ one.stream;
    later = later_then powers p q r one.later two.later;
    letters = letters_then one.letters two.letters;
  }

  -- a round
  pub rest_round : {T E : Type 0} (voters : List Voter) (host : H) (net net_new : N) (power : P) (r : Result T E) → nets.sent net_new ≡ nets.sent net
      → OnOk r (GivesMore (nets.sent net) (nets.fresh net) (nets.faults net) (nets.faults net_new) (nets.waiting net_new) (nets.given net) (nets.given net_new))
      → OnOk r ((nets.faults net_new ≡ nets.faults net) ⊎ (nets.faults net_new ≡ nets.faults net + 1))
      → OnErr r ((nets.given net_new ≡ nets.given net) × (nets.fresh net_new ≡ nets.fresh net) × (nets.faults net_new ≡ nets.faults net))
      → nets.last_seed net_new ≡ nets.last_seed net → KeepsRest frame nets powers voters voters host host net net_new power power
  rest_round voters host net net_new power r sent gives faults err seed = rest_net voters host net net_new power (letters_round r sent gives faults err seed)

  -- letters were sent, and none was given
  pub rest_sends : (voters : List Voter) (host : H) (net net_new : N) (power : P) → SendsMore (nets.sent net) (nets.sent net_new)
      → Counts (nets.given net) (nets.faults net) (nets.last_seed net) (nets.given net_new) (nets.faults net_new) (nets.last_seed net_new)
      → KeepsRest frame nets powers voters voters host host net net_new power power
  rest_sends voters host net net_new power sends counts = rest_net voters host net net_new power
      (record { sends = sends; gives = gives_counts (nets.given net) (nets.faults net) (nets.last_seed net) (nets.given net_new) (nets.faults net_new) (nets.last_seed net_new) counts })

  -- the same nodes by other names
  pub rest_of : {a b c d : List Voter} {h i : H} {l m : N} {p q : P} → a ≡ b → d ≡ c → KeepsRest frame nets powers a c h i l m p q → KeepsRest frame nets powers b d h i l m p q
  rest_of {a} {b} {c} {d} {h} {i} {l} {m} {p} {q} old new rest =
      subst (λ (x : List Voter). KeepsRest frame nets powers b x h i l m p q) (sym new) (subst (λ (x : List Voter). KeepsRest frame nets powers x c h i l m p q) old rest)

  -- one of the nodes has taken its letters
  pub rest_one : (voters : List Voter) (at : ℕ) (voter now : Voter) {h i : H} (l m : N) {p q : P} → slice_get voters at ≡ Some voter → now.held ≡ voter.held
      → WritesLog frame voter.log now.log h i → AreFresh (nets.sent l) (nets.fresh l) (nets.sent m) (nets.fresh m)
      → IsLater powers p q → Counts (nets.given l) (nets.faults l) (nets.last_seed l) (nets.given m) (nets.faults m) (nets.last_seed m)
      → KeepsRest frame nets powers voters (set voters at now) h i l m p q
  rest_one voters at voter now {h} {i} l m {p} {q} there held log fresh later counts = record {
    places = places_set voters at voter now there (record { held = held; file = log.file; kind = log.kind });
    others = λ other away stands. log.others other (away at voter there) stands;
    read = become_wider (SameBut voter.log.file) (SameElsewhere voters) inside (frame.reads h) (frame.reads i) log.read;
    crash = follow_wider (SameBut voter.log.file) (SameElsewhere voters) inside (frame.may_leave h) (frame.may_leave i) log.crash;
    said = log.said;
    stream = log.stream;
    later = later;
    letters = letters_sent fresh counts;
  }
    where
      inside : (x y : Files) → SameBut voter.log.file x y → SameElsewhere voters x y
      inside = but_elsewhere voters voters (places_same voters) at voter there
