-- Moments one after another.
use Rattle.std.proofs.Common.{◌≡◌, inl, inr, ⊎_elim, ℕ, zero, suc, ◌+◌, ◌<◌, ◌≤◌, Bool, true, false, List, [], ◌++◌, append-nil, sym, ◌∙◌, arith}
use Rattle.coco_letters.specs.Around.{Around, IsLater, spare}
use Rattle.coco_letters.specs.GivingUp.{since, AreGivenUp, Awaits, IsGivenUp}
use Rattle.coco_net.specs.declared.letter.Posted.{Posted}
use Rattle.coco_vote.specs.Counting.{GivesOn}
use Rattle.coco_cluster.specs.Trying.{GivenUpIfNot, GivesUp, IsGivenUpIf}
use Rattle.coco_cluster.specs.declared.trying.Tried.{Tried}
use Rattle.coco_cluster.specs.declared.trying.Tried.TheVariants.{Voted, GivenUp}
pub use Rattle.coco_letters.proofs.AroundLemmas.{all_later, all_spare, later_same, later_then, one_later, one_spares, spare_then}

-- where the net wasn't touched
pub later_still : (a b : Around) → b.sent ≡ a.sent → b.given ≡ a.given → b.faults ≡ a.faults → b.seed ≡ a.seed → a.early ≤ b.early → IsLater a b
later_still a b sent given faults seed early = record {
  sent = ([], sent ∙ sym (append-nil a.sent));
  given = ([], given ∙ sym (append-nil a.given));
  faults = omega (arith, faults);
  early = early;
  seed = seed;
}

-- where it was used
pub later_used : (a b : Around) → (more : List Posted) × (b.sent ≡ a.sent ++ more) → GivesOn a.given a.faults a.seed b.given b.faults b.seed → a.early ≤ b.early → IsLater a b
later_used a b sent gives early = record {
  sent = sent;
  given = (gives.more, gives.gives);
  faults = gives.faults_rise;
  early = early;
  seed = gives.seed_stays;
}

-- ---- an attempt that was given up, in a longer time

pub given_until : (a b c : Around) → IsGivenUp a b → IsLater b c → IsGivenUp a c
given_until a b c given later = ⊎_elim
    (λ stopped. inl (later_then a b c stopped.0 later, (let rose = stopped.1 in let on = later.early in omega (arith, rose, on))))
    (λ silent. inr (silent.0, silent.1, silent.2, silent.3, later_then silent.0 b c silent.4 later)) given

pub all_until : (n : ℕ) (a b c : Around) → AreGivenUp n a b → IsLater b c → AreGivenUp n a c
all_until zero a b c given later = later_then a b c given later
all_until (suc n) a b c given later = (given.0, given.1, given_until given.0 b c given.2 later)

-- one attempt more
pub one_more : (n : ℕ) (a b c : Around) → AreGivenUp n a b → GivesUp b c → AreGivenUp (suc n) a c
one_more n a b c given more = (more.from, all_until n a b more.from given more.later, more.given_up)

pub gives_later : (a b : Around) → GivesUp a b → IsLater a b
gives_later a b gives = later_then a gives.from b gives.later (one_later gives.from b gives.given_up)

pub gives_spare : (a b : Around) → GivesUp a b → 16 ≤ spare a b
gives_spare a b gives =
    let one = one_spares gives.from b gives.given_up in
    let adds = spare_then a gives.from b gives.later (one_later gives.from b gives.given_up) in
    omega (arith, one, adds)

-- from an earlier moment on
pub gives_from : (a b c : Around) → IsLater a b → GivesUp b c → GivesUp a c
gives_from a b c later gives = record { from = gives.from; later = later_then a b gives.from later gives.later; given_up = gives.given_up }

-- since a node stopped, or since letters were lost
pub gives_stopped : (a b : Around) → IsLater a b → a.early < b.early → GivesUp a b
gives_stopped a b later rose = record { from = a; later = later_same a; given_up = inl (later, rose) }

pub gives_silent : (a b : Around) → IsLater a b → a.faults + 16 ≤ b.faults → Awaits (since a.sent b.sent) (since a.given b.given) → GivesUp a b
gives_silent a b later lost awaits = record { from = a; later = later_same a; given_up = inr (b, later, lost, awaits, later_same b) }

pub cause_from : (a b c : Around) → IsLater a b → (all : Bool) → GivenUpIfNot all b c → GivenUpIfNot all a c
cause_from a b c later true cause = tt
cause_from a b c later false cause = gives_from a b c later cause

pub tried_from : (a b c : Around) → IsLater a b → (tried : Tried) → IsGivenUpIf tried b c → IsGivenUpIf tried a c
tried_from a b c later (Voted dones trace) cause = tt
tried_from a b c later (GivenUp again) cause = gives_from a b c later cause
