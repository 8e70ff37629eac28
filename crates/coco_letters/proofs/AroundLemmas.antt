-- Moments one after another, and the numbers that may be skipped between them.
use Rattle.std.proofs.Common.{◌≡◌, ⊎_elim, ℕ, zero, suc, ◌+◌, ◌*◌, ◌<◌, ◌≤◌, List, [], ◌++◌, refl, sym, ap, ◌∙◌, arith, append-nil, append_assoc}
use Rattle.coco_net.specs.declared.letter.Posted.{Posted}
use Rattle.coco_letters.specs.Around.{Around, IsLater, spare}
use Rattle.coco_letters.specs.GivingUp.{AreGivenUp, IsGivenUp}

-- where neither net nor power was touched
pub later_same : (a : Around) → IsLater a a
later_same a = record { sent = ([], sym (append-nil a.sent)); given = ([], sym (append-nil a.given)); faults = omega arith; early = omega arith; seed = refl }

more_then : (xs ys zs : List Posted) → (more : List Posted) × (ys ≡ xs ++ more) → (more : List Posted) × (zs ≡ ys ++ more) → (more : List Posted) × (zs ≡ xs ++ more)
more_then xs ys zs first second = (first.0 ++ second.0, second.1 ∙ ap (λ l. l ++ second.0) first.1 ∙ append_assoc xs first.0 second.0)

pub later_then : (a b c : Around) → IsLater a b → IsLater b c → IsLater a c
later_then a b c first second = record {
  sent = more_then a.sent b.sent c.sent first.sent second.sent;
  given = more_then a.given b.given c.given first.given second.given;
  faults = (let f = first.faults in let s = second.faults in omega (arith, f, s));
  early = (let f = first.early in let s = second.early in omega (arith, f, s));
  seed = second.seed ∙ first.seed;
}

-- what may be skipped adds up
pub spare_then : (a b c : Around) → IsLater a b → IsLater b c → spare a c ≡ spare a b + spare b c
spare_then a b c first second =
    let f = first.faults in
    let s = second.faults in
    let e = first.early in
    let t = second.early in
    omega (arith, f, s, e, t)

-- ---- attempts that were given up

pub one_later : (a b : Around) → IsGivenUp a b → IsLater a b
one_later a b given = ⊎_elim (λ stopped. stopped.0) (λ silent. later_then a silent.0 b silent.1 silent.4) given

-- an attempt that was given up leaves a number to be skipped
pub one_spares : (a b : Around) → IsGivenUp a b → 16 ≤ spare a b
one_spares a b given = ⊎_elim
    (λ stopped. let rose = stopped.1 in omega (arith, rose))
    (λ silent. let rose = silent.2 in let on = silent.4.faults in omega (arith, rose, on)) given

pub all_later : (n : ℕ) (a b : Around) → AreGivenUp n a b → IsLater a b
all_later zero a b given = given
all_later (suc n) a b given = later_then a given.0 b (all_later n a given.0 given.1) (one_later given.0 b given.2)

pub all_spare : (n : ℕ) (a b : Around) → AreGivenUp n a b → 16 * n ≤ spare a b
all_spare zero a b given = omega arith
all_spare (suc n) a b given =
    let before = all_spare n a given.0 given.1 in
    let last = one_spares given.0 b given.2 in
    let adds = spare_then a given.0 b (all_later n a given.0 given.1) (one_later given.0 b given.2) in
    omega (arith, before, last, adds)
