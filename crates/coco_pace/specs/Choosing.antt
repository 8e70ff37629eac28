-- Who runs an epoch, one worker or all, by how long the epochs of late took.
use Rattle.std.specs.Prelude.{ℕ, ◌+◌, ◌*◌, ◌-◌, ◌/◌, ◌^◌, max, min, Bool, false, not, nat_eq, nat_le, if◌then◌else◌, Option, None, Some}
use Rattle.coco_pace.specs.declared.Pace.{Pace}
use Rattle.coco_pace.specs.declared.TheConstants.{TIMES}

abbrev pub nothing_known : Pace
nothing_known = record { alone = None; together = None; since_trial = 0 }

-- ---- who is started

-- whether one worker alone took no longer than all did
abbrev pub is_faster : Option ℕ → Option ℕ → Bool
is_faster None together = false
is_faster (Some alone) None = false
is_faster (Some alone) (Some together) = nat_le alone together

abbrev pub one_is_usual : Pace → Bool
one_is_usual p = is_faster p.alone p.together

-- what is expected of one worker alone: what it took, or what all take until that is known
abbrev pub expected : Option ℕ → ℕ → ℕ
expected None together = together
expected (Some alone) together = alone

-- whether so many times as long has passed as a trial of those who aren't usual is expected to take
abbrev pub is_due : Pace → ℕ → ℕ → Bool
is_due p together requests = nat_le ((if one_is_usual p then together else expected p.alone together) * requests * TIMES) p.since_trial

-- whether one of the two holds and the other doesn't
abbrev pub either : Bool → Bool → Bool
either a b = if a then not b else b

abbrev pub chosen : Pace → Option ℕ → ℕ → ℕ → ℕ
chosen p None most requests = most
chosen p (Some together) most requests = if either (is_due p together requests) (one_is_usual p) then 1 else most

-- how many of at most so many workers an epoch of so many requests starts
abbrev pub workers_of : Pace → ℕ → ℕ → ℕ
workers_of p most requests = chosen p p.together most requests

-- ---- what an epoch tells

-- nanoseconds a request, from 1 to the greatest number of 32 bits
abbrev pub time_each : ℕ → ℕ → ℕ
time_each requests nanos = min (max (nanos / max requests 1) 1) (2 ^ 32 - 1)

-- half way from what was known to what is told, and up by a half at most
abbrev pub moved : Option ℕ → ℕ → ℕ
moved None each = each
moved (Some before) each = (before + min each (2 * before)) / 2

-- behind an epoch of so many requests that took so long by so many workers
abbrev pub after_epoch : ℕ → ℕ → ℕ → Pace → Pace
after_epoch workers requests nanos p =
    let one = nat_eq workers 1 in
    let each = time_each requests nanos in
    record {
      alone = if one then Some (moved p.alone each) else p.alone;
      together = if one then p.together else Some (moved p.together each);
      since_trial = if either one (one_is_usual p) then 0 else min (p.since_trial + nanos) (2 ^ 64 - 1);
    }
