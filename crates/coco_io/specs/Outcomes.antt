-- What the calls of a stream come to, and which calls stand behind an answer.
use Rattle.std.specs.Prelude.{◌≡◌, ◌≢◌, ℕ, ◌<◌, ◌⊎◌, List, [], ◌∷◌, ◌++◌, replicate, Option, Some, None, Result, Ok, Err}
use Rattle.std.specs.IoError.{error_kind}
use Rattle.std.specs.declared.io.Error.{Error}
use Rattle.std.specs.declared.io.ErrorKind.TheVariants as kind
use Rattle.coco_io.specs.declared.calls.Outcome.{Outcome}
use Rattle.coco_io.specs.declared.calls.Outcome.TheVariants.{Passed, Interrupted, Failed}
use Rattle.coco_io.specs.declared.stream.TheConstants.{TRIES}

-- what a call with this answer comes to
abbrev pub IsOutcome : Result ℕ Error → Outcome → Type 0
IsOutcome (Ok k) outcome = outcome ≡ Passed
IsOutcome (Err e) outcome = ((error_kind e ≡ kind.Interrupted) × (outcome ≡ Interrupted)) ⊎ ((error_kind e ≢ kind.Interrupted) × (outcome ≡ Failed))

-- one call more than those that a signal cut short, fewer than there are tries, and it came to this
abbrev pub EndsIn : Outcome → List Outcome → List Outcome → Type 0
EndsIn outcome old new = (n : ℕ) × (n < TRIES) × (new ≡ old ++ (replicate n Interrupted ++ outcome ∷ []))

-- a call that a signal cut short is made again, so many times in all at most: the calls behind so many bytes, and behind a fault
abbrev pub Tried : Option ℕ → List Outcome → List Outcome → Type 0
Tried (Some k) old new = EndsIn Passed old new
Tried None old new = EndsIn Failed old new ⊎ (new ≡ old ++ replicate TRIES Interrupted)
