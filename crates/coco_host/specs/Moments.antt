-- What is seen of a store at a moment: files that a crash may leave, and the bytes said.
use Rattle.std.specs.Prelude.{◌≡◌, ◌⊎◌, ℕ, ◌≤◌, List, ◌++◌, Option, Some, None}
use Rattle.coco_host.specs.Files.{Files}

-- files that a crash at some moment may leave, and the bytes said by that moment
pub record Observation : Type 0 where
  pub image : Files
  pub said : List ℕ

-- the first bytes begin the second
abbrev pub Begins : List ℕ → List ℕ → Type 0
Begins front whole = (rest : List ℕ) × (whole ≡ front ++ rest)

-- at least what was said before and at most what is said after
pub record IsSaidBetween (before after : Option (List ℕ)) (said : List ℕ) : Type 0 where
  pub from : List ℕ
  pub was : before ≡ Some from
  pub begun : Begins from said
  pub to : List ℕ
  pub is : after ≡ Some to
  pub ended : Begins said to

-- what is new in a call: one of these images, with what was said by then
pub record IsNew (may_leave : Files → Type 0) (before after : Option (List ℕ)) (seen : Observation) : Type 0 where
  pub image : may_leave seen.image
  pub said : IsSaidBetween before after seen.said

-- time goes on: what is seen since a moment is what was seen since it before, and what is new
pub record Elapses (before now : ℕ) (past since : ℕ → Observation → Type 0) (New : Observation → Type 0) : Type 0 where
  pub later : before ≤ now
  pub nothing_else : (t : ℕ) (seen : Observation) → t ≤ before → since t seen → past t seen ⊎ New seen
  pub keeps : (t : ℕ) (seen : Observation) → t ≤ before → past t seen → since t seen

-- all that is seen from one state of a host to a later one has P
pub record SeesOnly {H : Type 0} (moment : H → ℕ) (observed : H → ℕ → Observation → Type 0) (old new : H) (P : Observation → Type 0) : Type 0 where
  pub later : moment old ≤ moment new
  pub each : (seen : Observation) → observed new (moment old) seen → P seen
  -- for a run that began earlier
  pub before : (t : ℕ) (seen : Observation) → t ≤ moment old → observed new t seen → observed old t seen ⊎ P seen
  pub keeps : (t : ℕ) (seen : Observation) → t ≤ moment old → observed old t seen → observed new t seen

-- a host that tells no files has none that a crash may leave
abbrev pub IsUntold : Option Files → Type 0
IsUntold None = Unit {0}
IsUntold (Some files) = ⊥
