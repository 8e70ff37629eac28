-- What a round of any net gives.
use Rattle.std.specs.Prelude.{◌≡◌, ℕ, ◌≤◌, List, ◌++◌, All, Contains, IsPermutation}
use Rattle.coco_net.specs.declared.letter.Letter.{Letter}
use Rattle.coco_net.specs.declared.letter.Posted.{Posted}
use Rattle.coco_net.specs.Mail.{letters_to}

-- These letters are given: all of them were sent, each new one is among them unless the count of faults rose, and
-- at each place those to it wait, in some order.
pub record Gives (sent fresh : List Posted) (faults_old faults_new : ℕ) (waiting : ℕ → List Letter) (these : List Posted) : Type 0 where
  pub were_sent : All (Contains sent) these
  pub new_ones : faults_new ≡ faults_old → All (Contains these) fresh
  pub wait : (place : ℕ) → place ≤ 8 → IsPermutation (letters_to place these) (waiting place)

-- a round gives some letters more
abbrev pub GivesMore : List Posted → List Posted → ℕ → ℕ → (ℕ → List Letter) → List Posted → List Posted → Type 0
GivesMore sent fresh faults_old faults_new waiting old new = (these : List Posted) × (new ≡ old ++ these) × Gives sent fresh faults_old faults_new waiting these
