-- What a quiet net keeps of its letters.
use Rattle.std.specs.Prelude.{◌≡◌, ◌≤◌, ◌⊎◌, ℕ, List, [], length, drop}
use Rattle.coco_net.specs.declared.letter.Letter.{Letter}
use Rattle.coco_net.specs.declared.letter.Posted.{Posted}
use Rattle.coco_net.specs.Mail.{boxed, IsFew}

-- the boxes have these letters, where there are boxes yet
abbrev pub AreComing : List Posted → List (List Letter) → Type 0
AreComing these coming = (coming ≡ boxed [] these) ⊎ ((coming ≡ []) × (these ≡ []))

-- Every letter sent since the last round comes.
pub record IsPassing (sent : List Posted) (sent_count since : ℕ) (coming waiting : List (List Letter)) : Type 0 where
  pub counted : sent_count ≡ length sent
  pub passed : since ≤ length sent
  pub comes : AreComing (drop since sent) coming
  pub few_coming : IsFew coming
  pub few : IsFew waiting
