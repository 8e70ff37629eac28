-- Which files change while nodes vote: those of their logs alone.
use Rattle.std.proofs.Common.{◌≡◌, ℕ, List, Option, Some, None, refl, subst, ◌∙◌}
use Rattle.std.specs.List.{slice_get}
use Rattle.coco_host.specs.Files.{Become, Files, Follows}
use Rattle.coco_letters.specs.declared.voter.Voter.{Voter}
use Rattle.coco_log.specs.LogState.{SameBut}
use Rattle.coco_vote.specs.Taking.{KeepPlaces, SameElsewhere}

-- ---- steps of one kind

module _ (Same : Files → Files → Type 0) (stays : (a : Files) → Same a a) where
  pub become_none : (a : Option Files) → Become Same a a
  become_none None = refl
  become_none (Some files) = (files, refl, stays files)

  pub follow_none : (left : Files → Type 0) → Follows Same left left
  follow_none left image is = (image, is, stays image)

module _ (Same : Files → Files → Type 0) (both : (a b c : Files) → Same a b → Same b c → Same a c) where
  pub become_then : (a b c : Option Files) → Become Same a b → Become Same b c → Become Same a c
  become_then None b c one two = subst (λ (o : Option Files). Become Same o c) one two
  become_then (Some first) b c one two =
      let later : Become Same (Some one.0) c = subst (λ (o : Option Files). Become Same o c) one.1 two in
      (later.0, later.1, both first one.0 later.0 one.2 later.2)

  pub follow_then : (a b c : Files → Type 0) → Follows Same a b → Follows Same b c → Follows Same a c
  follow_then a b c one two image is =
      let later = two image is in
      let first = one later.0 later.1 in
      (first.0, first.1, both first.0 later.0 image first.2 later.2)

module _ (Same Wider : Files → Files → Type 0) (wider : (a b : Files) → Same a b → Wider a b) where
  pub become_wider : (a b : Option Files) → Become Same a b → Become Wider a b
  become_wider None b one = one
  become_wider (Some first) b one = (one.0, one.1, wider first one.0 one.2)

  pub follow_wider : (a b : Files → Type 0) → Follows Same a b → Follows Wider a b
  follow_wider a b one image is = let first = one image is in (first.0, first.1, wider first.0 image first.2)

-- ---- all files but one, and all but those of the nodes' logs

pub but_same : (file : ℕ) (a : Files) → SameBut file a a
but_same file a n other = refl

pub but_both : (file : ℕ) (a b c : Files) → SameBut file a b → SameBut file b c → SameBut file a c
but_both file a b c one two n other = two n other ∙ one n other

pub elsewhere_same : (voters : List Voter) (a : Files) → SameElsewhere voters a a
elsewhere_same voters a file away = refl

pub elsewhere_both : (voters : List Voter) (a b c : Files) → SameElsewhere voters a b → SameElsewhere voters b c → SameElsewhere voters a c
elsewhere_both voters a b c one two file away = two file away ∙ one file away

-- nodes whose logs lie where they lay
module _ (voters now : List Voter) (places : KeepPlaces voters now) where
  pub elsewhere_first : (a b : Files) → SameElsewhere now a b → SameElsewhere voters a b
  elsewhere_first a b same file away = same file (λ n voter at is. let was = places n voter at in away n was.0 was.1 (is ∙ was.2.file))

  pub but_elsewhere : (n : ℕ) (voter : Voter) → slice_get now n ≡ Some voter → (a b : Files) → SameBut voter.log.file a b → SameElsewhere voters a b
  but_elsewhere n voter at a b same file away = same file (λ is. let was = places n voter at in away n was.0 was.1 (is ∙ was.2.file))
