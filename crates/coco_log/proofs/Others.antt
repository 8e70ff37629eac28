-- What the calls on one file leave of the others.
use Rattle.std.proofs.Common.{◌≡◌, ℕ, List, Option, Some, None, refl, sym, ◌∙◌, ap, subst}
use Rattle.coco_host.specs.Files.{Files, put_into, TornIn, Become, Follows, NoMore}
use Rattle.coco_log.specs.LogState.{SameBut}
use Rattle.coco_log.proofs.Appends.{put_elsewhere}

module _ (file : ℕ) where
  -- what a crash may leave, from call to call
  pub left_first : (old : Files → Type 0) → Follows (SameBut file) old old
  left_first old c left = (c, left, λ n other. refl)

  pub left_write : (first old new : Files → Type 0) (at count : ℕ) → Follows (SameBut file) first old → Follows (TornIn file at count) old new → Follows (SameBut file) first new
  left_write first old new at count so_far step c left =
      let from = step c left in
      let was = so_far from.0 from.1 in
      (was.0, was.1, λ n other. from.2.elsewhere n other ∙ was.2 n other)

  pub left_sync : (first old new : Files → Type 0) → Follows (SameBut file) first old → NoMore old new → Follows (SameBut file) first new
  left_sync first old new so_far step c left = so_far c (step c left)

  -- what the files read as, from call to call
  pub told_first : (files : Option Files) → Become (SameBut file) files files
  told_first None = refl
  told_first (Some fs) = (fs, refl, λ n other. refl)

  told_goes : (goes : Files → Files → Type 0) → ((a b : Files) → goes a b → SameBut file a b) → (first old new : Option Files) → Become (SameBut file) first old → Become goes old new → Become (SameBut file) first new
  told_goes goes same None old new so_far step = subst (λ (o : Option Files). Become goes o new) so_far step
  told_goes goes same (Some fs) old new so_far step =
      let later : Become goes (Some so_far.0) new = subst (λ (o : Option Files). Become goes o new) so_far.1 step in
      (later.0, later.1, λ n other. same so_far.0 later.0 later.2 n other ∙ so_far.2 n other)

  pub told_write : (first old new : Option Files) (at : ℕ) (bytes : List ℕ) → Become (SameBut file) first old → Become (λ was is. is ≡ put_into file at bytes was) old new → Become (SameBut file) first new
  told_write first old new at bytes so_far step =
      told_goes (λ was is. is ≡ put_into file at bytes was) (λ a b e n other. ap (λ (fs : Files). fs n) e ∙ put_elsewhere file at bytes a n other) first old new so_far step

  pub told_torn : (first old new : Option Files) (at count : ℕ) → Become (SameBut file) first old → Become (TornIn file at count) old new → Become (SameBut file) first new
  told_torn first old new at count so_far step = told_goes (TornIn file at count) (λ a b torn. torn.elsewhere) first old new so_far step

  pub told_sync : (first old new : Option Files) → Become (SameBut file) first old → new ≡ old → Become (SameBut file) first new
  told_sync first old new so_far same = subst (λ (o : Option Files). Become (SameBut file) first o) (sym same) so_far

  pub told_then : (first old new : Option Files) → Become (SameBut file) first old → Become (SameBut file) old new → Become (SameBut file) first new
  told_then first old new so_far step = told_goes (SameBut file) (λ a b same. same) first old new so_far step
