-- A log that stays while files change that are named, and changes of files one behind another.
use Rattle.std.proofs.Common.{◌≡◌, ℕ, true, false, List, Option, Some, None, IfSome, refl, sym, subst, ◌∙◌}
use Rattle.coco_host.specs.Files.{Files, Become, Follows}
use Rattle.coco_entry.specs.Layouts.{is_named}
use Rattle.coco_log.specs.Changes.{SameBesides}
use Rattle.coco_log.specs.LogState.{Holds, LogState, SameBut}
use Rattle.coco_log.proofs.Changing.{become_wider, besides_one}
use Rattle.coco_append.specs.Gaining.{Stands}

module _ (named : List ℕ) (left leaves : Files → Type 0) (follows : Follows (SameBesides named) left leaves) where
  pub stands_besides : (log : LogState) (before after : Option Files) → is_named named log.file ≡ false → Become (SameBesides named) before after → Stands log before left → Stands log after leaves
  stands_besides log None after free become stands = subst (λ (o : Option Files). Stands log o leaves) (sym become) tt
  stands_besides log (Some files) after free become stands =
      subst (λ (o : Option Files). Stands log o leaves) (sym become.1) (record {
        bodies = stands.bodies;
        rest = record {
          holds = subst (λ (l : List ℕ). Holds log stands.bodies l) (sym (become.2 log.file free)) stands.rest.holds;
          durable = λ image left_so. let from = follows image left_so in from.2 log.file free ∙ stands.rest.durable from.0 from.1 ∙ sym (become.2 log.file free);
        };
      })

-- ---- one step behind another

-- what is told of files holds of those that are told
pub told : (reads : Option Files) (files : Files) (P : Files → Type 0) → reads ≡ Some files → IfSome reads P → P files
told reads files P are h = subst (λ (o : Option Files). IfSome o P) are h

pub become_still : (named : List ℕ) (a : Option Files) → Become (SameBesides named) a a
become_still named None = refl
become_still named (Some files) = (files, refl, λ n out. refl)

pub become_then : (named : List ℕ) (a b c : Option Files) → Become (SameBesides named) a b → Become (SameBesides named) b c → Become (SameBesides named) a c
become_then named None b c one two = subst (λ (o : Option Files). Become (SameBesides named) o c) one two
become_then named (Some files) b c one two =
    let later : Become (SameBesides named) (Some one.0) c = subst (λ (o : Option Files). Become (SameBesides named) o c) one.1 two in
    (later.0, later.1, λ n out. later.2 n out ∙ one.2 n out)

module _ (some named : List ℕ) (wider : (n : ℕ) → is_named named n ≡ false → is_named some n ≡ false) where
  pub become_more : (a b : Option Files) → Become (SameBesides some) a b → Become (SameBesides named) a b
  become_more a b become = become_wider (SameBesides some) named a b (λ old new same n out. same n (wider n out)) become

  pub follows_more : (left leaves : Files → Type 0) → Follows (SameBesides some) left leaves → Follows (SameBesides named) left leaves
  follows_more left leaves follows image left_so = let from = follows image left_so in (from.0, from.1, λ n out. from.2 n (wider n out))

pub follows_then : (named : List ℕ) (left mid leaves : Files → Type 0) → Follows (SameBesides named) left mid → Follows (SameBesides named) mid leaves → Follows (SameBesides named) left leaves
follows_then named left mid leaves one two image left_so =
    let later = two image left_so in
    let from = one later.0 later.1 in
    (from.0, from.1, λ n out. later.2 n out ∙ from.2 n out)

-- one file that is named
module _ (file : ℕ) (named : List ℕ) (is : is_named named file ≡ true) where
  pub become_one : (a b : Option Files) → Become (SameBut file) a b → Become (SameBesides named) a b
  become_one a b become = become_wider (SameBut file) named a b (besides_one named file is) become

  pub follows_one : (left leaves : Files → Type 0) → Follows (SameBut file) left leaves → Follows (SameBesides named) left leaves
  follows_one left leaves follows image left_so = let from = follows image left_so in (from.0, from.1, besides_one named file is from.0 image from.2)
