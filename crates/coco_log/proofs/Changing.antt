-- Files of which some change, from call to call.
use Rattle.std.proofs.Common.{◌≡◌, ◌≢◌, inl, inr, ⊎_elim, ℕ, ◌==◌, Bool, true, false, List, Option, Some, None, refl, sym, subst, ◌∙◌}
use Rattle.std.specs.List.{list_any}
use Rattle.coco_host.specs.Files.{Files, Become, Follows}
use Rattle.coco_host.specs.Moments.{Observation, SeesOnly}
use Rattle.coco_host.proofs.Sees.{started}
use Rattle.coco_host.specs.declared.host.Host.{Ghosts as HostGhosts}
use Rattle.coco_log.specs.Changes.{ChangesNamed, ChangesOnly, SameBesides}
use Rattle.coco_log.specs.LogState.{SameBut}
use Rattle.coco_log.specs.Making.{MakesLog}
use Rattle.coco_log.proofs.Appends.{told_on}
use Rattle.coco_log.proofs.OnlyRead.{sees_then, sees_weaker}

abbrev is_named : List ℕ → ℕ → Bool
is_named named file = list_any (λ n. n == file) named

-- what is named isn't what isn't
pub apart : (xs : List ℕ) (f g : ℕ) → is_named xs f ≡ true → is_named xs g ≡ false → f ≢ g
apart xs f g is lacks e = let h : true ≡ false = sym (subst (λ (k : ℕ). is_named xs k ≡ true) e is) ∙ lacks in cc

-- ---- files that change

become_then : (named : List ℕ) (a b c : Option Files) → Become (SameBesides named) a b → Become (SameBesides named) b c → Become (SameBesides named) a c
become_then named None b c one two = subst (λ (o : Option Files). Become (SameBesides named) o c) one two
become_then named (Some files) b c one two =
    let later : Become (SameBesides named) (Some one.0) c = subst (λ (o : Option Files). Become (SameBesides named) o c) one.1 two in
    (later.0, later.1, λ n out. later.2 n out ∙ one.2 n out)

pub become_wider : (goes : Files → Files → Type 0) (named : List ℕ) (a b : Option Files) → ((old new : Files) → goes old new → SameBesides named old new) → Become goes a b → Become (SameBesides named) a b
become_wider goes named None b wider become = become
become_wider goes named (Some files) b wider become = (become.0, become.1, wider files become.0 become.2)

become_same : (named : List ℕ) (a : Option Files) → Become (SameBesides named) a a
become_same named None = refl
become_same named (Some files) = (files, refl, λ n out. refl)

-- a file that is named
pub besides_one : (named : List ℕ) (file : ℕ) → is_named named file ≡ true → (old new : Files) → SameBut file old new → SameBesides named old new
besides_one named file is old new same n out = same n (λ e. apart named file n is out (sym e))

module _ {H : Type 0} (frame : HostGhosts H) where
  abbrev pub Changes : List ℕ → H → H → Type 0
  Changes named old new = ChangesOnly frame named old new

  -- where more files may change
  pub changes_wider : (some named : List ℕ) (old new : H) → ((n : ℕ) → is_named named n ≡ false → is_named some n ≡ false) → Changes some old new → Changes named old new
  changes_wider some named old new wider changes = record {
    moments = λ files told. sees_weaker frame.moment frame.observed old new (ChangesNamed some (frame.may_leave old) (frame.said old)) (ChangesNamed named (frame.may_leave old) (frame.said old))
        (λ seen shows. record { before = shows.before; was_left = shows.was_left; others = λ n out. shows.others n (wider n out); said = shows.said }) (changes.moments files told);
    files = become_wider (SameBesides some) named (frame.reads old) (frame.reads new) (λ a b same n out. same n (wider n out)) changes.files;
    crash = λ c left. let from = changes.crash c left in (from.0, from.1, λ n out. from.2 n (wider n out));
    quiet = changes.quiet;
  }

  -- a call more
  pub changes_on : (named : List ℕ) (first mid new : H) → Changes named first mid
      → ((files : Files) → frame.reads first ≡ Some files → SeesOnly frame.moment frame.observed mid new (ChangesNamed named (frame.may_leave mid) (frame.said mid)))
      → Become (SameBesides named) (frame.reads mid) (frame.reads new) → Follows (SameBesides named) (frame.may_leave mid) (frame.may_leave new) → frame.said new ≡ frame.said mid → Changes named first new
  changes_on named first mid new one moments files crash quiet = record {
    moments = λ fs told. sees_then frame.moment frame.observed first mid new (ChangesNamed named (frame.may_leave first) (frame.said first)) (ChangesNamed named (frame.may_leave mid) (frame.said mid)) (one.moments fs told) (moments fs told)
        (λ seen shows.
        let from = one.crash shows.before shows.was_left in
        record { before = from.0; was_left = from.1; others = λ n out. shows.others n out ∙ from.2 n out; said = sym one.quiet ∙ shows.said });
    files = become_then named (frame.reads first) (frame.reads mid) (frame.reads new) one.files files;
    crash = λ c left.
        let later = crash c left in
        let from = one.crash later.0 later.1 in
        (from.0, from.1, λ n out. later.2 n out ∙ from.2 n out);
    quiet = quiet ∙ one.quiet;
  }

  pub changes_then : (named : List ℕ) (first mid new : H) → Changes named first mid → Changes named mid new → Changes named first new
  changes_then named first mid new one two = changes_on named first mid new one
      (λ files told. let later = told_on (SameBesides named) (frame.reads first) (frame.reads mid) files told one.files in two.moments later.0 later.1)
      two.files two.crash two.quiet

  pub changes_none : ((host : H) (seen : Observation) → frame.observed host (frame.moment host) seen → frame.may_leave host seen.image × (frame.said host ≡ Some seen.said)) → (named : List ℕ) (host : H) → Changes named host host
  changes_none only_now named host = record {
    moments = λ files told. started frame.moment frame.observed host (ChangesNamed named (frame.may_leave host) (frame.said host)) (λ seen since. let now = only_now host seen since in
        record { before = seen.image; was_left = now.0; others = λ n out. refl; said = now.1 });
    files = become_same named (frame.reads host);
    crash = λ c left. (c, left, λ n out. refl);
    quiet = refl;
  }

  -- a log was made in one of the files
  pub changes_made : (named : List ℕ) (file : ℕ) (old new : H) → is_named named file ≡ true → SeesOnly frame.moment frame.observed old new (MakesLog file (frame.may_leave old) (frame.said old))
      → Become (SameBut file) (frame.reads old) (frame.reads new) → Follows (SameBut file) (frame.may_leave old) (frame.may_leave new) → frame.said new ≡ frame.said old → Changes named old new
  changes_made named file old new is moments files crash quiet = record {
    moments = λ fs told. sees_weaker frame.moment frame.observed old new (MakesLog file (frame.may_leave old) (frame.said old)) (ChangesNamed named (frame.may_leave old) (frame.said old))
        (λ seen shows. record { before = shows.before; was_left = shows.was_left; others = besides_one named file is shows.before seen.image shows.torn.elsewhere; said = shows.said }) moments;
    files = become_wider (SameBut file) named (frame.reads old) (frame.reads new) (besides_one named file is) files;
    crash = λ c left. let from = crash c left in (from.0, from.1, besides_one named file is from.0 c from.2);
    quiet = quiet;
  }
