-- A host that is only read and synced, from call to call.
use Rattle.std.proofs.Common.{◌≡◌, inl, inr, ⊎_elim, ℕ, List, Option, Some, refl, sym, ◌∙◌, arith}
use Rattle.coco_host.specs.Files.{Files, NoMore}
use Rattle.coco_host.specs.Moments.{Observation, IsNew, Elapses, SeesOnly}
use Rattle.coco_host.proofs.Sees.{started, goes_on, said_still}
use Rattle.coco_host.specs.declared.host.Host.{Ghosts as HostGhosts}
use Rattle.coco_log.specs.LogState.{IsAsBefore, IsOnlyRead}

module _ {H : Type 0} (moment : H → ℕ) (observed : H → ℕ → Observation → Type 0) where
  -- one run behind another
  pub sees_then : (first mid new : H) (P Q : Observation → Type 0) → SeesOnly moment observed first mid P → SeesOnly moment observed mid new Q → ((seen : Observation) → Q seen → P seen) → SeesOnly moment observed first new P
  sees_then first mid new P Q one two here = record {
    later = omega (arith, one.later, two.later);
    each = λ seen since. ⊎_elim (one.each seen) (here seen) (two.before (moment first) seen one.later since);
    before = λ t seen le since. ⊎_elim (one.before t seen le) (λ new_one. inr (here seen new_one)) (two.before t seen (omega (arith, le, one.later)) since);
    keeps = λ t seen le since. two.keeps t seen (omega (arith, le, one.later)) (one.keeps t seen le since);
  }

  -- what is seen so is seen so in fewer words
  pub sees_weaker : (old new : H) (P Q : Observation → Type 0) → ((seen : Observation) → P seen → Q seen) → SeesOnly moment observed old new P → SeesOnly moment observed old new Q
  sees_weaker old new P Q f sees = record {
    later = sees.later;
    each = λ seen since. f seen (sees.each seen since);
    before = λ t seen le since. ⊎_elim (λ was. inl was) (λ new_one. inr (f seen new_one)) (sees.before t seen le since);
    keeps = sees.keeps;
  }

module _ {H : Type 0} (frame : HostGhosts H)
    (only_now : (host : H) (seen : Observation) → frame.observed host (frame.moment host) seen → frame.may_leave host seen.image × (frame.said host ≡ Some seen.said)) where
  -- before the first call
  pub read_first : (host : H) → IsOnlyRead frame host host
  read_first host = record {
    same = refl;
    quiet = refl;
    crash = λ c left. left;
    moments = started frame.moment frame.observed host (IsAsBefore (frame.may_leave host) (frame.said host)) (λ seen since. let now = only_now host seen since in record { image = now.0; said = now.1 });
    stream = refl;
  }

  -- one read or sync more
  pub read_on : (first mid new : H) → IsOnlyRead frame first mid → frame.reads new ≡ frame.reads mid → frame.said new ≡ frame.said mid → NoMore (frame.may_leave mid) (frame.may_leave new)
      → Elapses (frame.moment mid) (frame.moment new) (frame.observed mid) (frame.observed new) (IsNew (frame.may_leave new) (frame.said mid) (frame.said new))
      → frame.say_faults new ≡ frame.say_faults mid → IsOnlyRead frame first new
  read_on first mid new so_far same still crash time stream = record {
    same = same ∙ so_far.same;
    quiet = still ∙ so_far.quiet;
    crash = λ c left. so_far.crash c (crash c left);
    moments = goes_on frame.moment frame.observed first mid new (IsAsBefore (frame.may_leave first) (frame.said first)) (IsNew (frame.may_leave new) (frame.said mid) (frame.said new)) so_far.moments time
        (λ seen is_new. record {
          image = so_far.crash seen.image (crash seen.image is_new.image);
          said = sym (still ∙ so_far.quiet) ∙ said_still (frame.said mid) (frame.said new) seen.said still is_new.said;
        });
    stream = stream ∙ so_far.stream;
  }

  -- a run of such calls more
  pub read_then : (first mid new : H) → IsOnlyRead frame first mid → IsOnlyRead frame mid new → IsOnlyRead frame first new
  read_then first mid new one two = record {
    same = two.same ∙ one.same;
    quiet = two.quiet ∙ one.quiet;
    crash = λ c left. one.crash c (two.crash c left);
    moments = sees_then frame.moment frame.observed first mid new (IsAsBefore (frame.may_leave first) (frame.said first)) (IsAsBefore (frame.may_leave mid) (frame.said mid)) one.moments two.moments
        (λ seen before. record { image = one.crash seen.image before.image; said = sym one.quiet ∙ before.said });
    stream = two.stream ∙ one.stream;
  }
