-- What is seen of a host while a piece is said, part by part.
use Rattle.std.proofs.Common.{◌≡◌, inl, inr, ⊎_elim, ℕ, List, [], ◌++◌, Option, Some, None, refl, sym, ap, ◌∙◌, append_assoc}
use Rattle.std.proofs.lemmas.List.{append-nil}
use Rattle.std.specs.Io.KnownBytes.{append_known}
use Rattle.coco_io.proofs.KnownLemmas.{append_known-nil}
use Rattle.coco_host.specs.Files.{Files, NoMore}
use Rattle.coco_host.specs.Moments.{Observation, IsSaidBetween, IsNew, Elapses, SeesOnly}
use Rattle.coco_host.specs.Record.{known}
use Rattle.coco_host.proofs.Sees.{started, goes_on}
use Rattle.coco_host.specs.declared.host.Host.{Ghosts as HostGhosts}

-- what lies between two moments lies between them where the later one is later still
said_later : (before mid after : Option (List ℕ)) (more said : List ℕ) → after ≡ append_known mid more → IsSaidBetween before mid said → IsSaidBetween before after said
said_later before mid after more said grown h = record {
  from = h.from;
  was = h.was;
  begun = h.begun;
  to = h.to ++ more;
  is = grown ∙ ap (λ (o : Option (List ℕ)). append_known o more) h.is;
  ended = (h.ended.0 ++ more, ap (λ (l : List ℕ). l ++ more) h.ended.1 ∙ append_assoc said h.ended.0 more);
}

-- and where the earlier one is earlier still
said_sooner : (before mid after : Option (List ℕ)) (more said : List ℕ) → mid ≡ append_known before more → IsSaidBetween mid after said → IsSaidBetween before after said
said_sooner None mid after more said grown h = let no : None ≡ Some h.from = sym grown ∙ h.was in absurd (cc)
said_sooner (Some from) mid after more said grown h = record {
  from = from;
  was = refl;
  begun = (more ++ h.begun.0, h.begun.1 ∙ ap (λ (l : List ℕ). l ++ h.begun.0) front ∙ append_assoc from more h.begun.0);
  to = h.to;
  is = h.is;
  ended = h.ended;
}
  where
    front : h.from ≡ from ++ more
    front = ap (known []) (sym h.was ∙ grown)

module _ {H : Type 0} (frame : HostGhosts H) where
  -- from one state to a later one: images of the first, with bytes said between what was said in both
  abbrev pub SeesSaid : H → H → Type 0
  SeesSaid old new = SeesOnly frame.moment frame.observed old new (IsNew (frame.may_leave old) (frame.said old) (frame.said new))

  -- before the first part
  pub none_said : (host : H) → ((seen : Observation) → frame.observed host (frame.moment host) seen → frame.may_leave host seen.image × (frame.said host ≡ Some seen.said)) → SeesSaid host host
  none_said host now = started frame.moment frame.observed host (IsNew (frame.may_leave host) (frame.said host) (frame.said host)) (λ seen since. record {
    image = (now seen since).0;
    said = record {
      from = seen.said;
      was = (now seen since).1;
      begun = ([], sym (append-nil seen.said));
      to = seen.said;
      is = (now seen since).1;
      ended = ([], sym (append-nil seen.said));
    };
  })

  -- one part more
  pub more_said : (old mid new : H) (front part : List ℕ) → SeesSaid old mid → frame.said mid ≡ append_known (frame.said old) front → frame.said new ≡ append_known (frame.said mid) part
      → NoMore (frame.may_leave old) (frame.may_leave mid) → NoMore (frame.may_leave mid) (frame.may_leave new)
      → Elapses (frame.moment mid) (frame.moment new) (frame.observed mid) (frame.observed new) (IsNew (frame.may_leave new) (frame.said mid) (frame.said new)) → SeesSaid old new
  more_said old mid new front part so_far was is fewer fewest time =
      goes_on frame.moment frame.observed old mid new (IsNew (frame.may_leave old) (frame.said old) (frame.said new)) (IsNew (frame.may_leave new) (frame.said mid) (frame.said new)) (record {
        later = so_far.later;
        each = λ seen since. wider seen (so_far.each seen since);
        before = λ t seen le since. ⊎_elim inl (λ new_one. inr (wider seen new_one)) (so_far.before t seen le since);
        keeps = so_far.keeps;
      }) time (λ seen h. record {
        image = fewer seen.image (fewest seen.image h.image);
        said = said_sooner (frame.said old) (frame.said mid) (frame.said new) front seen.said was h.said;
      })
    where
      wider : (seen : Observation) → IsNew (frame.may_leave old) (frame.said old) (frame.said mid) seen → IsNew (frame.may_leave old) (frame.said old) (frame.said new) seen
      wider seen h = record { image = h.image; said = said_later (frame.said old) (frame.said mid) (frame.said new) part seen.said is h.said }

  -- a call that said nothing
  pub no_more_said : (old mid new : H) (front : List ℕ) → SeesSaid old mid → frame.said mid ≡ append_known (frame.said old) front → frame.said new ≡ frame.said mid
      → NoMore (frame.may_leave old) (frame.may_leave mid) → NoMore (frame.may_leave mid) (frame.may_leave new)
      → Elapses (frame.moment mid) (frame.moment new) (frame.observed mid) (frame.observed new) (IsNew (frame.may_leave new) (frame.said mid) (frame.said new)) → SeesSaid old new
  no_more_said old mid new front so_far was is = more_said old mid new front [] so_far was (is ∙ sym (append_known-nil (frame.said mid)))
