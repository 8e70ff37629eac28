-- A host that only says, text by text.
use Rattle.std.proofs.Common.{◌≡◌, ◌∙◌, refl, sym, ap, inl, inr, ⊎_elim, ℕ, List, [], ◌++◌, Option, None, Some, append-nil, append_assoc}
use Rattle.std.specs.Io.KnownBytes.{append_known}
use Rattle.coco_host.specs.Files.{Files, NoMore}
use Rattle.coco_host.specs.Moments.{IsNew, IsSaidBetween, Observation, SeesOnly}
use Rattle.coco_host.proofs.Sees.{goes_on, started}
use Rattle.coco_host.specs.declared.host.Host.{Ghosts as HostGhosts}
use Rattle.coco_io.proofs.KnownLemmas.{append_known-append, append_known-nil}

-- what is said between two moments is said between the first and a later one, or an earlier one and the second
said_later : (before mid after : Option (List ℕ)) (more said : List ℕ) → after ≡ append_known mid more → IsSaidBetween before mid said → IsSaidBetween before after said
said_later before mid after more said grown h = record {
  from = h.from;
  was = h.was;
  begun = h.begun;
  to = h.to ++ more;
  is = grown ∙ ap (λ (o : Option (List ℕ)). append_known o more) h.is;
  ended = (h.ended.0 ++ more, ap (λ (l : List ℕ). l ++ more) h.ended.1 ∙ append_assoc said h.ended.0 more);
}

said_sooner : (before mid after : Option (List ℕ)) (more said : List ℕ) → mid ≡ append_known before more → IsSaidBetween mid after said → IsSaidBetween before after said
said_sooner None mid after more said grown h = (let no : None ≡ Some h.from = sym grown ∙ h.was in cc)
said_sooner (Some from) mid after more said grown h =
    let same : Some h.from ≡ Some (from ++ more) = sym h.was ∙ grown in
    let front : h.from ≡ from ++ more = cc in
    record {
      from = from;
      was = refl;
      begun = (more ++ h.begun.0, h.begun.1 ∙ ap (λ (l : List ℕ). l ++ h.begun.0) front ∙ append_assoc from more h.begun.0);
      to = h.to;
      is = h.is;
      ended = h.ended;
    }

module _ {H : Type 0} (frame : HostGhosts H) where
  -- this text was said and nothing else happened
  pub record OnlySays (first host : H) (text : List ℕ) : Type 0 where
    pub says : frame.said host ≡ append_known (frame.said first) text
    pub same : frame.reads host ≡ frame.reads first
    pub crash : NoMore (frame.may_leave first) (frame.may_leave host)
    pub sees : SeesOnly frame.moment frame.observed first host (IsNew (frame.may_leave first) (frame.said first) (frame.said host))

  pub says_nothing : ((host : H) (seen : Observation) → frame.observed host (frame.moment host) seen → frame.may_leave host seen.image × (frame.said host ≡ Some seen.said)) → (host : H) → OnlySays host host []
  says_nothing only_now host = record {
    says = sym (append_known-nil (frame.said host));
    same = refl;
    crash = λ files left. left;
    sees = started frame.moment frame.observed host (IsNew (frame.may_leave host) (frame.said host) (frame.said host)) (λ seen since. record {
      image = (only_now host seen since).0;
      said = record {
        from = seen.said;
        was = (only_now host seen since).1;
        begun = ([], sym (append-nil seen.said));
        to = seen.said;
        is = (only_now host seen since).1;
        ended = ([], sym (append-nil seen.said));
      };
    });
  }

  -- a text more
  pub says_more : (first mid new : H) (text part : List ℕ) → OnlySays first mid text → frame.said new ≡ append_known (frame.said mid) part → frame.reads new ≡ frame.reads mid → NoMore (frame.may_leave mid) (frame.may_leave new)
      → SeesOnly frame.moment frame.observed mid new (IsNew (frame.may_leave mid) (frame.said mid) (frame.said new)) → OnlySays first new (text ++ part)
  says_more first mid new text part so_far says same crash sees = record {
    says = says ∙ ap (λ (o : Option (List ℕ)). append_known o part) so_far.says ∙ append_known-append (frame.said first) text part;
    same = same ∙ so_far.same;
    crash = λ files left. so_far.crash files (crash files left);
    sees = goes_on frame.moment frame.observed first mid new (IsNew (frame.may_leave first) (frame.said first) (frame.said new)) (IsNew (frame.may_leave mid) (frame.said mid) (frame.said new)) (record {
      later = so_far.sees.later;
      each = λ seen since. wider seen (so_far.sees.each seen since);
      before = λ t seen le since. ⊎_elim inl (λ new_one. inr (wider seen new_one)) (so_far.sees.before t seen le since);
      keeps = so_far.sees.keeps;
    }) (record { later = sees.later; nothing_else = sees.before; keeps = sees.keeps }) (λ seen h. record {
      image = so_far.crash seen.image h.image;
      said = said_sooner (frame.said first) (frame.said mid) (frame.said new) text seen.said so_far.says h.said;
    });
  }
    where
      wider : (seen : Observation) → IsNew (frame.may_leave first) (frame.said first) (frame.said mid) seen → IsNew (frame.may_leave first) (frame.said first) (frame.said new) seen
      wider seen h = record { image = h.image; said = said_later (frame.said first) (frame.said mid) (frame.said new) part seen.said says h.said }
