-- How what is seen of a host goes on from call to call.
use Rattle.std.proofs.Common.{◌≡◌, inl, inr, ⊎_elim, ℕ, List, [], ◌++◌, length, Option, Some, sym, ap, ◌∙◌, arith, length-append}
use Rattle.std.proofs.lemmas.List.{append-nil, nil_from_length}
use Rattle.coco_host.specs.Moments.{Observation, IsSaidBetween, Elapses, SeesOnly}
use Rattle.coco_host.specs.Record.{known}

module _ {H : Type 0} (moment : H → ℕ) (observed : H → ℕ → Observation → Type 0) where
  -- before the first call
  pub started : (old : H) (P : Observation → Type 0) → ((seen : Observation) → observed old (moment old) seen → P seen) → SeesOnly moment observed old old P
  started old P here = record {
    later = omega arith;
    each = here;
    before = λ t seen le since. inl since;
    keeps = λ t seen le since. since;
  }

  -- one call more, in which nothing but what has P is new
  pub goes_on : (old mid new : H) (P New : Observation → Type 0) → SeesOnly moment observed old mid P → Elapses (moment mid) (moment new) (observed mid) (observed new) New
      → ((seen : Observation) → New seen → P seen) → SeesOnly moment observed old new P
  goes_on old mid new P New so_far time here = record {
    later = omega (arith, so_far.later, time.later);
    each = λ seen since. ⊎_elim (so_far.each seen) (here seen) (time.nothing_else (moment old) seen so_far.later since);
    before = λ t seen le since. ⊎_elim (so_far.before t seen le) (λ new_one. inr (here seen new_one)) (time.nothing_else t seen (omega (arith, le, so_far.later)) since);
    keeps = λ t seen le since. time.keeps t seen (omega (arith, le, so_far.later)) (so_far.keeps t seen le since);
  }

-- where nothing is said in a call, what was said by then is what is said now
pub said_still : (before after : Option (List ℕ)) (said : List ℕ) → after ≡ before → IsSaidBetween before after said → after ≡ Some said
said_still before after said same h =
    let one : h.from ≡ h.to = ap (known []) (sym h.was ∙ sym same ∙ h.is) in
    let none : h.begun.0 ≡ [] = nil_from_length h.begun.0 (omega (arith, ap length h.begun.1, ap length h.ended.1, ap length one, length-append h.from h.begun.0, length-append said h.ended.0)) in
    same ∙ h.was ∙ ap Some (sym (h.begun.1 ∙ ap (λ (l : List ℕ). h.from ++ l) none ∙ append-nil h.from))
