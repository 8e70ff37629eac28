-- What a body is by the rules of its file.
use Rattle.std.proofs.Common.{◌≡◌, ℕ, ◌≤◌, List, length, inl, inr, sym, subst}
use Rattle.std.specs.Prelude.{Some, Ok, Err}
use Rattle.coco_entry.specs.declared.fault.EntryFault.{EntryFault}
use Rattle.coco_entry.specs.declared.fault.EntryFault.TheVariants as faults
use Rattle.coco_entry.specs.Grammar.{Answers, IsFaultAt}
use Rattle.coco_read.specs.EntryRules.{EntryRules, Takes}
use Rattle.coco_store.specs.Refusals.{IsFirst}
use Rattle.coco_recover.specs.Refusal.{refusal_of}

module _ {E : Type 0} (rules : EntryRules E) (before : List E) (body : List ℕ) (after : List E) where
  -- it can't be read
  pub unread : (fault : EntryFault) → Answers {A = E} (Err fault) (rules.read before body) → ((at : ℕ) → IsFaultAt at (rules.read before body) → at ≤ length body)
      → Takes rules before body (refusal_of fault) after
  unread (faults.Bad at) reads within = record { within = within at reads; why = inl reads }
  unread faults.NoMemory reads within = tt

  -- it is an entry that breaks a rule
  pub broken : (e : E) (at : ℕ) → rules.Is e → body ≡ rules.bytes_of e → IsFirst (rules.Breaks before e) at → at ≤ length (rules.bytes_of e) → Takes rules before body (Ok (Some at)) after
  broken e at is bytes first within = record {
    within = subst (λ (l : List ℕ). at ≤ length l) (sym bytes) within;
    why = inr (record { entry = e; is = is; bytes = bytes; first = first });
  }
