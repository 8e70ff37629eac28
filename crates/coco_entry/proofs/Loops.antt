-- A loop that reads a counted list, and what it gives where it ends or finds a fault.
use Rattle.std.proofs.Common.{◌≡◌, ℕ, ◌+◌, ◌-◌, ◌<◌, ◌≤◌, List, [], ◌∷◌, ◌++◌, length, Option, None, Result, Ok, Err, sym, ◌∙◌}
use Rattle.std.specs.Prelude.{IsErrAnd}
use Rattle.std.proofs.lemmas.Result.{err_from_is_err_and}
use Rattle.coco_bytes.specs.Reads.{Read}
use Rattle.coco_bytes.specs.Lists.{items_at, last_item}
use Rattle.coco_bytes.proofs.ListLemmas.{rest_of, rest_begins, rest_goes_on, rest_ends, rest_fails}
use Rattle.coco_entry.specs.declared.fault.EntryFault.{EntryFault}
use Rattle.coco_entry.specs.declared.fault.EntryFault.TheVariants as faults
use Rattle.coco_entry.specs.Grammar.{Answers}

-- the front is read from the start on, and as many more from here are the whole list
pub record HasRead {A : Type 0} (read : Option A → List ℕ → ℕ → Read A) (front : List A) (count i : ℕ) (from : List ℕ) (start at : ℕ) : Type 0 where
  pub so_far : rest_of read front (count - i) from at ≡ items_at read None count from start
  pub within : at ≤ length from

pub begins : {A : Type 0} {read : Option A → List ℕ → ℕ → Read A} {front : List A} {count : ℕ} {from : List ℕ} {at : ℕ} → front ≡ [] → at ≤ length from → HasRead read front count 0 from at at
begins {A} {read} {front} {count} {from} {at} empty within = record { so_far = rest_begins read front count from at empty; within = within }

pub goes_on : {A : Type 0} {read : Option A → List ℕ → ℕ → Read A} {front longer : List A} {count i : ℕ} {from : List ℕ} {start at end : ℕ} {x : A} → HasRead read front count i from start at
    → i < count → longer ≡ front ++ x ∷ [] → end ≤ length from → read (last_item front) from at ≡ Ok (x, end) → HasRead read longer count (i + 1) from start end
goes_on {A} {read} {front} {longer} {count} {i} {from} {start} {at} {end} {x} before lt one_more within h = record {
  so_far = rest_goes_on read front longer count i from at x end lt h one_more ∙ before.so_far;
  within = within;
}

pub ends : {A : Type 0} {read : Option A → List ℕ → ℕ → Read A} {front : List A} {count i : ℕ} {from : List ℕ} {start at : ℕ} → HasRead read front count i from start at
    → count ≤ i → items_at read None count from start ≡ Ok (front, at)
ends {A} {read} {front} {count} {i} {from} {start} {at} before le = sym before.so_far ∙ rest_ends read front count i from at le

faulted : {A : Type 0} {read : Option A → List ℕ → ℕ → Read A} {front : List A} {count i : ℕ} {from : List ℕ} {start at : ℕ} → HasRead read front count i from start at
    → i < count → (e : EntryFault) → Answers (Err e) (read (last_item front) from at) → Answers (Err e) (items_at read None count from start)
faulted {A} {read} {front} {count} {i} {from} {start} {at} before lt (faults.Bad place) h = (h.0, sym before.so_far ∙ rest_fails read front count i from at h.0 lt h.1, h.2)
faulted before lt faults.NoMemory h = tt

-- at the exit of a `?`
pub fails : {A : Type 0} {read : Option A → List ℕ → ℕ → Read A} {front : List A} {count i : ℕ} {from : List ℕ} {start at : ℕ} → HasRead read front count i from start at
    → i < count → (result : Result (List A × ℕ) EntryFault) (e : EntryFault) → IsErrAnd result (λ given. given ≡ e) → Answers (Err e) (read (last_item front) from at) → Answers result (items_at read None count from start)
fails before lt result e given h = let p = err_from_is_err_and result given in rw (p.1, p.2) (faulted before lt e h)
