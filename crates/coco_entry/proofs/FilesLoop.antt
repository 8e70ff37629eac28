-- A loop over the files of a layout, each of which is new behind those named so far.
use Rattle.std.proofs.Common.{◌≡◌, ℕ, suc, ◌+◌, ◌-◌, ◌<◌, ◌≤◌, List, [], ◌∷◌, ◌++◌, Ok, Err, refl, sym, ap, ◌∙◌, append_assoc, arith}
use Rattle.std.proofs.lemmas.List.{append-nil}
use Rattle.coco_bytes.specs.declared.fault.FieldFault.{FieldFault}
use Rattle.coco_bytes.specs.Reads.{◌>>=◌, Read, fault_place}
use Rattle.coco_bytes.proofs.ListLemmas.{with_front}
use Rattle.coco_entry.specs.declared.fault.EntryFault.TheVariants as faults
use Rattle.coco_entry.specs.Grammar.{Answers}
use Rattle.coco_entry.specs.Layouts.{file_at, files_at}

alone : {A : Type 0} (r : Read (List A)) → with_front [] r ≡ r
alone (Ok x) = refl
alone (Err f) = refl

regroup : {A : Type 0} (front : List A) (x : A) (r : Read (List A)) → with_front front (r >>= λ (others : List A × ℕ). Ok (x ∷ others.0, others.1)) ≡ with_front (front ++ x ∷ []) r
regroup {A} front x (Ok y) = ap (λ (xs : List A). Ok (xs, y.1)) (simp append_assoc)
regroup front x (Err f) = refl

pub files_begin : (named front : List ℕ) (count : ℕ) (from : List ℕ) (at : ℕ) → front ≡ [] → with_front front (files_at named (count - 0) from at) ≡ files_at named count from at
files_begin named front count from at empty =
    let k : count - 0 ≡ count = omega arith in
    rw (empty, k) (alone (files_at named count from at))

pub files_go_on : (named front : List ℕ) (count i : ℕ) (from : List ℕ) (at x end : ℕ) → i < count → file_at named from at ≡ Ok (x, end)
    → with_front (front ++ x ∷ []) (files_at (named ++ x ∷ []) (count - (i + 1)) from end) ≡ with_front front (files_at named (count - i) from at)
unfolding files_at
files_go_on named front count i from at x end lt h =
    let k : count - i ≡ suc (count - (i + 1)) = omega arith in
    rw (k, h) (sym (regroup front x (files_at (named ++ x ∷ []) (count - (i + 1)) from end)))

pub files_end : (named front : List ℕ) (count i : ℕ) (from : List ℕ) (at : ℕ) → count ≤ i → with_front front (files_at named (count - i) from at) ≡ Ok (front, at)
unfolding files_at
files_end named front count i from at le =
    let k : count - i ≡ 0 = omega arith in
    rw k (ap (λ (xs : List ℕ). Ok (xs, at)) (append-nil front))

pub files_fail : (named front : List ℕ) (count i : ℕ) (from : List ℕ) (at : ℕ) (total : Read (List ℕ)) (fault : FieldFault) → i < count → Err fault ≡ file_at named from at
    → with_front front (files_at named (count - i) from at) ≡ total → Answers (Err (faults.Bad (fault_place fault))) total
unfolding files_at
files_fail named front count i from at total fault lt h so_far =
    let k : count - i ≡ suc (count - (i + 1)) = omega arith in
    let fails : with_front front (files_at named (count - i) from at) ≡ Err fault = rw (k, ← h) refl in
    (fault, sym so_far ∙ fails, refl)
