-- Counted lists read back, and the steps of a loop that reads one.
use Rattle.std.proofs.Common.{◌≡◌, ℕ, zero, suc, ◌+◌, ◌-◌, ◌^◌, ◌<◌, ◌≤◌, List, [], ◌∷◌, ◌++◌, length, Option, Some, None, Ok, Err, refl, sym, ap, subst, append_assoc, arith}
use Rattle.std.specs.List.{flat_map}
use Rattle.std.proofs.lemmas.List.{append-nil}
use Rattle.std.proofs.lemmas.List.Concat.{flat_map-cons}
use Rattle.coco_bytes.specs.declared.fault.FieldFault.{FieldFault}
use Rattle.coco_bytes.specs.Fields.{Stands, AreBytes, u32_bytes}
use Rattle.coco_bytes.specs.Reads.{◌>>=◌, Read, Agree, u32_at}
use Rattle.coco_bytes.specs.Lists.{counted, items_at, counted_at, FitInTurn, last_item}
use Rattle.coco_bytes.proofs.FieldLemmas.{bind_then, ok_then, Stands-nil, Stands-then, Stands-first, Stands-second}
use Rattle.coco_bytes.proofs.NumberLemmas.{u32_agrees}

-- what is known of a list of so many items that was read
IsRead : {A : Type 0} → (A → List ℕ) → (Option A → A → Type 0) → Option A → ℕ → List ℕ → ℕ → List A × ℕ → Type 0
IsRead bytes_of Fits before n from at p = (length p.0 ≡ n) × FitInTurn Fits before p.0 × Stands from at (flat_map bytes_of p.0) p.1

items_found : {A : Type 0} (read : Option A → List ℕ → ℕ → Read A) (bytes_of : A → List ℕ) (Fits : Option A → A → Type 0) → ((before : Option A) → Agree (read before) bytes_of (Fits before))
    → (before : Option A) (n : ℕ) (from : List ℕ) (at : ℕ) (p : List A × ℕ) → AreBytes from → items_at read before n from at ≡ Ok p → IsRead bytes_of Fits before n from at p
unfolding items_at IsRead
items_found read bytes_of Fits agrees before zero from at p fits e =
    ok_then FieldFault (IsRead bytes_of Fits before 0 from at) ([], at) p e (refl, tt, Stands-nil from at)
items_found {A} read bytes_of Fits agrees before (suc n) from at p fits e =
    bind_then (read before from at) (λ (first : A × ℕ). items_at read (Some first.0) n from first.1 >>= λ (others : List A × ℕ). Ok (first.0 ∷ others.0, others.1)) p e (λ first one next.
    bind_then (items_at read (Some first.0) n from first.1) (λ (others : List A × ℕ). Ok (first.0 ∷ others.0, others.1)) p next (λ others more ok.
    let a = (agrees before).found from at first.0 first.1 fits one in
    let b = items_found read bytes_of Fits agrees (Some first.0) n from first.1 others fits more in
    ok_then FieldFault (IsRead bytes_of Fits before (suc n) from at) (first.0 ∷ others.0, others.1) p ok
    (ap suc b.0, (a.0, b.1), rw flat_map-cons (Stands-then from at (bytes_of first.0) first.1 (flat_map bytes_of others.0) others.1 a.1 b.2))))

items_again : {A : Type 0} (read : Option A → List ℕ → ℕ → Read A) (bytes_of : A → List ℕ) (Fits : Option A → A → Type 0) → ((before : Option A) → Agree (read before) bytes_of (Fits before))
    → (before : Option A) (from : List ℕ) (at : ℕ) (xs : List A) (end : ℕ) → FitInTurn Fits before xs → Stands from at (flat_map bytes_of xs) end → items_at read before (length xs) from at ≡ Ok (xs, end)
unfolding items_at
items_again read bytes_of Fits agrees before from at [] end fits p = let here : at ≡ end = omega (arith, p.ends) in rw here refl
items_again read bytes_of Fits agrees before from at (x ∷ xs) end fits p =
    let q : Stands from at (bytes_of x ++ flat_map bytes_of xs) end = rw flat_map-cons at p in
    let one = (agrees before).again from at x (at + length (bytes_of x)) fits.0 (Stands-first from at (bytes_of x) (flat_map bytes_of xs) end q) in
    let more = items_again read bytes_of Fits agrees (Some x) from (at + length (bytes_of x)) xs end fits.1 (Stands-second from at (bytes_of x) (flat_map bytes_of xs) end q) in
    rw (one, more) refl

counted_found : {A : Type 0} (read : Option A → List ℕ → ℕ → Read A) (bytes_of : A → List ℕ) (Fits : Option A → A → Type 0) → ((before : Option A) → Agree (read before) bytes_of (Fits before))
    → (from : List ℕ) (at : ℕ) (xs : List A) (end : ℕ) → AreBytes from → counted_at read from at ≡ Ok (xs, end) → ((length xs < 2 ^ 32) × FitInTurn Fits None xs) × Stands from at (counted bytes_of xs) end
unfolding counted_at IsRead
counted_found read bytes_of Fits agrees from at xs end fits e =
    bind_then (u32_at from at) (λ (n : ℕ × ℕ). items_at read None n.0 from n.1) (xs, end) e (λ n counts next.
    let a = u32_agrees.found from at n.0 n.1 fits counts in
    let b = items_found read bytes_of Fits agrees None n.0 from n.1 (xs, end) fits next in
    let first : Stands from at (u32_bytes (length xs)) n.1 = subst (λ (k : ℕ). Stands from at (u32_bytes k) n.1) (sym b.0) a.1 in
    ((omega (arith, a.0, b.0), b.1), Stands-then from at (u32_bytes (length xs)) n.1 (flat_map bytes_of xs) end first b.2))

counted_again : {A : Type 0} (read : Option A → List ℕ → ℕ → Read A) (bytes_of : A → List ℕ) (Fits : Option A → A → Type 0) → ((before : Option A) → Agree (read before) bytes_of (Fits before))
    → (from : List ℕ) (at : ℕ) (xs : List A) (end : ℕ) → (length xs < 2 ^ 32) × FitInTurn Fits None xs → Stands from at (counted bytes_of xs) end → counted_at read from at ≡ Ok (xs, end)
unfolding counted_at
counted_again read bytes_of Fits agrees from at xs end fits p =
    let one = u32_agrees.again from at (length xs) (at + 4) fits.0 (Stands-first from at (u32_bytes (length xs)) (flat_map bytes_of xs) end p) in
    rw one (items_again read bytes_of Fits agrees None from (at + 4) xs end fits.1 (Stands-second from at (u32_bytes (length xs)) (flat_map bytes_of xs) end p))

-- a counted list of items that read back reads back
pub counted_agrees : {A : Type 0} (read : Option A → List ℕ → ℕ → Read A) (bytes_of : A → List ℕ) (Fits : Option A → A → Type 0) → ((before : Option A) → Agree (read before) bytes_of (Fits before))
    → Agree (counted_at read) (counted bytes_of) (λ xs. (length xs < 2 ^ 32) × FitInTurn Fits None xs)
counted_agrees read bytes_of Fits agrees = record { found = counted_found read bytes_of Fits agrees; again = counted_again read bytes_of Fits agrees }

-- ---- a loop that has read the front of a list

abbrev pub with_front : {A : Type 0} → List A → Read (List A) → Read (List A)
with_front front r = r >>= λ x. Ok (front ++ x.0, x.1)

pub last_item-push : {A : Type 0} (xs : List A) (x : A) → last_item (xs ++ x ∷ []) ≡ Some x
last_item-push [] x = refl
last_item-push (y ∷ []) x = refl
last_item-push (y ∷ z ∷ xs) x = last_item-push (z ∷ xs) x

-- what is left to read of a list of so many items
unfoldable pub rest_of : {A : Type 0} → (Option A → List ℕ → ℕ → Read A) → List A → ℕ → List ℕ → ℕ → Read (List A)
rest_of read front n from at = with_front front (items_at read (last_item front) n from at)

regroup : {A : Type 0} (front : List A) (x : A) (r : Read (List A)) → with_front front (r >>= λ (others : List A × ℕ). Ok (x ∷ others.0, others.1)) ≡ with_front (front ++ x ∷ []) r
regroup {A} front x (Ok y) = ap (λ (xs : List A). Ok (xs, y.1)) (simp append_assoc)
regroup front x (Err f) = refl

pub rest_begins : {A : Type 0} (read : Option A → List ℕ → ℕ → Read A) (front : List A) (count : ℕ) (from : List ℕ) (at : ℕ) → front ≡ []
    → rest_of read front (count - 0) from at ≡ items_at read None count from at
unfolding rest_of
rest_begins {A} read front count from at empty =
    let k : count - 0 ≡ count = omega arith in
    rw (empty, k) (alone (items_at read None count from at))
  where
    alone : {A : Type 0} (r : Read (List A)) → with_front [] r ≡ r
    alone (Ok x) = refl
    alone (Err f) = refl

pub rest_goes_on : {A : Type 0} (read : Option A → List ℕ → ℕ → Read A) (front longer : List A) (count i : ℕ) (from : List ℕ) (at : ℕ) (x : A) (end : ℕ) → i < count
    → read (last_item front) from at ≡ Ok (x, end) → longer ≡ front ++ x ∷ [] → rest_of read longer (count - (i + 1)) from end ≡ rest_of read front (count - i) from at
unfolding rest_of items_at
rest_goes_on read front longer count i from at x end lt h one_more =
    let k : count - i ≡ suc (count - (i + 1)) = omega arith in
    rw (one_more, k, h, last_item-push front x) (sym (regroup front x (items_at read (Some x) (count - (i + 1)) from end)))

pub rest_fails : {A : Type 0} (read : Option A → List ℕ → ℕ → Read A) (front : List A) (count i : ℕ) (from : List ℕ) (at : ℕ) (fault : FieldFault) → i < count
    → read (last_item front) from at ≡ Err fault → rest_of read front (count - i) from at ≡ Err fault
unfolding rest_of items_at
rest_fails read front count i from at fault lt h =
    let k : count - i ≡ suc (count - (i + 1)) = omega arith in
    rw (k, h) refl

pub rest_ends : {A : Type 0} (read : Option A → List ℕ → ℕ → Read A) (front : List A) (count i : ℕ) (from : List ℕ) (at : ℕ) → count ≤ i → rest_of read front (count - i) from at ≡ Ok (front, at)
unfolding rest_of items_at
rest_ends {A} read front count i from at le =
    let k : count - i ≡ 0 = omega arith in
    rw k (ap (λ (xs : List A). Ok (xs, at)) (append-nil front))
