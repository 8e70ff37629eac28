-- The numbers of Dones, as they come and go.
use Rattle.std.proofs.Common.{◌≡◌, ℕ, suc, ◌+◌, ◌-◌, ◌<◌, ◌≤◌, ◌%◌, ◌^◌, Bool, true, false, cond, List, [], ◌∷◌, ◌++◌, length, nat_eq, Option, None, Some, slice_get, Bor, refl, sym, ap, ◌∙◌, arith, true≢false}
use Rattle.std.specs.Cmp.{unsigned_Decides}
use Rattle.std.specs.List.{AllByRecursion, IsDistinct}
use Rattle.std.specs.Option.{option_copied}
use Rattle.std.specs.Slice.{IsItemAt}
use Rattle.std.proofs.lemmas.Option.{slice_get_past, slice_get_read}
use Rattle.coco_types.specs.declared.call.Done.{Done}
use Rattle.coco_ast.specs.History.{ids_of, done_of}
use Rattle.coco_kept.specs.Holding.{number_of}
use Rattle.coco_kept.specs.Keeping.{HasDistinctIds}

eq_swap : (m n : ℕ) → nat_eq m n ≡ nat_eq n m
eq_swap m n = grind arith

some_none : {X : Type 0} {x : X} → Some x ≡ None → ⊥
some_none h = cc

-- an id without a Done has no number, and the other way round
pub no_number : (id first : ℕ) (ds : List Done) → done_of id ds ≡ None → number_of id first ds ≡ None
no_number id first [] h = refl
no_number id first (d ∷ ds) h = by (nat_eq id d.id) h (no_number id (first + 1) ds)
  where
    by : (b : Bool) → cond b (Some d) (done_of id ds) ≡ None → (done_of id ds ≡ None → number_of id (first + 1) ds ≡ None) → cond b (Some (first % 2 ^ 64)) (number_of id (first + 1) ds) ≡ None
    by true e rest = absurd (some_none e)
    by false e rest = rest e

pub no_done : (id first : ℕ) (ds : List Done) → number_of id first ds ≡ None → done_of id ds ≡ None
no_done id first [] h = refl
no_done id first (d ∷ ds) h = by (nat_eq id d.id) h (no_done id (first + 1) ds)
  where
    by : (b : Bool) → cond b (Some (first % 2 ^ 64)) (number_of id (first + 1) ds) ≡ None → (number_of id (first + 1) ds ≡ None → done_of id ds ≡ None) → cond b (Some d) (done_of id ds) ≡ None
    by true e rest = absurd (some_none e)
    by false e rest = rest e

-- where a number leads to
pub record IsAt (id first n : ℕ) (ds : List Done) : Type 0 where
  pub place : ℕ
  pub within : place < length ds
  pub number : n ≡ (first + place) % 2 ^ 64
  pub done_is : slice_get ds place ≡ done_of id ds

pub number_leads : (id first n : ℕ) (ds : List Done) → number_of id first ds ≡ Some n → IsAt id first n ds
number_leads id first n [] h = absurd (some_none (sym h))
number_leads id first n (d ∷ ds) h = by (nat_eq id d.id) refl h (number_leads id (first + 1) n ds)
  where
    by : (b : Bool) → nat_eq id d.id ≡ b → cond b (Some (first % 2 ^ 64)) (number_of id (first + 1) ds) ≡ Some n → (number_of id (first + 1) ds ≡ Some n → IsAt id (first + 1) n ds) → IsAt id first n (d ∷ ds)
    by true e g rest =
        let is : first % 2 ^ 64 ≡ n = cc in
        record { place = 0; within = omega arith; number = omega (arith, is); done_is = ap (λ b. cond b (Some d) (done_of id ds)) (sym e) }
    by false e g rest =
        let more = rest g in
        record {
          place = suc more.place;
          within = omega (arith, more.within);
          number = more.number ∙ ap (λ m. m % 2 ^ 64) (let same : first + 1 + more.place ≡ first + suc more.place = omega arith in same);
          done_is = more.done_is ∙ ap (λ b. cond b (Some d) (done_of id ds)) (sym e);
        }

-- the Done at the place that a number says
pub found : (id first n : ℕ) (ds : List Done) → first < 2 ^ 64 → length ds ≤ 2 ^ 64 → number_of id first ds ≡ Some n → slice_get ds ((n + (2 ^ 64 - first)) % 2 ^ 64) ≡ done_of id ds
found id first n ds low few h =
    let at = number_leads id first n ds h in
    let back : (n + (2 ^ 64 - first)) % 2 ^ 64 ≡ at.place = omega (arith, at.number, at.within) in
    ap (slice_get ds) back ∙ at.done_is

-- numbers go on from what comes behind the greatest one
pub number_wraps : (id a b : ℕ) (ds : List Done) → a % 2 ^ 64 ≡ b % 2 ^ 64 → number_of id a ds ≡ number_of id b ds
number_wraps id a b [] h = refl
number_wraps id a b (d ∷ ds) h =
    let more : (a + 1) % 2 ^ 64 ≡ (b + 1) % 2 ^ 64 = omega arith in
    λ i. cond (nat_eq id d.id) (Some (h i)) (number_wraps id (a + 1) (b + 1) ds more i)

pub number-push : (id first : ℕ) (ds : List Done) (d : Done) → done_of d.id ds ≡ None
    → number_of id first (ds ++ d ∷ []) ≡ cond (nat_eq d.id id) (Some ((first + length ds) % 2 ^ 64)) (number_of id first ds)
number-push id first [] d new = ap (λ b. cond b (Some (first % 2 ^ 64)) None) (eq_swap id d.id) ∙ ap (λ n. cond (nat_eq d.id id) (Some (n % 2 ^ 64)) None) (let same : first ≡ first + 0 = omega arith in same)
number-push id first (x ∷ xs) d new =
    by (nat_eq id x.id) (nat_eq d.id id) (nat_eq d.id x.id) refl refl refl new (number-push id (first + 1) xs d)
  where
    by : (b c a : Bool) → nat_eq id x.id ≡ b → nat_eq d.id id ≡ c → nat_eq d.id x.id ≡ a → cond a (Some x) (done_of d.id xs) ≡ None
        → (done_of d.id xs ≡ None → number_of id (first + 1) (xs ++ d ∷ []) ≡ cond (nat_eq d.id id) (Some ((first + 1 + length xs) % 2 ^ 64)) (number_of id (first + 1) xs))
        → cond b (Some (first % 2 ^ 64)) (number_of id (first + 1) (xs ++ d ∷ [])) ≡ cond c (Some ((first + length (x ∷ xs)) % 2 ^ 64)) (cond b (Some (first % 2 ^ 64)) (number_of id (first + 1) xs))
    by b c true e f g none rest = absurd (some_none none)
    by true true false e f g none rest = absurd (true≢false (sym ((unsigned_Decides d.id x.id).1 ((unsigned_Decides d.id id).0 f ∙ (unsigned_Decides id x.id).0 e)) ∙ g))
    by true false false e f g none rest = refl
    by false c false e f g none rest =
        rest none ∙ ap (λ b. cond b (Some ((first + 1 + length xs) % 2 ^ 64)) (number_of id (first + 1) xs)) f
        ∙ ap (λ n. cond c (Some (n % 2 ^ 64)) (number_of id (first + 1) xs)) (let same : first + 1 + length xs ≡ first + length (x ∷ xs) = omega arith in same)

-- an id that is apart from those of all Dones has none
not_there : (id : ℕ) (ds : List Done) → AllByRecursion (λ y. nat_eq id y ≡ false) (ids_of ds) → done_of id ds ≡ None
not_there id [] h = refl
not_there id (d ∷ ds) h = ap (λ b. cond b (Some d) (done_of id ds)) h.0 ∙ not_there id ds h.1

pub first_apart : (d : Done) (ds : List Done) → HasDistinctIds (d ∷ ds) → done_of d.id ds ≡ None
unfolding IsDistinct
first_apart d ds once = not_there d.id ds once.0

pub others_apart : (d : Done) (ds : List Done) → HasDistinctIds (d ∷ ds) → HasDistinctIds ds
unfolding IsDistinct
others_apart d ds once = once.1

-- the numbers once the first Done is gone
pub number-pop : (id first : ℕ) (d : Done) (ds : List Done) → HasDistinctIds (d ∷ ds) → number_of id ((first + 1) % 2 ^ 64) ds ≡ cond (nat_eq d.id id) None (number_of id first (d ∷ ds))
number-pop id first d ds once =
    number_wraps id ((first + 1) % 2 ^ 64) (first + 1) ds (omega arith) ∙ by (nat_eq d.id id) refl
  where
    by : (b : Bool) → nat_eq d.id id ≡ b → number_of id (first + 1) ds ≡ cond b None (number_of id first (d ∷ ds))
    by true e = no_number id (first + 1) ds (ap (λ n. done_of n ds) (sym ((unsigned_Decides d.id id).0 e)) ∙ first_apart d ds once)
    by false e = ap (λ b. cond b (Some (first % 2 ^ 64)) (number_of id (first + 1) ds)) (sym (eq_swap id d.id ∙ e))

pub apart-push : (ds : List Done) (d : Done) → HasDistinctIds ds → done_of d.id ds ≡ None → HasDistinctIds (ds ++ d ∷ [])
unfolding IsDistinct
apart-push [] d once new = (tt, tt)
apart-push (x ∷ xs) d once new = by (nat_eq d.id x.id) refl new (apart-push xs d once.1)
  where
    last : (ys : List Done) → AllByRecursion (λ y. nat_eq x.id y ≡ false) (ids_of ys) → nat_eq x.id d.id ≡ false → AllByRecursion (λ y. nat_eq x.id y ≡ false) (ids_of (ys ++ d ∷ []))
    last [] h e = (e, tt)
    last (y ∷ ys) h e = (h.0, last ys h.1 e)

    by : (b : Bool) → nat_eq d.id x.id ≡ b → cond b (Some x) (done_of d.id xs) ≡ None → (done_of d.id xs ≡ None → HasDistinctIds (xs ++ d ∷ [])) → HasDistinctIds (x ∷ (xs ++ d ∷ []))
    by true e none rest = absurd (some_none none)
    by false e none rest = (last xs once.0 (eq_swap x.id d.id ∙ e), rest none)

-- what is lent is the item at the place
pub item_copied : (xs : List Done) (i : ℕ) (r : Option (Bor Done)) → IsItemAt xs i r → option_copied r ≡ slice_get xs i
item_copied xs i None h = sym (slice_get_past xs i h.3)
item_copied xs i (Some x) h = sym (slice_get_read xs (length xs) i x.now refl h.3.0 h.1)
