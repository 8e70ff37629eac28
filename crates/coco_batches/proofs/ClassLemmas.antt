-- The class of a request, by what is found under its id.
use Rattle.std.proofs.Common.{◌≡◌, refl, sym, ap, subst, ◌∙◌, ℕ, Bool, true, false, true≢false, cond, ◌&&◌, ◌||◌, nat_eq, nat_le, ◌≤◌, ◌<◌, ◌+◌, arith, List, [], ◌∷◌, ◌++◌, length, map, Option, None, Some, length-append}
use Rattle.std.specs.List.{AllByRecursion, IsDistinct, list_any}
use Rattle.std.specs.Option.{option_map, option_or}
use Rattle.std.proofs.lemmas.Bool.Decides.{nat_tests}
use Rattle.std.proofs.lemmas.List.{length-map}
use Rattle.std.proofs.lemmas.List.Folds.{find-append}
use Rattle.coco_types.specs.Limits.{most_kept}
use Rattle.coco_types.specs.declared.call.Call.{Call}
use Rattle.coco_types.specs.declared.call.Done.{Done}
use Rattle.coco_types.specs.declared.call.Request.{Request}
use Rattle.coco_types.specs.contracts.call.CallPartialEq.TheImpl as call
use Rattle.coco_types.proofs.CallEquality.{call_Decides}
use Rattle.coco_ast.specs.History.{done_of, ids_of, is_up_to, request_of}
use Rattle.coco_ast.proofs.Lists.{all_swap, distinct_append}
use Rattle.coco_ast.proofs.GrowthLemmas.{no_ids}
use Rattle.coco_kept.specs.Keeping.{Keeping}
use Rattle.coco_lines.specs.Classes.{request_tests}
use Rattle.coco_lines.specs.Reading.{first_that_fits}
use Rattle.coco_lines.specs.declared.class.Class.TheVariants.{Refused, Same, New}
use Rattle.coco_lines.specs.declared.error.LineError.TheVariants.{Reused, Old, Full}
use Rattle.coco_batches.specs.Asking.{AreNew, known_of, request_under}
use Rattle.std.proofs.lemmas.Bool.{or_left}

abbrev ids : List Request → List ℕ
ids = map (λ r. r.id)

abbrev same_test : Request → Request → Bool
same_test r q = nat_eq r.id q.id && call.ghosts.eq q.call r.call

-- ---- by the request that is found under the id

known_by : (r q : Request) (rs : List Request) → request_under r.id rs ≡ Some q → list_any (λ (p : Request). nat_eq r.id p.id) rs ≡ true
known_by r q [] found = let e : ◌≡◌ {A = Option Request} None (Some q) = found in absurd (cc)
known_by r q (x ∷ rs) found = step (nat_eq r.id x.id) (request_under r.id rs) (known_by r q rs) found
  where
    step : (b : Bool) (o : Option Request) → (o ≡ Some q → list_any (λ (p : Request). nat_eq r.id p.id) rs ≡ true) → cond b (Some x) o ≡ Some q → (b || list_any (λ (p : Request). nat_eq r.id p.id) rs) ≡ true
    step true o rest e = refl
    step false o rest e = rest e

unknown_by : (r : Request) (rs : List Request) → request_under r.id rs ≡ None → list_any (λ (p : Request). nat_eq r.id p.id) rs ≡ false
unknown_by r [] none = refl
unknown_by r (x ∷ rs) none = step (nat_eq r.id x.id) (request_under r.id rs) (unknown_by r rs) none
  where
    step : (b : Bool) (o : Option Request) → (o ≡ None → list_any (λ (p : Request). nat_eq r.id p.id) rs ≡ false) → cond b (Some x) o ≡ None → (b || list_any (λ (p : Request). nat_eq r.id p.id) rs) ≡ false
    step true o rest e = let f : ◌≡◌ {A = Option Request} (Some x) None = e in absurd (cc)
    step false o rest e = rest e

-- where no id fits, no request does
none_same : (r : Request) (rs : List Request) → list_any (λ (p : Request). nat_eq r.id p.id) rs ≡ false → list_any (same_test r) rs ≡ false
none_same r [] h = refl
none_same r (x ∷ rs) h = step (nat_eq r.id x.id) (call.ghosts.eq x.call r.call) _ _ (none_same r rs) h
  where
    step : (a c b d : Bool) → (b ≡ false → d ≡ false) → (a || b) ≡ false → ((a && c) || d) ≡ false
    step true c b d rest e = absurd (true≢false e)
    step false c b d rest e = rest e

same_by : (r q : Request) (rs : List Request) → request_under r.id rs ≡ Some q → q.call ≡ r.call → list_any (same_test r) rs ≡ true
same_by r q [] found same = let e : ◌≡◌ {A = Option Request} None (Some q) = found in absurd (cc)
same_by r q (x ∷ rs) found same = step (nat_eq r.id x.id) (request_under r.id rs) (λ e. same_by r q rs e same) found
  where
    equal : (p : Request) → p ≡ q → call.ghosts.eq p.call r.call ≡ true
    equal p is = (call_Decides p.call r.call).1 (ap (λ (s : Request). s.call) is ∙ same)

    or_later : (c d : Bool) → d ≡ true → (c || d) ≡ true
    or_later true d h = refl
    or_later false d h = h

    step : (b : Bool) (o : Option Request) → (o ≡ Some q → list_any (same_test r) rs ≡ true) → cond b (Some x) o ≡ Some q → ((b && call.ghosts.eq x.call r.call) || list_any (same_test r) rs) ≡ true
    step true o rest e = let f : Some x ≡ Some q = e in let is : x ≡ q = cc in or_left (call.ghosts.eq x.call r.call) (list_any (same_test r) rs) (equal x is)
    step false o rest e = rest e

apart_none : (r : Request) (rs : List Request) → AllByRecursion (λ y. nat_eq r.id y ≡ false) (ids rs) → list_any (λ (p : Request). nat_eq r.id p.id) rs ≡ false
apart_none r [] all = refl
apart_none r (x ∷ rs) all = ap (λ b. b || list_any (λ (p : Request). nat_eq r.id p.id) rs) all.0 ∙ apart_none r rs all.1

-- with ids of their own, one with another call has no like
other_by : (r q : Request) (rs : List Request) → IsDistinct nat_eq (ids rs) → request_under r.id rs ≡ Some q → ¬ (q.call ≡ r.call) → list_any (same_test r) rs ≡ false
unfolding IsDistinct
other_by r q [] once found other = let e : ◌≡◌ {A = Option Request} None (Some q) = found in absurd (cc)
other_by r q (x ∷ rs) once found other = step (nat_eq r.id x.id) refl (request_under r.id rs) (λ e. other_by r q rs once.1 e other) found
  where
    differ : (b : Bool) → call.ghosts.eq x.call r.call ≡ b → (call.ghosts.eq x.call r.call ≡ true → ⊥) → b ≡ false
    differ true e never = absurd (never e)
    differ false e never = refl

    named : nat_eq r.id x.id ≡ true → r.id ≡ x.id
    named e = grind (arith, nat_tests)

    step : (b : Bool) → nat_eq r.id x.id ≡ b → (o : Option Request) → (o ≡ Some q → list_any (same_test r) rs ≡ false) → cond b (Some x) o ≡ Some q
        → ((b && call.ghosts.eq x.call r.call) || list_any (same_test r) rs) ≡ false
    step true id o rest e =
        let f : Some x ≡ Some q = e in
        let is : x ≡ q = cc in
        let unlike : call.ghosts.eq x.call r.call ≡ false = differ (call.ghosts.eq x.call r.call) refl (λ yes. other (sym (ap (λ (s : Request). s.call) is) ∙ (call_Decides x.call r.call).0 yes)) in
        let apart : AllByRecursion (λ y. nat_eq r.id y ≡ false) (ids rs) = subst (λ n. AllByRecursion (λ y. nat_eq n y ≡ false) (ids rs)) (sym (named id)) once.0 in
        ap (λ b. b || list_any (same_test r) rs) unlike ∙ none_same r rs (apart_none r rs apart)
    step false id o rest e = rest e

-- ---- among what is known

under_map : (id : ℕ) (ds : List Done) → request_under id (map request_of ds) ≡ option_map request_of (done_of id ds)
under_map id [] = refl
under_map id (d ∷ ds) = step (nat_eq id d.id) (request_under id (map request_of ds)) (done_of id ds) (under_map id ds)
  where
    step : (b : Bool) (o : Option Request) (p : Option Done) → o ≡ option_map request_of p → cond b (Some (request_of d)) o ≡ option_map request_of (cond b (Some d) p)
    step true o p h = refl
    step false o p h = h

under_known : (id : ℕ) (ds : List Done) (before : List Request) → request_under id (map request_of ds ++ before) ≡ option_or (option_map request_of (done_of id ds)) (request_under id before)
under_known id ds before = find-append (λ (r : Request). nat_eq id r.id) (map request_of ds) before ∙ ap (λ o. option_or o (request_under id before)) (under_map id ds)

pub some_under : (o : Option Request) (k : Call) → option_map (λ r. r.call) o ≡ Some k → (q : Request) × (o ≡ Some q) × (q.call ≡ k)
some_under None k h = let e : ◌≡◌ {A = Option Call} None (Some k) = h in absurd (cc)
some_under (Some q) k h = let e : Some q.call ≡ Some k = h in (q, refl, cc)

pub none_under : (o : Option Request) → option_map {T = Request} {U = Call} (λ r. r.call) o ≡ None → o ≡ None
none_under None h = refl
none_under (Some q) h = let e : ◌≡◌ {A = Option Call} (Some q.call) None = h in absurd (cc)

pub kept_known : (id : ℕ) (ds : List Done) (before : List Request) (d : Done) → done_of id ds ≡ Some d → request_under id (map request_of ds ++ before) ≡ Some (request_of d)
kept_known id ds before d found = under_known id ds before ∙ ap (λ o. option_or (option_map request_of o) (request_under id before)) found

pub fresh_known : (id : ℕ) (ds : List Done) (before : List Request) (o : Option Request) → done_of id ds ≡ None → request_under id before ≡ o → request_under id (map request_of ds ++ before) ≡ o
fresh_known id ds before o none found = under_known id ds before ∙ ap (λ p. option_or (option_map request_of p) (request_under id before)) none ∙ found

ids_map : (ds : List Done) → ids (map request_of ds) ≡ ids_of ds
ids_map [] = refl
ids_map (d ∷ ds) = ap (λ l. d.id ∷ l) (ids_map ds)

ids_append : (xs ys : List Request) → ids (xs ++ ys) ≡ ids xs ++ ids ys
ids_append [] ys = refl
ids_append (x ∷ xs) ys = ap (λ l. x.id ∷ l) (ids_append xs ys)

absent_apart : (ds : List Done) (before : List Request) → AllByRecursion (λ r. done_of r.id ds ≡ None) before → AllByRecursion (λ y. AllByRecursion (λ x. nat_eq x y ≡ false) (ids_of ds)) (ids before)
absent_apart ds [] all = tt
absent_apart ds (r ∷ before) all = (no_ids r.id ds all.0, absent_apart ds before all.1)

pub known_once : (k : Keeping) (before : List Request) → IsDistinct nat_eq (ids_of k.dones) → AreNew k before → IsDistinct nat_eq (ids (map request_of k.dones ++ before))
known_once k before once new =
    let ds = k.dones in
    subst (IsDistinct nat_eq) (sym (ids_append (map request_of ds) before ∙ ap (λ l. l ++ ids before) (ids_map ds)))
    (distinct_append (ids_of ds) (ids before) once new.distinct (all_swap (λ (x y : ℕ). nat_eq x y ≡ false) (ids_of ds) (ids before) (absent_apart ds before new.absent)))

-- ---- classes

module _ (k : Keeping) (before : List Request) (r : Request) where
  pub same_class : (q : Request) → request_under r.id (map request_of k.dones ++ before) ≡ Some q → q.call ≡ r.call → first_that_fits (request_tests (known_of k before) (Some r)) ≡ Some (Same r.id)
  same_class q found same = rw (same_by r q (map request_of k.dones ++ before) found same)

  pub reused_class : (q : Request) → IsDistinct nat_eq (ids (map request_of k.dones ++ before)) → request_under r.id (map request_of k.dones ++ before) ≡ Some q → ¬ (q.call ≡ r.call)
      → first_that_fits (request_tests (known_of k before) (Some r)) ≡ Some (Refused Reused)
  reused_class q once found other = rw (other_by r q (map request_of k.dones ++ before) once found other, known_by r q (map request_of k.dones ++ before) found)

  pub old_class : request_under r.id (map request_of k.dones ++ before) ≡ None → is_up_to k.floor r.id ≡ true → first_that_fits (request_tests (known_of k before) (Some r)) ≡ Some (Refused Old)
  old_class none old =
      let unknown = unknown_by r (map request_of k.dones ++ before) none in
      rw (none_same r (map request_of k.dones ++ before) unknown, unknown, old)

  full_or_new : (b : Bool) → nat_le most_kept (length (map request_of k.dones ++ before)) ≡ b → is_up_to k.floor r.id ≡ false → request_under r.id (map request_of k.dones ++ before) ≡ None
      → first_that_fits (request_tests (known_of k before) (Some r)) ≡ cond b (Some (Refused Full)) (Some (New r))
  full_or_new b full unold none =
      let unknown = unknown_by r (map request_of k.dones ++ before) none in
      rw (none_same r (map request_of k.dones ++ before) unknown, unknown, unold, full)

  count : length (map request_of k.dones ++ before) ≡ length k.dones + length before
  count = omega (arith, length-append (map request_of k.dones) before, length-map k.dones request_of)

  pub full_class : request_under r.id (map request_of k.dones ++ before) ≡ None → is_up_to k.floor r.id ≡ false → most_kept ≤ length k.dones + length before
      → first_that_fits (request_tests (known_of k before) (Some r)) ≡ Some (Refused Full)
  full_class none unold many =
      let at_least : most_kept ≤ length (map request_of k.dones ++ before) = omega (arith, count) in
      let full : nat_le most_kept (length (map request_of k.dones ++ before)) ≡ true = grind (arith, nat_tests) in
      full_or_new true full unold none

  pub new_class : request_under r.id (map request_of k.dones ++ before) ≡ None → is_up_to k.floor r.id ≡ false → length k.dones + length before < most_kept
      → first_that_fits (request_tests (known_of k before) (Some r)) ≡ Some (New r)
  new_class none unold few =
      let below : length (map request_of k.dones ++ before) < most_kept = omega (arith, count) in
      let room : nat_le most_kept (length (map request_of k.dones ++ before)) ≡ false = grind (arith, nat_tests) in
      full_or_new false room unold none
