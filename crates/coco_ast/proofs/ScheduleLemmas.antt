-- An epoch on the schedule: its Dones are in the order of commit, at times of their own kinds.
use Rattle.std.proofs.Common.{◌≡◌, refl, sym, ap, ◌∙◌, subst, inl, inr, ◌⊎◌, lt-ltb, ℕ, suc, ◌+◌, ◌<◌, ◌≤◌, Bool, true, false, not, nat_eq, List, [], ◌∷◌, ◌++◌, map, arith, filter, IsPermutation}
use Rattle.std.specs.List.{AllByRecursion, IsDistinct}
use Rattle.std.specs.List.Sorted.{IsNonDecreasingBy}
use Rattle.std.proofs.lemmas.Bool.Decides.{nat_tests}
use Rattle.std.proofs.lemmas.List.{map-append}
use Rattle.std.proofs.lemmas.List.Elements.{recursion_from_All, filter_passes}
use Rattle.std.proofs.lemmas.List.Sorted.{IsPermutation-trans, IsPermutation-append_left, IsPermutation-filter_both, IsPermutation-map, IsNonDecreasingBy-drop, All-permutation}
use Rattle.std.specs.Cmp.{nat_eq_equiv}
use Rattle.std.proofs.lemmas.Map.Keys.{IsDistinct-IsPermutation}
use Rattle.coco_types.specs.declared.call.Done.{Done}
use Rattle.coco_types.specs.declared.call.Request.{Request}
use Rattle.coco_ast.specs.GrowthLaws.{IsGrowth}
use Rattle.coco_ast.specs.History.{AreTimed, Epoch, History, IsBefore, IsRising, is_timed, request_of}
use Rattle.coco_ast.specs.Schedule.{IsCommitOrder, IsNext, Timed, at_start, is_snapshot, numbered, timed_of}
use Rattle.coco_ast.proofs.Lists.{all_append, all_both, all_from_map, all_weaker, distinct_left}

-- ---- the requests, in another order

abbrev asked : List Timed → List Request
asked ts = map (λ t. t.1) ts

asked_of_dones : (ds : List Done) → asked (map timed_of ds) ≡ map request_of ds
asked_of_dones [] = refl
asked_of_dones (d ∷ ds) = ap (λ l. request_of d ∷ l) (asked_of_dones ds)

asked_at_start : (rs : List Request) → asked (at_start rs) ≡ rs
asked_at_start [] = refl
asked_at_start (r ∷ rs) = ap (λ l. r ∷ l) (asked_at_start rs)

asked_numbered : (n : ℕ) (rs : List Request) → asked (numbered n rs) ≡ rs
asked_numbered n [] = refl
asked_numbered n (r ∷ rs) = ap (λ l. r ∷ l) (asked_numbered (n + 1) rs)

abbrev others : List Request → List Request
others requests = filter (λ r. not (is_snapshot r)) requests

module _ (requests : List Request) (ds : List Done) (order : IsCommitOrder requests (map timed_of ds)) where
  requests_are : map request_of ds ≡ order.snapshots ++ others requests
  requests_are =
      sym (asked_of_dones ds) ∙ ap asked order.is ∙ map-append (λ (t : Timed). t.1) (at_start order.snapshots) (numbered 1 (others requests))
      ∙ ap (λ l. l ++ asked (numbered 1 (others requests))) (asked_at_start order.snapshots) ∙ ap (λ l. order.snapshots ++ l) (asked_numbered 1 (others requests))

  moved : IsPermutation requests (map request_of ds)
  moved =
      let parts = IsPermutation-filter_both is_snapshot (λ r. not (is_snapshot r)) (λ _. refl) requests in
      let sorted = IsPermutation-append_left (others requests) (filter is_snapshot requests) order.snapshots order.same in
      subst (λ l. IsPermutation requests l) (sym requests_are) (IsPermutation-trans _ _ _ parts sorted)

-- ---- by time, then by id

abbrev Earlier : Timed → Timed → Type 0
Earlier s t = (s.0 < t.0) ⊎ (s.0 ≡ t.0) × (s.1.id < t.1.id)

abbrev InOrder : List Timed → Type 0
InOrder [] = Unit {0}
InOrder (t ∷ ts) = AllByRecursion (λ u. Earlier t u) ts × InOrder ts

-- numbers that don't fall and are distinct rise
above : (m n : ℕ) → m ≤ n → nat_eq m n ≡ false → m < n
above m n low apart = grind (arith, nat_tests)

rest_above : (r : Request) (rs : List Request) → IsNonDecreasingBy (λ (q : Request). q.id) (r ∷ rs) → AllByRecursion (λ q. r.id ≤ q.id) rs
rest_above r rs by_id = recursion_from_All (λ (q : Request). r.id ≤ q.id) rs (λ k d below. by_id 0 (suc k) d (omega arith) (omega arith))

start_later : (r : Request) (rs : List Request) → AllByRecursion (λ q. r.id < q.id) rs → AllByRecursion (λ u. Earlier (0, r) u) (at_start rs)
start_later r [] all = tt
start_later r (q ∷ rs) all = (inr (refl, all.0), start_later r rs all.1)

start_in_order : (rs : List Request) → IsNonDecreasingBy (λ (r : Request). r.id) rs → IsDistinct nat_eq (map (λ r. r.id) rs) → InOrder (at_start rs)
unfolding IsDistinct
start_in_order [] by_id once = tt
start_in_order (r ∷ rs) by_id once =
    let apart : AllByRecursion (λ (q : Request). nat_eq r.id q.id ≡ false) rs = all_from_map (λ (q : Request). q.id) (λ id. nat_eq r.id id ≡ false) rs once.0 in (
      start_later r rs (all_both (λ q. r.id ≤ q.id) (λ q. nat_eq r.id q.id ≡ false) (λ q. r.id < q.id) (λ q. above r.id q.id) rs (rest_above r rs by_id) apart),
      start_in_order rs (IsNonDecreasingBy-drop (λ (q : Request). q.id) 1 (r ∷ rs) by_id) once.1,
    )

numbered_later : (m n : ℕ) (rs : List Request) → m < n → AllByRecursion (λ t. m < t.0) (numbered n rs)
numbered_later m n [] below = tt
numbered_later m n (r ∷ rs) below = (below, numbered_later m (n + 1) rs (omega arith))

numbered_in_order : (n : ℕ) (rs : List Request) → InOrder (numbered n rs)
numbered_in_order n [] = tt
numbered_in_order n (r ∷ rs) = (
  all_weaker (λ t. n < t.0) (λ u. Earlier (n, r) u) (λ t below. inl below) (numbered (n + 1) rs) (numbered_later n (n + 1) rs (omega arith)),
  numbered_in_order (n + 1) rs,
)

start_then : (rs : List Request) (ts : List Timed) → InOrder (at_start rs) → InOrder ts → AllByRecursion (λ t. 0 < t.0) ts → InOrder (at_start rs ++ ts)
start_then [] ts first then_rest late = then_rest
start_then (r ∷ rs) ts first then_rest late = (
  all_append (λ u. Earlier (0, r) u) (at_start rs) ts first.0 (all_weaker (λ t. 0 < t.0) (λ u. Earlier (0, r) u) (λ t l. inl l) ts late),
  start_then rs ts first.1 then_rest late,
)

-- ---- times of their kinds

abbrev IsTimed : Timed → Type 0
IsTimed t = is_timed t.1.call.snapshot t.0 ≡ true

start_timed : (rs : List Request) → AllByRecursion (λ r. is_snapshot r ≡ true) rs → AllByRecursion IsTimed (at_start rs)
start_timed [] all = tt
start_timed (r ∷ rs) all = (ap (λ b. is_timed b 0) all.0, start_timed rs all.1)

late_timed : (b : Bool) (n : ℕ) → 0 < n → not b ≡ true → is_timed b n ≡ true
late_timed true n late is = let e : false ≡ true = is in cc
late_timed false n late is = lt-ltb 0 n late

numbered_timed : (n : ℕ) (rs : List Request) → 0 < n → AllByRecursion (λ r. not (is_snapshot r) ≡ true) rs → AllByRecursion IsTimed (numbered n rs)
numbered_timed n [] late all = tt
numbered_timed n (r ∷ rs) late all = (late_timed r.call.snapshot n late all.0, numbered_timed (n + 1) rs (omega arith) all.1)

-- ---- an epoch's Dones

module _ (requests : List Request) (ds : List Done) (order : IsCommitOrder requests (map timed_of ds)) where
  times : AreTimed ds
  times =
      let first = All-permutation (λ (r : Request). is_snapshot r ≡ true) _ _ order.same (filter_passes is_snapshot requests) in
      let second = filter_passes (λ r. not (is_snapshot r)) requests in
      let all : AllByRecursion IsTimed (at_start order.snapshots ++ numbered 1 (others requests)) =
      all_append IsTimed _ _ (start_timed order.snapshots (recursion_from_All _ _ first)) (numbered_timed 1 (others requests) (omega arith) (recursion_from_All _ _ second)) in
      all_from_map timed_of IsTimed ds (subst (AllByRecursion IsTimed) (sym order.is) all)

  in_order : IsDistinct nat_eq (map (λ r. r.id) requests) → InOrder (map timed_of ds)
  in_order once =
      let whole = IsDistinct-IsPermutation nat_eq nat_eq_equiv.symm _ _ (IsPermutation-map (λ (r : Request). r.id) _ _ (subst (λ l. IsPermutation requests l) (requests_are requests ds order) (moved requests ds order))) once in
      let first = distinct_left (map (λ r. r.id) order.snapshots) (map (λ r. r.id) (others requests))
      (subst (IsDistinct nat_eq) (map-append (λ (r : Request). r.id) order.snapshots (others requests)) whole) in
      subst InOrder (sym order.is)
      (start_then order.snapshots _ (start_in_order order.snapshots order.by_id first) (numbered_in_order 1 (others requests)) (numbered_later 0 1 (others requests) (omega arith)))

before_rest : (n : ℕ) (d : Done) (ds : List Done) → d.epoch ≡ n → AllByRecursion (λ e. e.epoch ≡ n) ds → AllByRecursion (λ u. Earlier (timed_of d) u) (map timed_of ds) → AllByRecursion (λ e. IsBefore d e) ds
before_rest n d [] here all earlier = tt
before_rest n d (e ∷ ds) here all earlier = (inr (here ∙ sym all.0, earlier.0), before_rest n d ds here all.1 earlier.1)

rising : (n : ℕ) (ds : List Done) → AllByRecursion (λ d. d.epoch ≡ n) ds → InOrder (map timed_of ds) → IsRising ds
rising n [] all order = tt
rising n (d ∷ ds) all order = (before_rest n d ds all.0 all.1 order.0, rising n ds all.1 order.1)

pub scheduled : (h : History) (requests : List Request) (e : Epoch) → IsNext h requests e → AllByRecursion (λ d. d.epoch ≡ e.number) e.dones → IsDistinct nat_eq (map (λ r. r.id) requests) → IsGrowth h requests e
scheduled h requests e next numbers once = record {
  greater = let n = next.number in omega (arith, n);
  epoch = record { each = moved requests e.dones next.order; numbered = numbers; rising = rising e.number e.dones numbers (in_order requests e.dones next.order once) };
  times = times requests e.dones next.order;
}
