-- The kept Dones, before and after those of one epoch more.
use Rattle.std.proofs.Common.{◌≡◌, ℕ, suc, ◌+◌, ◌<◌, ◌≤◌, Bool, true, false, cond, nat_eq, List, [], ◌∷◌, ◌++◌, filter, length, map, Option, None, IsPermutation, refl, sym, ap, ◌∙◌, subst, arith}
use Rattle.std.specs.List.{AllByRecursion, IsDistinct}
use Rattle.std.specs.Cmp.{nat_eq_equiv}
use Rattle.std.proofs.lemmas.List.{map-append}
use Rattle.std.proofs.lemmas.List.Elements.{All-from_recursion, recursion_from_All}
use Rattle.std.proofs.lemmas.List.Sorted.{All-permutation, IsPermutation-map, length_permutation}
use Rattle.std.proofs.lemmas.Map.Keys.{IsDistinct-IsPermutation}
use Rattle.coco_recover.proofs.Few.{filter_keeps}
use Rattle.coco_types.specs.declared.call.Done.{Done}
use Rattle.coco_types.specs.declared.call.Request.{Request}
use Rattle.coco_ast.specs.Growth.{IsEpochOf}
use Rattle.coco_ast.specs.History.{done_of, floor_of, ids_of, is_held, kept_of, request_of}
use Rattle.coco_ast.proofs.GrowthLemmas.{no_ids}
use Rattle.coco_ast.proofs.KeptLemmas.{floor_behind, kept_behind}
use Rattle.coco_ast.proofs.Lists.{all_append, all_from_map, all_map, all_swap, all_weaker, distinct_append}
use Rattle.coco_kept.specs.Holding.{MayFollow, NeverFall}
use Rattle.coco_kept.specs.Keeping.{HasDistinctIds, HoldsKept, Keeping}
use Rattle.coco_cluster.specs.Standing.{KeepsBelow}

-- ---- what holds of Dones holds of some of them

never_fall-filter : (p : Done → Bool) (xs : List Done) → NeverFall xs → NeverFall (filter p xs)
never_fall-filter p [] rising = tt
never_fall-filter p (x ∷ xs) rising = elim (p x) as (λ b. NeverFall (cond b (x ∷ filter p xs) (filter p xs))) [
  | true ↦ (filter_keeps (λ e. x.epoch ≤ e.epoch) p xs rising.0, never_fall-filter p xs rising.1)
  | false ↦ never_fall-filter p xs rising.1
]

parted : (x : Done) (xs : List Done) → HasDistinctIds (x ∷ xs) → AllByRecursion (λ (d : Done). nat_eq x.id d.id ≡ false) xs × HasDistinctIds xs
unfolding IsDistinct
parted x xs once = (all_from_map (λ (d : Done). d.id) (λ y. nat_eq x.id y ≡ false) xs once.0, once.1)

joined : (x : Done) (xs : List Done) → AllByRecursion (λ (d : Done). nat_eq x.id d.id ≡ false) xs → HasDistinctIds xs → HasDistinctIds (x ∷ xs)
unfolding IsDistinct
joined x xs apart once = (all_map (λ (d : Done). d.id) (λ y. nat_eq x.id y ≡ false) xs apart, once)

once-filter : (p : Done → Bool) (xs : List Done) → HasDistinctIds xs → HasDistinctIds (filter p xs)
once-filter p [] once = once
once-filter p (x ∷ xs) once = (
    let parts = parted x xs once in
    elim (p x) as (λ b. HasDistinctIds (cond b (x ∷ filter p xs) (filter p xs))) [
      | true ↦ joined x (filter p xs) (filter_keeps (λ (d : Done). nat_eq x.id d.id ≡ false) p xs parts.0) (once-filter p xs parts.1)
      | false ↦ once-filter p xs parts.1
    ])

-- ---- an epoch behind lower ones

not_below : (n m : ℕ) (ds : List Done) → m < n → AllByRecursion (λ (d : Done). d.epoch ≡ n) ds → AllByRecursion (λ (d : Done). m ≤ d.epoch) ds
not_below n m ds less all = all_weaker (λ (d : Done). d.epoch ≡ n) (λ (d : Done). m ≤ d.epoch) (λ d is. omega (arith, is, less)) ds all

one_epoch_never_falls : (n : ℕ) (ds : List Done) → AllByRecursion (λ (d : Done). d.epoch ≡ n) ds → NeverFall ds
one_epoch_never_falls n [] all = tt
one_epoch_never_falls n (d ∷ ds) all = (
  all_weaker (λ (e : Done). e.epoch ≡ n) (λ (e : Done). d.epoch ≤ e.epoch) (λ e is. (let here = all.0 in omega (arith, is, here))) ds all.1,
  one_epoch_never_falls n ds all.1,
)

never_fall-append : (n : ℕ) (xs ys : List Done) → NeverFall xs → AllByRecursion (λ (d : Done). d.epoch < n) xs → AllByRecursion (λ (d : Done). d.epoch ≡ n) ys → NeverFall (xs ++ ys)
never_fall-append n [] ys rising below all = one_epoch_never_falls n ys all
never_fall-append n (x ∷ xs) ys rising below all =
    (all_append (λ (e : Done). x.epoch ≤ e.epoch) xs ys rising.0 (not_below n x.epoch ys below.0 all), never_fall-append n xs ys rising.1 below.1 all)

-- ---- the Dones of new requests

module _ (requests : List Request) (epoch : ℕ) (dones : List Done) (is_epoch : IsEpochOf requests (record { number = epoch; dones = dones })) (distinct : IsDistinct nat_eq (map (λ (r : Request). r.id) requests)) where
  -- there are as many as requests
  pub as_many : length dones ≡ length requests
  as_many = sym (length-map dones) ∙ length_permutation requests (map request_of dones) is_epoch.each
    where
      length-map : (ds : List Done) → length (map request_of ds) ≡ length ds
      length-map [] = refl
      length-map (d ∷ ds) = ap suc (length-map ds)

  ids_moved : IsPermutation (map (λ (r : Request). r.id) requests) (ids_of dones)
  ids_moved = subst (λ l. IsPermutation (map (λ (r : Request). r.id) requests) l) (same_ids dones) (IsPermutation-map (λ (r : Request). r.id) _ _ is_epoch.each)
    where
      same_ids : (ds : List Done) → map (λ (r : Request). r.id) (map request_of ds) ≡ ids_of ds
      same_ids [] = refl
      same_ids (d ∷ ds) = ap (λ l. d.id ∷ l) (same_ids ds)

  module _ (k : Keeping) (keeps : KeepsBelow k epoch) where
    apart : AllByRecursion (λ (r : Request). done_of r.id k.dones ≡ None) requests → AllByRecursion (λ x. AllByRecursion (λ y. nat_eq x y ≡ false) (ids_of dones)) (ids_of k.dones)
    apart unkept =
        let new : AllByRecursion (λ id. done_of id k.dones ≡ None) (ids_of dones) =
        recursion_from_All _ (ids_of dones) (All-permutation (λ id. done_of id k.dones ≡ None) _ _ ids_moved (All-from_recursion _ _ (all_map (λ (r : Request). r.id) (λ id. done_of id k.dones ≡ None) requests unkept))) in
        all_swap (λ (x y : ℕ). nat_eq x y ≡ false) (ids_of k.dones) (ids_of dones)
        (all_weaker (λ id. done_of id k.dones ≡ None) (λ id. AllByRecursion (λ x. nat_eq x id ≡ false) (ids_of k.dones)) (λ id none. no_ids id k.dones none) (ids_of dones) new)

    rising : NeverFall (keeps.added ++ dones)
    rising = never_fall-append epoch keeps.added dones keeps.rising keeps.below is_epoch.numbered

    kept_below : AllByRecursion (λ (d : Done). d.epoch < epoch) k.dones
    kept_below = subst (AllByRecursion (λ (d : Done). d.epoch < epoch)) (sym keeps.holds.kept) (filter_keeps (λ (d : Done). d.epoch < epoch) (is_held k.keep keeps.added) keeps.added keeps.below)

    kept_rise : NeverFall k.dones
    kept_rise = subst NeverFall (sym keeps.holds.kept) (never_fall-filter (is_held k.keep keeps.added) keeps.added keeps.rising)

    -- they may be added to the kept ones
    pub may_follow : AllByRecursion (λ (r : Request). done_of r.id k.dones ≡ None) requests → MayFollow k dones
    may_follow unkept = record {
      once = subst (IsDistinct nat_eq) (sym (map-append (λ (d : Done). d.id) k.dones dones))
          (distinct_append (ids_of k.dones) (ids_of dones) keeps.once (IsDistinct-IsPermutation nat_eq nat_eq_equiv.symm _ _ ids_moved distinct) (apart unkept));
      rising = never_fall-append epoch k.dones dones kept_rise kept_below is_epoch.numbered;
    }

    module _ (now : Keeping) (keep : now.keep ≡ k.keep) (more : (before : Option ℕ) (added : List Done) → HoldsKept k before added → NeverFall (added ++ dones) → HoldsKept now before (added ++ dones)) where
      holds : HoldsKept now keeps.before (keeps.added ++ dones)
      holds = more keeps.before keeps.added keeps.holds rising

      -- what is kept then, and the floor, follow from what was kept
      pub kept_now : now.dones ≡ kept_of k.keep (k.dones ++ dones)
      kept_now = holds.kept ∙ ap (λ n. kept_of n (keeps.added ++ dones)) keep ∙ kept_behind k.keep keeps.added dones ∙ ap (λ ds. kept_of k.keep (ds ++ dones)) (sym keeps.holds.kept)

      pub floor_now : now.floor ≡ floor_of k.keep k.floor (k.dones ++ dones)
      floor_now =
          holds.floor ∙ ap (λ n. floor_of n keeps.before (keeps.added ++ dones)) keep ∙ floor_behind k.keep keeps.before keeps.added dones
          ∙ ap (λ f. floor_of k.keep f (kept_of k.keep keeps.added ++ dones)) (sym keeps.holds.floor) ∙ ap (λ ds. floor_of k.keep k.floor (ds ++ dones)) (sym keeps.holds.kept)

      pub keeps_on : AllByRecursion (λ (r : Request). done_of r.id k.dones ≡ None) requests → KeepsBelow now (epoch + 1)
      keeps_on unkept = record {
        before = keeps.before;
        added = keeps.added ++ dones;
        holds = holds;
        rising = rising;
        below = all_append (λ (d : Done). d.epoch < epoch + 1) keeps.added dones (all_weaker (λ (d : Done). d.epoch < epoch) _ (λ d less. omega (arith, less)) keeps.added keeps.below)
            (all_weaker (λ (d : Done). d.epoch ≡ epoch) _ (λ d is. omega (arith, is)) dones is_epoch.numbered);
        once = subst HasDistinctIds (sym kept_now) (once-filter (is_held k.keep (k.dones ++ dones)) (k.dones ++ dones) (may_follow unkept).once);
      }

-- room that was made changes nothing else
pub same_kept : (k now : Keeping) (n : ℕ) → now.dones ≡ k.dones → now.floor ≡ k.floor → now.keep ≡ k.keep → KeepsBelow k n → KeepsBelow now n
same_kept k now n dones floor keep keeps = record {
  before = keeps.before;
  added = keeps.added;
  holds = record {
    kept = dones ∙ keeps.holds.kept ∙ ap (λ m. kept_of m keeps.added) (sym keep);
    floor = floor ∙ keeps.holds.floor ∙ ap (λ m. floor_of m keeps.before keeps.added) (sym keep);
  };
  rising = keeps.rising;
  below = keeps.below;
  once = subst HasDistinctIds (sym dones) keeps.once;
}
