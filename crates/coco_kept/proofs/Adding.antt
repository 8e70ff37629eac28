-- Dones that are added to the kept ones.
use Rattle.std.proofs.Common.{◌≡◌, ℕ, ◌+◌, ◌≤◌, Bool, true, false, cond, nat_eq, List, [], ◌∷◌, ◌++◌, append-nil, append_assoc, filter, length, Option, None, Some, refl, sym, ap, ◌∙◌, subst, arith}
use Rattle.std.specs.List.{AllByRecursion, IsDistinct}
use Rattle.std.proofs.lemmas.Bool.Decides.{nat_tests}
use Rattle.coco_types.specs.declared.call.Done.{Done}
use Rattle.coco_ast.specs.History.{done_of, floor_of, is_held, kept_of}
use Rattle.coco_ast.proofs.Lists.{all_from_map, all_map, all_right}
use Rattle.coco_kept.specs.Holding.{MayFollow, NeverFall}
use Rattle.coco_kept.specs.Keeping.{HasDistinctIds, HoldsKept, Keeping, newest_epoch}

-- ---- what holds of Dones holds of some of them

all_filter : (P : Done → Type 0) (p : Done → Bool) (xs ys : List Done) → AllByRecursion P (xs ++ ys) → AllByRecursion P (filter p xs ++ ys)
all_filter P p [] ys all = all
all_filter P p (x ∷ xs) ys all = elim (p x) as (λ b. AllByRecursion P (cond b (x ∷ filter p xs) (filter p xs) ++ ys)) [
  | true ↦ (all.0, all_filter P p xs ys all.1)
  | false ↦ all_filter P p xs ys all.1
]

pub never_fall-filter : (p : Done → Bool) (xs ys : List Done) → NeverFall (xs ++ ys) → NeverFall (filter p xs ++ ys)
never_fall-filter p [] ys rising = rising
never_fall-filter p (x ∷ xs) ys rising = elim (p x) as (λ b. NeverFall (cond b (x ∷ filter p xs) (filter p xs) ++ ys)) [
  | true ↦ (all_filter (λ e. x.epoch ≤ e.epoch) p xs ys rising.0, never_fall-filter p xs ys rising.1)
  | false ↦ never_fall-filter p xs ys rising.1
]

parted : (x : Done) (xs : List Done) → HasDistinctIds (x ∷ xs) → AllByRecursion (λ (d : Done). nat_eq x.id d.id ≡ false) xs × HasDistinctIds xs
unfolding IsDistinct
parted x xs once = (all_from_map (λ (d : Done). d.id) (λ y. nat_eq x.id y ≡ false) xs once.0, once.1)

joined : (x : Done) (xs : List Done) → AllByRecursion (λ (d : Done). nat_eq x.id d.id ≡ false) xs → HasDistinctIds xs → HasDistinctIds (x ∷ xs)
unfolding IsDistinct
joined x xs apart once = (all_map (λ (d : Done). d.id) (λ y. nat_eq x.id y ≡ false) xs apart, once)

pub once-filter : (p : Done → Bool) (xs ys : List Done) → HasDistinctIds (xs ++ ys) → HasDistinctIds (filter p xs ++ ys)
once-filter p [] ys once = once
once-filter p (x ∷ xs) ys once = (
    let parts = parted x (xs ++ ys) once in
    elim (p x) as (λ b. HasDistinctIds (cond b (x ∷ filter p xs) (filter p xs) ++ ys)) [
      | true ↦ joined x (filter p xs ++ ys) (all_filter (λ (d : Done). nat_eq x.id d.id ≡ false) p xs ys parts.0) (once-filter p xs ys parts.1)
      | false ↦ once-filter p xs ys parts.1
    ])

-- ---- one Done more

turned : (a b : ℕ) → nat_eq a b ≡ false → nat_eq b a ≡ false
turned a b apart = grind (arith, nat_tests)

pub new_in : (xs ys : List Done) (d : Done) → HasDistinctIds (xs ++ d ∷ ys) → done_of d.id xs ≡ None
new_in [] ys d once = refl
new_in (x ∷ xs) ys d once = (
    let parts = parted x (xs ++ d ∷ ys) once in
    ap (λ (b : Bool). cond b (Some x) (done_of d.id xs)) (turned x.id d.id (all_right (λ (e : Done). nat_eq x.id e.id ≡ false) xs (d ∷ ys) parts.0).0) ∙ new_in xs ys d parts.1)

pub newest_in : (xs ys : List Done) (d : Done) → NeverFall (xs ++ d ∷ ys) → newest_epoch xs ≤ d.epoch
newest_in [] ys d rising = omega arith
newest_in (x ∷ xs) ys d rising = omega (arith, (all_right (λ (e : Done). x.epoch ≤ e.epoch) xs (d ∷ ys) rising.0).0, newest_in xs ys d rising.1)

follows_on : (k now : Keeping) (d : Done) (rest : List Done) → now.dones ≡ kept_of k.keep (k.dones ++ d ∷ []) → MayFollow k (d ∷ rest) → MayFollow now rest
follows_on k now d rest are may = record {
  once = subst (λ (ds : List Done). HasDistinctIds (ds ++ rest)) (sym are) (once-filter (is_held k.keep (k.dones ++ d ∷ [])) (k.dones ++ d ∷ []) rest (subst HasDistinctIds (sym (append_assoc k.dones (d ∷ []) rest)) may.once));
  rising = subst (λ (ds : List Done). NeverFall (ds ++ rest)) (sym are) (never_fall-filter (is_held k.keep (k.dones ++ d ∷ [])) (k.dones ++ d ∷ []) rest (subst NeverFall (sym (append_assoc k.dones (d ∷ []) rest)) may.rising));
}

-- ---- room for more changes nothing else

pub may_in_room : (k now : Keeping) (room : ℕ) (dones : List Done) → now ≡ record k { room = room } → MayFollow k dones → MayFollow now dones
may_in_room k now room dones same may = subst (λ (x : Keeping). MayFollow x dones) (sym same) (record { once = may.once; rising = may.rising })

pub hold_in_room : (k now : Keeping) (room : ℕ) (before : Option ℕ) (added : List Done) → now ≡ record k { room = room } → HoldsKept k before added → HoldsKept now before added
hold_in_room k now room before added same holds = subst (λ (x : Keeping). HoldsKept x before added) (sym same) (record { kept = holds.kept; floor = holds.floor })

-- ---- Dones of which some have come

-- some of the Dones have come, and these are still to be added
pub record Adding (first : Keeping) (all : List Done) (k : Keeping) (rest : List Done) : Type 0 where
  pub may : MayFollow k rest
  pub room : length rest ≤ k.room
  pub keep : k.keep ≡ first.keep
  pub come : List Done
  pub split : come ++ rest ≡ all
  pub holds : (before : Option ℕ) (added : List Done) → HoldsKept first before added → NeverFall (added ++ all) → HoldsKept k before (added ++ come)

pub adding_begins : (first k : Keeping) (all : List Done) → MayFollow first all → k.dones ≡ first.dones → k.floor ≡ first.floor → k.keep ≡ first.keep → length all ≤ k.room → Adding first all k all
adding_begins first k all may dones floor keep room = record {
  may = record { once = subst (λ (ds : List Done). HasDistinctIds (ds ++ all)) (sym dones) may.once; rising = subst (λ (ds : List Done). NeverFall (ds ++ all)) (sym dones) may.rising };
  room = room;
  keep = keep;
  come = [];
  split = refl;
  holds = λ before added h _. subst (HoldsKept k before) (sym (append-nil added)) (record {
    kept = dones ∙ h.kept ∙ ap (λ (n : Option ℕ). kept_of n added) (sym keep);
    floor = floor ∙ h.floor ∙ ap (λ (n : Option ℕ). floor_of n before added) (sym keep);
  });
}

pub adding_goes_on : (first k now : Keeping) (all rest : List Done) (d : Done) → Adding first all k (d ∷ rest) → now.dones ≡ kept_of k.keep (k.dones ++ d ∷ []) → now.keep ≡ k.keep → k.room ≤ now.room + 1
    → ((before : Option ℕ) (added : List Done) → HoldsKept k before added → newest_epoch added ≤ d.epoch → HoldsKept now before (added ++ d ∷ [])) → Adding first all now rest
adding_goes_on first k now all rest d so dones keep room kept = record {
  may = follows_on k now d rest dones so.may;
  room = (let some = so.room in omega (arith, some, room));
  keep = keep ∙ so.keep;
  come = so.come ++ d ∷ [];
  split = append_assoc so.come (d ∷ []) rest ∙ so.split;
  holds = λ before added h rising.
      subst (HoldsKept now before) (append_assoc added so.come (d ∷ []))
      (kept before (added ++ so.come) (so.holds before added h rising)
      (newest_in (added ++ so.come) rest d (subst NeverFall (ap (λ (ds : List Done). added ++ ds) (sym so.split) ∙ sym (append_assoc added so.come (d ∷ rest))) rising)));
}

pub no_more : (rest : List Done) → length rest ≡ 0 → rest ≡ []
no_more [] none = refl
no_more (d ∷ rest) none = absurd (omega arith)

pub adding_ends : (first k : Keeping) (all rest : List Done) → rest ≡ [] → Adding first all k rest → (before : Option ℕ) (added : List Done) → HoldsKept first before added → NeverFall (added ++ all) → HoldsKept k before (added ++ all)
adding_ends first k all rest none so before added h rising =
    subst (λ (ds : List Done). HoldsKept k before (added ++ ds)) (sym (append-nil so.come) ∙ ap (λ (ds : List Done). so.come ++ ds) (sym none) ∙ so.split) (so.holds before added h rising)
