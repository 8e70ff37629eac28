-- How room is made for Dones of an epoch.
use Rattle.std.proofs.Common.{◌≡◌, ℕ, ◌+◌, ◌<◌, ◌≤◌, Bool, true, false, cond, not, List, [], ◌∷◌, ◌++◌, nat_eq, nat_lt, None, Some, slice_get, refl, sym, ap, ◌∙◌, arith, subst}
use Rattle.std.specs.List.{filter, AllByRecursion}
use Rattle.std.proofs.lemmas.Option.{same_Some}
use Rattle.coco_types.specs.declared.call.Done.{Done}
use Rattle.coco_ast.specs.History.{ids_of, done_of, kept_of, floor_of, greatest_with}
use Rattle.coco_kept.specs.Holding.{AreUpTo, epochs_of, epoch_count, NeverFall, least_of, behind_least, first_is, MakesPlace}
use Rattle.coco_kept.specs.Keeping.{Keeping}
use Rattle.coco_kept.proofs.Counts.{is_in, count, above, fresh, above_fewer}
use Rattle.coco_kept.proofs.KeepLemmas.{epoch_count-push, kept_all, forgotten_none, kept-room, forgotten-room, kept-full, forgotten-full, first_in, up_to_kept, agree_not}
use Rattle.coco_kept.proofs.Filters.{Agree, filter_same, filter_all, filter_none}

none_some : {X : Type 0} {x : X} → None ≡ Some x → ⊥
none_some h = cc

-- a Done of the epoch
of_epoch : (epoch : ℕ) (d : Done) (ds : List Done) → d.epoch ≡ epoch → AreUpTo epoch ds → AreUpTo d.epoch ds
of_epoch epoch d ds is up = subst (λ n. AreUpTo n ds) (sym is) up

pub place_all : (epoch : ℕ) (k : Keeping) → AreUpTo epoch k.dones → k.keep ≡ None → MakesPlace epoch k k
place_all epoch k up none = record {
  kept = λ d is. sym (ap (λ n. kept_of n (k.dones ++ d ∷ [])) none ∙ kept_all (k.dones ++ d ∷ []));
  floor = λ d is. sym (ap (λ n. floor_of n k.floor (k.dones ++ d ∷ [])) none ∙ ap (λ l. greatest_with k.floor (ids_of l)) (forgotten_none (k.dones ++ d ∷ [])));
  keep = refl;
  room = omega arith;
  some = λ n is. absurd (none_some (sym none ∙ is));
  within = λ n is d same. absurd (none_some (sym none ∙ is));
  absent = λ id h. h;
  up_to = up;
}

same_number : (m n : ℕ) → Some m ≡ Some n → m ≡ n
same_number m n h = cc

pub place_few : (epoch n : ℕ) (k : Keeping) → AreUpTo epoch k.dones → k.keep ≡ Some n → 0 < n → epoch_count k.dones + fresh epoch (epochs_of k.dones) ≤ n → MakesPlace epoch k k
place_few epoch n k up is some few = record {
  kept = λ d same. sym (ap (λ m. kept_of m (k.dones ++ d ∷ [])) is ∙ kept-room n k.dones d some (of_epoch epoch d k.dones same up) (fits d same));
  floor = λ d same. sym (ap (λ m. floor_of m k.floor (k.dones ++ d ∷ [])) is ∙ ap (λ l. greatest_with k.floor (ids_of l)) (forgotten-room n k.dones d some (of_epoch epoch d k.dones same up) (fits d same)));
  keep = refl;
  room = omega arith;
  some = λ m h. omega (arith, some, same_number n m (sym is ∙ h));
  within = λ m h d same. omega (arith, epoch_count-push k.dones d, fits d same, same_number n m (sym is ∙ h));
  absent = λ id h. h;
  up_to = up;
}
  where
    fits : (d : Done) → d.epoch ≡ epoch → epoch_count k.dones + fresh d.epoch (epochs_of k.dones) ≤ n
    fits d same = subst (λ e. epoch_count k.dones + fresh e (epochs_of k.dones) ≤ n) (sym same) few

-- the numbers behind the least one
behind : (m : ℕ) (ds : List Done) → AllByRecursion (λ x. m ≤ x.epoch) ds → epochs_of (filter (λ e. not (nat_eq e.epoch m)) ds) ≡ filter (λ x. nat_lt m x) (epochs_of ds)
behind m [] h = refl
behind m (d ∷ ds) h = by (nat_eq d.epoch m) (nat_lt m d.epoch) (let other : nat_lt m d.epoch ≡ not (nat_eq d.epoch m) = grind arith in other) (behind m ds h.1)
  where
    by : (b c : Bool) → c ≡ not b → epochs_of (filter (λ e. not (nat_eq e.epoch m)) ds) ≡ filter (λ x. nat_lt m x) (epochs_of ds)
        → epochs_of (cond (not b) (d ∷ filter (λ e. not (nat_eq e.epoch m)) ds) (filter (λ e. not (nat_eq e.epoch m)) ds)) ≡ cond c (d.epoch ∷ filter (λ x. nat_lt m x) (epochs_of ds)) (filter (λ x. nat_lt m x) (epochs_of ds))
    by true c e rest = rest ∙ ap (λ b. cond b (d.epoch ∷ filter (λ x. nat_lt m x) (epochs_of ds)) (filter (λ x. nat_lt m x) (epochs_of ds))) (sym e)
    by false c e rest = ap (λ l. d.epoch ∷ l) rest ∙ ap (λ b. cond b (d.epoch ∷ filter (λ x. nat_lt m x) (epochs_of ds)) (filter (λ x. nat_lt m x) (epochs_of ds))) (sym e)

fewer_behind : (ds : List Done) → NeverFall ds → 0 < epoch_count ds → epoch_count (behind_least ds) + 1 ≤ epoch_count ds
fewer_behind [] rising some = absurd (omega arith)
fewer_behind (d ∷ ds) rising some =
    let few : above d.epoch (epochs_of (d ∷ ds)) + 1 ≤ epoch_count (d ∷ ds) = above_fewer d.epoch (epochs_of (d ∷ ds)) (first_in d ds) in
    subst (λ l. count l + 1 ≤ epoch_count (d ∷ ds)) (sym (behind d.epoch (d ∷ ds) (omega arith, rising.0))) few

pub fresh_few : (n : ℕ) (xs : List ℕ) → fresh n xs ≤ 1
fresh_few n xs = by (is_in n xs)
  where
    by : (b : Bool) → cond b 0 1 ≤ 1
    by true = omega arith
    by false = omega arith

some_none : {X : Type 0} {x : X} → Some x ≡ None → ⊥
some_none h = cc

absent_in : (p : Done → Bool) (id : ℕ) (ds : List Done) → done_of id ds ≡ None → done_of id (filter p ds) ≡ None
absent_in p id [] h = refl
absent_in p id (d ∷ ds) h = by (p d) (nat_eq id d.id) refl h (absent_in p id ds)
  where
    by : (b c : Bool) → nat_eq id d.id ≡ c → cond c (Some d) (done_of id ds) ≡ None → (done_of id ds ≡ None → done_of id (filter p ds) ≡ None) → done_of id (cond b (d ∷ filter p ds) (filter p ds)) ≡ None
    by b true e g rest = absurd (some_none g)
    by true false e g rest = ap (λ c. cond c (Some d) (done_of id (filter p ds))) e ∙ rest g
    by false false e g rest = rest g

absent_behind : (id : ℕ) (ds : List Done) → done_of id ds ≡ None → done_of id (behind_least ds) ≡ None
absent_behind id [] h = refl
absent_behind id (d ∷ ds) h = absent_in (λ e. not (nat_eq e.epoch d.epoch)) id (d ∷ ds) h

up_to_behind : (n : ℕ) (ds : List Done) → AreUpTo n ds → AreUpTo n (behind_least ds)
up_to_behind n [] h = tt
up_to_behind n (d ∷ ds) h = up_to_kept n (λ e. not (nat_eq e.epoch d.epoch)) (d ∷ ds) h

pub place_full : (epoch n : ℕ) (old new : Keeping) → AreUpTo epoch old.dones → NeverFall old.dones → old.keep ≡ Some n → 0 < n → epoch_count old.dones ≡ n → fresh epoch (epochs_of old.dones) ≡ 1
    → new.dones ≡ behind_least old.dones → new.floor ≡ greatest_with old.floor (ids_of (least_of old.dones)) → new.keep ≡ old.keep → old.room ≤ new.room → MakesPlace epoch old new
place_full epoch n old new up rising is some full one dones floor keep room = record {
  kept = λ d same. ap (λ l. l ++ d ∷ []) dones ∙ sym (ap (λ m. kept_of m (old.dones ++ d ∷ [])) is ∙ kept-full n old.dones d some (of_epoch epoch d old.dones same up) rising full (new_one d same));
  floor = λ d same. floor ∙ sym (ap (λ m. floor_of m old.floor (old.dones ++ d ∷ [])) is ∙ ap (λ l. greatest_with old.floor (ids_of l)) (forgotten-full n old.dones d some (of_epoch epoch d old.dones same up) rising full (new_one d same)));
  keep = keep;
  room = room;
  some = λ m h. omega (arith, some, same_number n m (sym is ∙ h));
  within = λ m h d same.
      let less : epoch_count new.dones + 1 ≤ n = subst (λ l. epoch_count l + 1 ≤ n) (sym dones) (omega (arith, full, some, fewer_behind old.dones rising (omega (arith, full, some)))) in
      omega (arith, epoch_count-push new.dones d, fresh_few d.epoch (epochs_of new.dones), less, same_number n m (sym is ∙ sym keep ∙ h));
  absent = λ id h. ap (done_of id) dones ∙ absent_behind id old.dones h;
  up_to = subst (AreUpTo epoch) (sym dones) (up_to_behind epoch old.dones up);
}
  where
    new_one : (d : Done) → d.epoch ≡ epoch → fresh d.epoch (epochs_of old.dones) ≡ 1
    new_one d same = ap (λ e. fresh e (epochs_of old.dones)) same ∙ one

-- ---- as Dones of the least epoch go

later_all : (m n : ℕ) (ds : List Done) → m < n → AllByRecursion (λ x. n ≤ x.epoch) ds → Agree (λ d. nat_eq d.epoch m) (λ d. false) ds
later_all m n [] less h = tt
later_all m n (d ∷ ds) less h = ((let up : n ≤ d.epoch = h.0 in grind arith), later_all m n ds less h.1)

later : (m : ℕ) (ds : List Done) → first_is m ds ≡ false → AllByRecursion (λ x. m ≤ x.epoch) ds → NeverFall ds → Agree (λ d. nat_eq d.epoch m) (λ d. false) ds
later m [] first from rising = tt
later m (d ∷ ds) first from rising = (first, later_all m d.epoch ds (let up : m ≤ d.epoch = from.0 in grind arith) rising.0)

pub none_goes : (m : ℕ) (ds : List Done) → first_is m ds ≡ false → AllByRecursion (λ x. m ≤ x.epoch) ds → NeverFall ds → filter (λ d. nat_eq d.epoch m) ds ≡ []
none_goes m ds first from rising = filter_same (λ d. nat_eq d.epoch m) (λ d. false) ds (later m ds first from rising) ∙ filter_none ds

pub all_stay : (m : ℕ) (ds : List Done) → first_is m ds ≡ false → AllByRecursion (λ x. m ≤ x.epoch) ds → NeverFall ds → filter (λ d. not (nat_eq d.epoch m)) ds ≡ ds
all_stay m ds first from rising =
    filter_same (λ d. not (nat_eq d.epoch m)) (λ d. true) ds (agree_not (λ d. nat_eq d.epoch m) (λ d. false) ds (later m ds first from rising)) ∙ filter_all ds

pub behind_first : (d : Done) (ds : List Done) → slice_get ds 0 ≡ Some d → behind_least ds ≡ filter (λ e. not (nat_eq e.epoch d.epoch)) ds
behind_first d [] h = absurd (none_some h)
behind_first d (x ∷ xs) h = ap (λ (y : Done). filter (λ e. not (nat_eq e.epoch y.epoch)) (x ∷ xs)) (same_Some x d h)

pub least_first : (d : Done) (ds : List Done) → slice_get ds 0 ≡ Some d → least_of ds ≡ filter (λ e. nat_eq e.epoch d.epoch) ds
least_first d [] h = absurd (none_some h)
least_first d (x ∷ xs) h = ap (λ (y : Done). filter (λ e. nat_eq e.epoch y.epoch) (x ∷ xs)) (same_Some x d h)

pub first_least : (d : Done) (ds : List Done) → slice_get ds 0 ≡ Some d → NeverFall ds → AllByRecursion (λ x. d.epoch ≤ x.epoch) ds
first_least d [] h rising = tt
first_least d (x ∷ xs) h rising = subst (λ (y : Done). AllByRecursion (λ z. y.epoch ≤ z.epoch) (x ∷ xs)) (same_Some x d h) (omega arith, rising.0)
