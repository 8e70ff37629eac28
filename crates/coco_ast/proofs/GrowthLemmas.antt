-- A history and one more epoch: its Dones, its order, its replies.
use Rattle.std.proofs.Common.{◌≡◌, refl, sym, ap, ◌∙◌, subst, inl, append-nil, append_assoc, ℕ, ◌<◌, ◌≤◌, max, Bool, true, false, not, cond, nat_eq, List, [], ◌∷◌, ◌++◌, map, Option, None, Some, arith, filter, IsPermutation}
use Rattle.std.specs.List.{AllByRecursion, IsDistinct}
use Rattle.std.specs.Cmp.{nat_eq_equiv}
use Rattle.std.specs.Option.{option_or}
use Rattle.std.proofs.lemmas.Bool.Decides.{nat_tests}
use Rattle.std.proofs.lemmas.List.{map-append}
use Rattle.std.proofs.lemmas.List.Elements.{All-from_recursion, recursion_from_All}
use Rattle.std.proofs.lemmas.List.Folds.{find-append}
use Rattle.std.proofs.lemmas.List.Sorted.{IsPermutation-map, IsPermutation-sym, All-permutation}
use Rattle.std.proofs.lemmas.Map.Keys.{IsDistinct-IsPermutation}
use Rattle.coco_types.specs.declared.call.Done.{Done}
use Rattle.coco_types.specs.declared.call.Request.{Request}
use Rattle.coco_ast.specs.Growth.{AreNew, GrowsBy, IsEpochOf}
use Rattle.coco_ast.specs.GrowthLaws.{IsAnswered, Keeps, NewHaveNoDone}
use Rattle.coco_ast.specs.History.{Epoch, History, AreAbove, AreTimed, HaveTheirNumbers, IsBefore, IsOrdered, IsPrefixOf, IsRising, IsSerial, RepliesAreRuns, RisesAbove, all_dones, done_of, dones_in, epoch_dones, floor, forgotten_of, followed_by, greatest_with, ids_of, is_held, is_timed, kept, last_epoch, last_number, map_of, request_of, rows_after}
use Rattle.coco_ast.specs.Keyed.{Rows}
use Rattle.coco_ast.specs.Meaning.{run}
use Rattle.coco_ast.specs.Tree.{Procedures}
use Rattle.coco_ast.proofs.Lists.{all_append, all_both, all_right, all_weaker, all_from_map, all_map, all_swap, distinct_append}

-- ---- Dones

pub dones_in-push : (es : List Epoch) (e : Epoch) → dones_in (es ++ e ∷ []) ≡ dones_in es ++ e.dones
dones_in-push [] e = append-nil e.dones
dones_in-push (x ∷ es) e = ap (λ l. x.dones ++ l) (dones_in-push es e) ∙ sym (append_assoc x.dones (dones_in es) e.dones)

pub dones_behind : (h : History) (e : Epoch) → all_dones (followed_by h e) ≡ all_dones h ++ e.dones
dones_behind h e = ap (λ l. h.base.kept ++ l) (dones_in-push h.epochs e) ∙ sym (append_assoc h.base.kept (epoch_dones h) e.dones)

pub done_of-append : (id : ℕ) (xs ys : List Done) → done_of id (xs ++ ys) ≡ option_or (done_of id xs) (done_of id ys)
done_of-append id xs ys = find-append (λ d. nat_eq id d.id) xs ys

pub done_stays : (h : History) (e : Epoch) (id : ℕ) (d : Done) → done_of id (all_dones h) ≡ Some d → done_of id (all_dones (followed_by h e)) ≡ Some d
done_stays h e id d found = ap (done_of id) (dones_behind h e) ∙ done_of-append id (all_dones h) e.dones ∙ ap (λ o. option_or o (done_of id e.dones)) found

cond_none : (b : Bool) (d : Done) (o : Option Done) → cond b (Some d) o ≡ None → (b ≡ false) × (o ≡ None)
cond_none true d o none = let e : Some d ≡ None = none in cc
cond_none false d o none = (refl, none)

-- an id without a Done is no Done's
pub no_ids : (id : ℕ) (ds : List Done) → done_of id ds ≡ None → AllByRecursion (λ x. nat_eq x id ≡ false) (ids_of ds)
no_ids id [] none = tt
no_ids id (d ∷ ds) none = let split = cond_none (nat_eq id d.id) d (done_of id ds) none in (nat_eq_equiv.symm d.id id ∙ split.0, no_ids id ds split.1)

-- ---- new ids

above_parts : (f : Option ℕ) (xs ids : List ℕ) → AreAbove (greatest_with f xs) ids → AreAbove f ids × AllByRecursion (λ x. AllByRecursion (λ id. x < id) ids) xs
above_parts f [] ids above = (above, tt)
above_parts None (x ∷ xs) ids above = let rest = above_parts (Some x) xs ids above in (tt, (rest.0, rest.1))
above_parts (Some n) (x ∷ xs) ids above =
    let rest = above_parts (Some (max n x)) xs ids above in (
      all_weaker (λ id. max n x < id) (λ id. n < id) (λ id h. omega (arith, h)) ids rest.0,
      (all_weaker (λ id. max n x < id) (λ id. x < id) (λ id h. omega (arith, h)) ids rest.0, rest.1),
    )

none_here : (b : Bool) (d : Done) (o : Option Done) → b ≡ false → o ≡ None → cond b (Some d) o ≡ None
none_here true d o apart none = let e : true ≡ false = apart in cc
none_here false d o apart none = none

apart_below : (m n : ℕ) → m < n → nat_eq n m ≡ false
apart_below m n below = grind (arith, nat_tests)

-- an id that is neither one of those that pass, nor at most one of the others
none_of_either : (p : Done → Bool) (id : ℕ) (ds : List Done) → done_of id (filter p ds) ≡ None → AllByRecursion (λ x. x < id) (ids_of (filter (λ d. not (p d)) ds)) → done_of id ds ≡ None
none_of_either p id [] none below = refl
none_of_either p id (d ∷ ds) none below =
    elim (p d) as (λ b. done_of id (cond b (d ∷ filter p ds) (filter p ds)) ≡ None
    → AllByRecursion (λ x. x < id) (ids_of (cond (not b) (d ∷ filter (λ d. not (p d)) ds) (filter (λ d. not (p d)) ds))) → done_of id (d ∷ ds) ≡ None) [
      | true ↦ λ n l. let split = cond_none (nat_eq id d.id) d (done_of id (filter p ds)) n in none_here (nat_eq id d.id) d (done_of id ds) split.0 (none_of_either p id ds split.1 l)
      | false ↦ λ n l. none_here (nat_eq id d.id) d (done_of id ds) (apart_below d.id id l.0) (none_of_either p id ds n l.1)
    ] none below

-- new ids have no Done, kept or forgotten
new_absent : (h : History) (ids : List ℕ) → AreAbove (floor h) ids → AllByRecursion (λ id. done_of id (kept h) ≡ None) ids → AllByRecursion (λ id. done_of id (all_dones h) ≡ None) ids
new_absent h ids above unkept =
    let held : Done → Bool = is_held h.keep (all_dones h) in
    let gone : List ℕ = ids_of (filter (λ d. not (held d)) (all_dones h)) in
    let low = all_swap (λ (id x : ℕ). x < id) ids gone (above_parts h.base.floor gone ids above).1 in
    all_both (λ id. done_of id (kept h) ≡ None) (λ id. AllByRecursion (λ x. x < id) gone) (λ id. done_of id (all_dones h) ≡ None)
    (λ id none below. none_of_either held id (all_dones h) none below) ids unkept low

abbrev ids_asked : List Request → List ℕ
ids_asked requests = map (λ r. r.id) requests

new_ids_absent : (h : History) (requests : List Request) → AreNew h requests → AllByRecursion (λ id. done_of id (all_dones h) ≡ None) (ids_asked requests)
new_ids_absent h requests new = new_absent h (ids_asked requests) new.above (all_map (λ (r : Request). r.id) (λ id. done_of id (kept h) ≡ None) requests new.unkept)

pub new_have_no_done : (h : History) (requests : List Request) → NewHaveNoDone h requests
new_have_no_done h requests new = all_from_map (λ (r : Request). r.id) (λ id. done_of id (all_dones h) ≡ None) requests (new_ids_absent h requests new)

-- ---- the Dones of an epoch

ids_of_requests : (ds : List Done) → ids_asked (map request_of ds) ≡ ids_of ds
ids_of_requests [] = refl
ids_of_requests (d ∷ ds) = ap (λ l. d.id ∷ l) (ids_of_requests ds)

moved_ids : (requests : List Request) (ds : List Done) → IsPermutation requests (map request_of ds) → IsPermutation (ids_asked requests) (ids_of ds)
moved_ids requests ds each = subst (λ l. IsPermutation (ids_asked requests) l) (ids_of_requests ds) (IsPermutation-map (λ (r : Request). r.id) _ _ each)

-- what holds of each request's id holds of each Done's
ids_all : (P : ℕ → Type 0) (requests : List Request) (ds : List Done) → IsPermutation requests (map request_of ds) → AllByRecursion P (ids_asked requests) → AllByRecursion P (ids_of ds)
ids_all P requests ds each all = recursion_from_All P _ (All-permutation P _ _ (moved_ids requests ds each) (All-from_recursion P _ all))

-- ---- ordered

last_least : (m : ℕ) (es : List Epoch) → RisesAbove m (map (λ e. e.number) es) → m ≤ last_number m es
last_least m [] rises = omega arith
last_least m (e ∷ es) rises = let h = last_least e.number es rises.1 in let l : m < e.number = rises.0 in omega (arith, h, l)

last_greatest : (m : ℕ) (es : List Epoch) → RisesAbove m (map (λ e. e.number) es) → AllByRecursion (λ e. e.number ≤ last_number m es) es
last_greatest m [] rises = tt
last_greatest m (e ∷ es) rises = (last_least e.number es rises.1, last_greatest e.number es rises.1)

rises_push : (m : ℕ) (es : List Epoch) (e : Epoch) → RisesAbove m (map (λ x. x.number) es) → last_number m es < e.number → RisesAbove m (map (λ x. x.number) (es ++ e ∷ []))
rises_push m [] e rises less = (less, tt)
rises_push m (x ∷ es) e rises less = (rises.0, rises_push x.number es e rises.1 less)

pub last_push : (m : ℕ) (es : List Epoch) (e : Epoch) → last_number m (es ++ e ∷ []) ≡ e.number
last_push m [] e = refl
last_push m (x ∷ es) e = last_push x.number es e

within_epoch : (n m : ℕ) (ds : List Done) → m ≤ n → AllByRecursion (λ d. d.epoch ≡ m) ds → AllByRecursion (λ d. d.epoch ≤ n) ds
within_epoch n m [] low all = tt
within_epoch n m (d ∷ ds) low all = let e : d.epoch ≡ m = all.0 in (omega arith, within_epoch n m ds low all.1)

dones_within : (n : ℕ) (es : List Epoch) → HaveTheirNumbers es → AllByRecursion (λ e. e.number ≤ n) es → AllByRecursion (λ d. d.epoch ≤ n) (dones_in es)
dones_within n [] numbers low = tt
dones_within n (e ∷ es) numbers low = all_append (λ d. d.epoch ≤ n) e.dones (dones_in es) (within_epoch n e.number e.dones low.0 numbers.0) (dones_within n es numbers.1 low.1)

before_epoch : (n m : ℕ) (d : Done) (ds : List Done) → n < m → d.epoch ≤ n → AllByRecursion (λ e. e.epoch ≡ m) ds → AllByRecursion (λ e. IsBefore d e) ds
before_epoch n m d [] less low all = tt
before_epoch n m d (e ∷ ds) less low all = let h : e.epoch ≡ m = all.0 in (inl (omega arith), before_epoch n m d ds less low all.1)

rising_append : (n m : ℕ) (xs ys : List Done) → n < m → IsRising xs → IsRising ys → AllByRecursion (λ d. d.epoch ≤ n) xs → AllByRecursion (λ d. d.epoch ≡ m) ys → IsRising (xs ++ ys)
rising_append n m [] ys less here there low all = there
rising_append n m (x ∷ xs) ys less here there low all =
    (all_append (λ e. IsBefore x e) xs ys here.0 (before_epoch n m x ys less low.0 all), rising_append n m xs ys less here.1 there low.1 all)

above_append : (f : Option ℕ) (xs ys : List ℕ) → AreAbove f xs → AreAbove f ys → AreAbove f (xs ++ ys)
above_append None xs ys here there = tt
above_append (Some n) xs ys here there = all_append (λ id. n < id) xs ys here there

above_moved : (f : Option ℕ) (requests : List Request) (ds : List Done) → IsPermutation requests (map request_of ds) → AreAbove f (ids_asked requests) → AreAbove f (ids_of ds)
above_moved None requests ds each above = tt
above_moved (Some n) requests ds each above = ids_all (λ id. n < id) requests ds each above

ids_apart : (h : History) (requests : List Request) (ds : List Done) → IsPermutation requests (map request_of ds) → AreNew h requests
    → AllByRecursion (λ x. AllByRecursion (λ y. nat_eq x y ≡ false) (ids_of ds)) (ids_of (all_dones h))
ids_apart h requests ds each new =
    all_swap (λ (x y : ℕ). nat_eq x y ≡ false) (ids_of (all_dones h)) (ids_of ds)
    (all_weaker (λ id. done_of id (all_dones h) ≡ None) (λ id. AllByRecursion (λ x. nat_eq x id ≡ false) (ids_of (all_dones h))) (λ id none. no_ids id (all_dones h) none) (ids_of ds)
    (ids_all (λ id. done_of id (all_dones h) ≡ None) requests ds each (new_ids_absent h requests new)))

stays_ordered : (h : History) (requests : List Request) (e : Epoch) → last_epoch h < e.number → IsEpochOf requests e → IsOrdered h → AreNew h requests → IsOrdered (followed_by h e)
stays_ordered h requests e less is ordered new =
    let low = dones_within (last_epoch h) h.epochs ordered.numbered (last_greatest h.base.epoch h.epochs ordered.epochs_rise) in
    let once = IsDistinct-IsPermutation nat_eq nat_eq_equiv.symm _ _ (moved_ids requests e.dones is.each) new.distinct in
    let whole : IsDistinct nat_eq (ids_of (all_dones h) ++ ids_of e.dones) = distinct_append (ids_of (all_dones h)) (ids_of e.dones) ordered.once once (ids_apart h requests e.dones is.each new) in
    let above_base = (above_parts h.base.floor (ids_of (forgotten_of h.keep (all_dones h))) (ids_asked requests) new.above).0 in
    record {
      epochs_rise = rises_push h.base.epoch h.epochs e ordered.epochs_rise less;
      numbered = all_append (λ (x : Epoch). AllByRecursion (λ d. d.epoch ≡ x.number) x.dones) h.epochs (e ∷ []) ordered.numbered (is.numbered, tt);
      rising = subst IsRising (sym (dones_in-push h.epochs e)) (rising_append (last_epoch h) e.number (epoch_dones h) e.dones less ordered.rising is.rising low is.numbered);
      once = subst (λ l. IsDistinct nat_eq l) (sym (ap ids_of (dones_behind h e) ∙ map-append (λ (d : Done). d.id) (all_dones h) e.dones)) whole;
      above_floor = subst (λ l. AreAbove h.base.floor l) (sym (ap ids_of (dones_in-push h.epochs e) ∙ map-append (λ (d : Done). d.id) (epoch_dones h) e.dones))
          (above_append h.base.floor (ids_of (epoch_dones h)) (ids_of e.dones) ordered.above_floor (above_moved h.base.floor requests e.dones is.each above_base));
    }

-- ---- each request has its Done

found_in : (xs : List Done) (d : Done) (ys : List Done) → IsDistinct nat_eq (ids_of (xs ++ d ∷ ys)) → done_of d.id (xs ++ d ∷ ys) ≡ Some d
unfolding IsDistinct
found_in [] d ys once = ap (λ b. cond b (Some d) (done_of d.id ys)) (nat_eq_equiv.refl d.id)
found_in (x ∷ xs) d ys once =
    let apart = all_right (λ (y : Done). nat_eq x.id y.id ≡ false) xs (d ∷ ys) (all_from_map (λ (y : Done). y.id) (λ y. nat_eq x.id y ≡ false) (xs ++ d ∷ ys) once.0) in
    ap (λ b. cond b (Some x) (done_of d.id (xs ++ d ∷ ys))) (nat_eq_equiv.symm d.id x.id ∙ apart.0) ∙ found_in xs d ys once.1

all_found : (xs ds : List Done) → IsDistinct nat_eq (ids_of (xs ++ ds)) → AllByRecursion (λ d. done_of d.id (xs ++ ds) ≡ Some d) ds
all_found xs [] once = tt
all_found xs (d ∷ ds) once =
    let moved : (xs ++ d ∷ []) ++ ds ≡ xs ++ d ∷ ds = append_assoc xs (d ∷ []) ds in
    (found_in xs d ds once, subst (λ l. AllByRecursion (λ e. done_of e.id l ≡ Some e) ds) moved (all_found (xs ++ d ∷ []) ds (subst (λ l. IsDistinct nat_eq (ids_of l)) (sym moved) once)))

all_answered : (h : History) (requests : List Request) (e : Epoch) → IsEpochOf requests e → IsOrdered (followed_by h e) → AllByRecursion (IsAnswered (all_dones (followed_by h e))) requests
all_answered h requests e is ordered =
    let ds = all_dones h ++ e.dones in
    let once : IsDistinct nat_eq (ids_of ds) = subst (λ l. IsDistinct nat_eq (ids_of l)) (dones_behind h e) ordered.once in
    let each : AllByRecursion (λ d. IsAnswered ds (request_of d)) e.dones = all_weaker (λ d. done_of d.id ds ≡ Some d) (λ d. IsAnswered ds (request_of d)) (λ d found. (d, found, refl)) e.dones (all_found (all_dones h) e.dones once) in
    let asked : AllByRecursion (IsAnswered ds) (map request_of e.dones) = all_map request_of (IsAnswered ds) e.dones each in
    subst (λ l. AllByRecursion (IsAnswered l) requests) (sym (dones_behind h e))
    (recursion_from_All (IsAnswered ds) requests (All-permutation (IsAnswered ds) _ _ (IsPermutation-sym _ _ is.each) (All-from_recursion (IsAnswered ds) _ asked)))

-- ---- growth

pub one_more_epoch : (h : History) (e : Epoch) → IsPrefixOf h (followed_by h e)
one_more_epoch h e = (refl, refl, (e ∷ [], refl))

grown_keeps : (h : History) (r : Request) (rs : List Request) (e : Epoch) → last_epoch h < e.number → IsEpochOf (r ∷ rs) e → Keeps h (r ∷ rs) (followed_by h e)
grown_keeps h r rs e less is = record {
  prefix = one_more_epoch h e;
  stays = done_stays h e;
  ordered = stays_ordered h (r ∷ rs) e less is;
  answered = all_answered h (r ∷ rs) e is;
}

nothing_keeps : (h : History) → Keeps h [] h
nothing_keeps h = record { prefix = (refl, refl, ([], sym (append-nil h.epochs))); stays = λ id d found. found; ordered = λ ordered new. ordered; answered = λ ordered. tt }

pub growth_keeps : (h : History) (requests : List Request) (g : History) → GrowsBy h requests g → Keeps h requests g
growth_keeps h [] g same = subst (λ x. Keeps h [] x) (sym same) (nothing_keeps h)
growth_keeps h (r ∷ rs) g grows = subst (λ x. Keeps h (r ∷ rs) x) (sym grows.3) (grown_keeps h r rs grows.0 grows.1 grows.2)

-- ---- serial

pub rows_after-append : (ps : Procedures) (m : Rows) (xs ys : List Done) → rows_after ps m (xs ++ ys) ≡ rows_after ps (rows_after ps m xs) ys
rows_after-append ps m [] ys = refl
rows_after-append ps m (x ∷ xs) ys = rows_after-append ps (run ps x.call m).rows xs ys

replies_append : (ps : Procedures) (m : Rows) (xs ys : List Done) → RepliesAreRuns ps m xs → RepliesAreRuns ps (rows_after ps m xs) ys → RepliesAreRuns ps m (xs ++ ys)
replies_append ps m [] ys here there = there
replies_append ps m (x ∷ xs) ys here there = (here.0, replies_append ps (run ps x.call m).rows xs ys here.1 there)

pub rows_behind : (ps : Procedures) (h : History) (e : Epoch) → map_of ps (followed_by h e) ≡ rows_after ps (map_of ps h) e.dones
rows_behind ps h e = ap (rows_after ps h.base.rows) (dones_in-push h.epochs e) ∙ rows_after-append ps h.base.rows (epoch_dones h) e.dones

pub stays_serial : (ps : Procedures) (h : History) (e : Epoch) → IsSerial ps h → RepliesAreRuns ps (map_of ps h) e.dones → AreTimed e.dones → IsSerial ps (followed_by h e)
stays_serial ps h e serial replies times = record {
  replies = subst (RepliesAreRuns ps h.base.rows) (sym (dones_in-push h.epochs e)) (replies_append ps h.base.rows (epoch_dones h) e.dones serial.replies replies);
  times = subst AreTimed (sym (dones_in-push h.epochs e)) (all_append (λ (d : Done). is_timed d.call.snapshot d.time ≡ true) (epoch_dones h) e.dones serial.times times);
}
