-- Which Dones are kept, and the floor, behind further ones: both follow from what was kept and the floor before.
use Rattle.std.proofs.Common.{◌≡◌, refl, sym, ap, ◌∙◌, ℕ, zero, suc, ◌+◌, ◌<◌, ◌≤◌, max, Bool, true, false, not, cond, ◌||◌, ◌&&◌, nat_eq, nat_lt, List, [], ◌∷◌, ◌++◌, map, Option, None, Some, arith, filter, ⊎_elim}
use Rattle.std.specs.Cmp.{nat_eq_equiv}
use Rattle.std.specs.List.{AllByRecursion, IsDistinct}
use Rattle.std.specs.Set.{distinct_count, unique_keys, is_member}
use Rattle.std.proofs.lemmas.Bool.{cases_lt, and_parts}
use Rattle.std.proofs.lemmas.Bool.Decides.{nat_tests}
use Rattle.std.proofs.lemmas.List.{map-append}
use Rattle.std.proofs.lemmas.List.Elements.{filter-append}
use Rattle.std.proofs.lemmas.List.Folds.{list_any-append}
use Rattle.std.proofs.lemmas.Map.Made.{length-le_from_is_member, is_member-filter}
use Rattle.coco_types.specs.declared.call.Done.{Done}
use Rattle.coco_ast.specs.GrowthLaws.{Follows, KeepsAll}
use Rattle.coco_ast.specs.History.{Base, Epoch, History, all_dones, epoch_dones, floor_of, greatest_with, ids_of, is_held, kept_of}
use Rattle.coco_ast.specs.Tree.{Procedures}
use Rattle.coco_ast.proofs.GrowthLemmas.{dones_behind, last_push, rows_behind, stays_serial}
use Rattle.coco_ast.proofs.Lists.{filter_all, filter_none}

-- ---- how many different numbers

abbrev Has : List ℕ → ℕ → Type 0
Has xs q = is_member nat_eq xs q ≡ true

same_number : (m n : ℕ) → nat_eq m n ≡ true → m ≡ n
same_number m n h = grind (arith, nat_tests)

unique_has : (xs : List ℕ) (q : ℕ) → is_member nat_eq (unique_keys nat_eq xs) q ≡ is_member nat_eq xs q
unique_has [] q = refl
unique_has (x ∷ xs) q =
    elim (is_member nat_eq xs x) as (λ b. is_member nat_eq xs x ≡ b → is_member nat_eq (cond b (unique_keys nat_eq xs) (x ∷ unique_keys nat_eq xs)) q ≡ (nat_eq q x || is_member nat_eq xs q)) [
      | true ↦ λ m. unique_has xs q ∙ already (nat_eq q x) refl m
      | false ↦ λ m. ap (λ c. nat_eq q x || c) (unique_has xs q)
    ] refl
  where
    already : (b : Bool) → nat_eq q x ≡ b → is_member nat_eq xs x ≡ true → is_member nat_eq xs q ≡ (b || is_member nat_eq xs q)
    already true e m = ap (is_member nat_eq xs) (same_number q x e) ∙ m
    already false e m = refl

absent_apart : (x : ℕ) (ys : List ℕ) → is_member nat_eq ys x ≡ false → AllByRecursion (λ y. nat_eq x y ≡ false) ys
absent_apart x [] h = tt
absent_apart x (y ∷ ys) h =
    elim (nat_eq x y) as (λ b. b || is_member nat_eq ys x ≡ false → (b ≡ false) × AllByRecursion (λ z. nat_eq x z ≡ false) ys) [
      | true ↦ λ e. (e, absent_apart x ys (let f : true ≡ false = e in cc))
      | false ↦ λ e. (refl, absent_apart x ys e)
    ] h

unique_distinct : (xs : List ℕ) → IsDistinct nat_eq (unique_keys nat_eq xs)
unfolding IsDistinct
unique_distinct [] = tt
unique_distinct (x ∷ xs) =
    elim (is_member nat_eq xs x) as (λ b. is_member nat_eq xs x ≡ b → IsDistinct nat_eq (cond b (unique_keys nat_eq xs) (x ∷ unique_keys nat_eq xs))) [
      | true ↦ λ m. unique_distinct xs
      | false ↦ λ m. (absent_apart x (unique_keys nat_eq xs) (unique_has xs x ∙ m), unique_distinct xs)
    ] refl

-- a list without other numbers has no more of them
fewer : (xs ys : List ℕ) → ((q : ℕ) → Has xs q → Has ys q) → distinct_count nat_eq xs ≤ distinct_count nat_eq ys
fewer xs ys h = length-le_from_is_member nat_eq_equiv (unique_keys nat_eq xs) (unique_keys nat_eq ys) (unique_distinct xs) (λ q m. unique_has ys q ∙ h q (sym (unique_has xs q) ∙ m))

has_filter : (p : ℕ → Bool) (xs : List ℕ) (q : ℕ) → is_member nat_eq (filter p xs) q ≡ is_member nat_eq xs q && p q
has_filter p xs q = is_member-filter nat_eq_equiv p q (λ x e. ap p (same_number q x e)) xs

both : (b c : Bool) → b ≡ true → c ≡ true → b && c ≡ true
both true c e f = f
both false c e f = let h : false ≡ true = e in cc

-- ---- numbers above one, and how many there are

abbrev above : ℕ → List ℕ → List ℕ
above n xs = filter (λ m. nat_lt n m) xs

abbrev count : ℕ → List ℕ → ℕ
count n xs = distinct_count nat_eq (above n xs)

-- those above n, of a list without other numbers above n
fewer_above : (n : ℕ) (xs ys : List ℕ) → ((q : ℕ) → n < q → Has xs q → Has ys q) → count n xs ≤ count n ys
fewer_above n xs ys h = fewer (above n xs) (above n ys) (λ q has.
    let parts = and_parts _ _ (sym (has_filter (λ m. nat_lt n m) xs q) ∙ has) in
    has_filter (λ m. nat_lt n m) ys q ∙ both _ _ (h q (is_above n q parts.1) parts.0) parts.1)
  where
    is_above : (n q : ℕ) → nat_lt n q ≡ true → n < q
    is_above n q e = grind (arith, nat_tests)

higher_fewer : (m n : ℕ) (xs : List ℕ) → m ≤ n → count n xs ≤ count m xs
higher_fewer m n xs le = fewer (above n xs) (above m xs) (λ q has.
    let parts = and_parts _ _ (sym (has_filter (λ k. nat_lt n k) xs q) ∙ has) in
    has_filter (λ k. nat_lt m k) xs q ∙ both _ _ parts.0 (lower m n q le parts.1))
  where
    lower : (m n q : ℕ) → m ≤ n → nat_lt n q ≡ true → nat_lt m q ≡ true
    lower m n q le e = grind (arith, nat_tests)

has_left : (xs ys : List ℕ) (q : ℕ) → Has xs q → Has (xs ++ ys) q
has_left xs ys q has = list_any-append (nat_eq q) xs ys ∙ ap (λ b. b || is_member nat_eq ys q) has

-- of a list that has what another has, both with further numbers
has_with : (xs zs ys : List ℕ) (q : ℕ) → (Has xs q → Has zs q) → Has (xs ++ ys) q → Has (zs ++ ys) q
has_with xs zs ys q h has =
    list_any-append (nat_eq q) zs ys ∙ either (is_member nat_eq xs q) (is_member nat_eq zs q) (is_member nat_eq ys q) h (sym (list_any-append (nat_eq q) xs ys) ∙ has)
  where
    either : (b c d : Bool) → (b ≡ true → c ≡ true) → b || d ≡ true → c || d ≡ true
    either true c d h e = ap (λ x. x || d) (h refl)
    either false true d h e = refl
    either false false d h e = e

abbrev bound : List ℕ → ℕ
bound [] = 0
bound (x ∷ xs) = max x (bound xs)

bounded : (xs : List ℕ) (q : ℕ) → Has xs q → q ≤ bound xs
bounded [] q has = let e : false ≡ true = has in cc
bounded (x ∷ xs) q has =
    elim (nat_eq q x) as (λ b. nat_eq q x ≡ b → b || is_member nat_eq xs q ≡ true → q ≤ max x (bound xs)) [
      | true ↦ λ e h. (let s = same_number q x e in omega (arith, s))
      | false ↦ λ e h. (let r = bounded xs q h in omega (arith, r))
    ] refl has

lt_true : (a k : ℕ) → a < k → nat_lt a k ≡ true
lt_true a k h = grind (arith, nat_tests)

le_false : (a k : ℕ) → k ≤ a → nat_lt a k ≡ false
le_false a k h = grind (arith, nat_tests)

lt_from : (a k : ℕ) → nat_lt a k ≡ true → a < k
lt_from a k h = grind (arith, nat_tests)

same_lt : (a b k : ℕ) → (a < k → b < k) → (k ≤ a → k ≤ b) → nat_lt a k ≡ nat_lt b k
same_lt a b k low high = ⊎_elim (λ less. lt_true a k less ∙ sym (lt_true b k (low less))) (λ le. le_false a k le ∙ sym (le_false b k (high le))) (cases_lt a k)

-- ---- the numbers of which few are above

module _ (k : ℕ) (xs : List ℕ) where
  abbrev few : ℕ → Bool
  few n = nat_lt (count n xs) k

  -- all numbers above n stay, where few are
  above_stay : (n : ℕ) → count n xs < k → (q : ℕ) → n < q → Has xs q → Has (filter few xs) q
  above_stay n less q higher has =
      has_filter few xs q ∙ both _ _ has (lt_true (count q xs) k (let h = higher_fewer n q xs (omega arith) in omega (arith, h, less)))

  -- where k or more are above n, k or more of those that stay are, too; no number is above n + f
  enough : (f n : ℕ) → ((q : ℕ) → Has xs q → q ≤ n + f) → k ≤ count n xs → k ≤ count n (filter few xs)
  enough zero n most many =
      let none = fewer_above n xs [] (λ q higher has. let le = most q has in absurd (omega (arith, le, higher))) in
      omega (arith, none, many)
  enough (suc f) n most many =
      ⊎_elim (λ less.
      let h = fewer_above n xs (filter few xs) (λ q higher has. has_filter few xs q ∙ both _ _ has (lt_true (count q xs) k (let g = higher_fewer (n + 1) q xs (omega arith) in omega (arith, g, less)))) in
      omega (arith, h, many))
      (λ le.
      let rest = enough f (n + 1) (λ q has. let m = most q has in omega (arith, m)) le in
      let h = higher_fewer n (n + 1) (filter few xs) (omega arith) in
      omega (arith, rest, h)) (cases_lt (count (n + 1) xs) k)

  -- with further numbers, few are above a number exactly where few are without those that don't stay
  further : (ys : List ℕ) (n : ℕ) → nat_lt (count n (xs ++ ys)) k ≡ nat_lt (count n (filter few xs ++ ys)) k
  further ys n =
      let down = fewer_above n (filter few xs ++ ys) (xs ++ ys) (λ q _ has. has_with (filter few xs) xs ys q (λ h. (and_parts _ _ (sym (has_filter few xs q) ∙ h)).0) has) in
      ⊎_elim (λ less.
      let up = fewer_above n (xs ++ ys) (filter few xs ++ ys) (λ q higher has. has_with xs (filter few xs) ys q (above_stay n less q higher) has) in
      same_lt _ _ k (λ h. omega (arith, down, h)) (λ h. omega (arith, up, h)))
      (λ le.
      let stay = enough (bound xs) n (λ q has. let h = bounded xs q has in omega (arith, h)) le in
      let more = fewer_above n (filter few xs) (filter few xs ++ ys) (λ q _ has. has_left (filter few xs) ys q has) in
      same_lt _ _ k (λ h. omega (arith, down, h)) (λ h. omega (arith, stay, more))) (cases_lt (count n xs) k)

  -- few above a number among more of them are few among these
  few_before : (ys : List ℕ) (n : ℕ) → nat_lt (count n (xs ++ ys)) k ≡ true → few n ≡ true
  few_before ys n less = lt_true (count n xs) k (let h = fewer_above n xs (xs ++ ys) (λ q _ has. has_left xs ys q has) in let l = lt_from (count n (xs ++ ys)) k less in omega (arith, h, l))

-- ---- filters

module _ {X : Type 0} where
  filter_same : (p q : X → Bool) → ((x : X) → p x ≡ q x) → (xs : List X) → filter p xs ≡ filter q xs
  filter_same p q h [] = refl
  filter_same p q h (x ∷ xs) = ap (λ b. cond b (x ∷ filter p xs) (filter p xs)) (h x) ∙ ap (λ l. cond (q x) (x ∷ l) l) (filter_same p q h xs)

  -- what passes one test passes the other
  filter_stronger : (p q : X → Bool) → ((x : X) → p x ≡ true → q x ≡ true) → (xs : List X) → filter p (filter q xs) ≡ filter p xs
  filter_stronger p q h [] = refl
  filter_stronger p q h (x ∷ xs) =
      elim (q x) as (λ b. q x ≡ b → filter p (cond b (x ∷ filter q xs) (filter q xs)) ≡ filter p (x ∷ xs)) [
        | true ↦ λ e. ap (λ l. cond (p x) (x ∷ l) l) (filter_stronger p q h xs)
        | false ↦ λ e. filter_stronger p q h xs ∙ sym (ap (λ b. cond b (x ∷ filter p xs) (filter p xs)) (fails (p x) refl e))
      ] refl
    where
      fails : (b : Bool) → p x ≡ b → q x ≡ false → b ≡ false
      fails true passes e = let f : true ≡ false = sym (h x passes) ∙ e in cc
      fails false passes e = refl

abbrev epoch_numbers : List Done → List ℕ
epoch_numbers ds = map (λ d. d.epoch) ds

numbers_filter : (g : ℕ → Bool) (ds : List Done) → epoch_numbers (filter (λ d. g d.epoch) ds) ≡ filter g (epoch_numbers ds)
numbers_filter g [] = refl
numbers_filter g (d ∷ ds) =
    elim (g d.epoch) as (λ b. epoch_numbers (cond b (d ∷ filter (λ d. g d.epoch) ds) (filter (λ d. g d.epoch) ds)) ≡ cond b (d.epoch ∷ filter g (epoch_numbers ds)) (filter g (epoch_numbers ds))) [
      | true ↦ ap (λ l. d.epoch ∷ l) (numbers_filter g ds)
      | false ↦ numbers_filter g ds
    ]

-- ---- kept

module _ (k : ℕ) (before new : List Done) where
  abbrev held : Done → Bool
  held = is_held (Some k) before

  abbrev held_then : Done → Bool
  held_then = is_held (Some k) (before ++ new)

  abbrev held_of_kept : Done → Bool
  held_of_kept = is_held (Some k) (filter held before ++ new)

  held_alike : (d : Done) → held_then d ≡ held_of_kept d
  held_alike d =
      ap (λ l. nat_lt (count d.epoch l) k) (map-append (λ (d : Done). d.epoch) before new)
      ∙ further k (epoch_numbers before) (epoch_numbers new) d.epoch
      ∙ sym (ap (λ l. nat_lt (count d.epoch l) k) (map-append (λ (d : Done). d.epoch) (filter held before) new
      ∙ ap (λ l. l ++ epoch_numbers new) (numbers_filter (few k (epoch_numbers before)) before)))

  held_before : (d : Done) → held_then d ≡ true → held d ≡ true
  held_before d h = few_before k (epoch_numbers before) (epoch_numbers new) d.epoch (sym (ap (λ l. nat_lt (count d.epoch l) k) (map-append (λ (d : Done). d.epoch) before new)) ∙ h)

  kept_some : kept_of (Some k) (before ++ new) ≡ kept_of (Some k) (kept_of (Some k) before ++ new)
  kept_some =
      filter-append held_then before new ∙ ap (λ l. l ++ filter held_then new) (sym (filter_stronger held_then held held_before before))
      ∙ sym (filter-append held_then (filter held before) new) ∙ filter_same held_then held_of_kept held_alike (filter held before ++ new)

pub kept_behind : (keep : Option ℕ) (before new : List Done) → kept_of keep (before ++ new) ≡ kept_of keep (kept_of keep before ++ new)
kept_behind None before new = ap (λ l. kept_of None (l ++ new)) (sym (filter_all (is_held None before) (λ _. refl) before))
kept_behind (Some k) before new = kept_some k before new

-- ---- the floor

abbrev greater_of : Option ℕ → ℕ → Option ℕ
greater_of None x = Some x
greater_of (Some n) x = Some (max n x)

greatest_cons : (f : Option ℕ) (x : ℕ) (xs : List ℕ) → greatest_with f (x ∷ xs) ≡ greatest_with (greater_of f x) xs
greatest_cons None x xs = refl
greatest_cons (Some n) x xs = refl

greatest_append : (f : Option ℕ) (xs ys : List ℕ) → greatest_with f (xs ++ ys) ≡ greatest_with (greatest_with f xs) ys
greatest_append f [] ys = refl
greatest_append f (x ∷ xs) ys = greatest_cons f x (xs ++ ys) ∙ greatest_append (greater_of f x) xs ys ∙ ap (λ o. greatest_with o ys) (sym (greatest_cons f x xs))

greater_swap : (f : Option ℕ) (x y : ℕ) → greater_of (greater_of f x) y ≡ greater_of (greater_of f y) x
greater_swap None x y = ap (λ n. Some n) (let e : max x y ≡ max y x = omega arith in e)
greater_swap (Some n) x y = ap (λ n. Some n) (let e : max (max n x) y ≡ max (max n y) x = omega arith in e)

greatest_swap : (f : Option ℕ) (xs : List ℕ) (x : ℕ) → greater_of (greatest_with f xs) x ≡ greatest_with (greater_of f x) xs
greatest_swap f [] x = refl
greatest_swap f (y ∷ ys) x =
    ap (λ o. greater_of o x) (greatest_cons f y ys) ∙ greatest_swap (greater_of f y) ys x ∙ ap (λ o. greatest_with o ys) (greater_swap f y x) ∙ sym (greatest_cons (greater_of f x) y ys)

-- the ids of those that fail
abbrev failing : (Done → Bool) → List Done → List ℕ
failing p ds = ids_of (filter (λ d. not (p d)) ds)

failing_append : (p : Done → Bool) (xs ys : List Done) → failing p (xs ++ ys) ≡ failing p xs ++ failing p ys
failing_append p xs ys = ap ids_of (filter-append (λ d. not (p d)) xs ys) ∙ map-append (λ (d : Done). d.id) (filter (λ d. not (p d)) xs) (filter (λ d. not (p d)) ys)

module _ (p q : Done → Bool) (stronger : (d : Done) → p d ≡ true → q d ≡ true) where
  abbrev InParts : Option ℕ → List Done → Type 0
  InParts f ds = greatest_with f (failing p ds) ≡ greatest_with (greatest_with f (failing q ds)) (failing p (filter q ds))

  abbrev with_one : Bool → Done → List Done → List Done
  with_one b d ds = cond b (d ∷ ds) ds

  one_more_part : (f : Option ℕ) (d : Done) (ds : List Done) → ((o : Option ℕ) → InParts o ds) → (b c : Bool) → q d ≡ b → p d ≡ c
      → greatest_with f (ids_of (with_one (not c) d (filter (λ d. not (p d)) ds)))
      ≡ greatest_with (greatest_with f (ids_of (with_one (not b) d (filter (λ d. not (q d)) ds)))) (failing p (with_one b d (filter q ds)))
  one_more_part f d ds parts false true e g = let x : true ≡ false = sym (stronger d g) ∙ e in cc
  one_more_part f d ds parts false false e g =
      greatest_cons f d.id (failing p ds) ∙ parts (greater_of f d.id) ∙ ap (λ o. greatest_with o (failing p (filter q ds))) (sym (greatest_cons f d.id (failing q ds)))
  one_more_part f d ds parts true true e g =
      parts f ∙ ap (λ b. greatest_with (greatest_with f (failing q ds)) (ids_of (with_one (not b) d (filter (λ d. not (p d)) (filter q ds))))) (sym g)
  one_more_part f d ds parts true false e g =
      greatest_cons f d.id (failing p ds) ∙ parts (greater_of f d.id) ∙ ap (λ o. greatest_with o (failing p (filter q ds))) (sym (greatest_swap f (failing q ds) d.id))
      ∙ sym (greatest_cons (greatest_with f (failing q ds)) d.id (failing p (filter q ds)))
      ∙ ap (λ b. greatest_with (greatest_with f (failing q ds)) (ids_of (with_one (not b) d (filter (λ d. not (p d)) (filter q ds))))) (sym g)

  -- the greatest of those that fail the stronger test: of those that fail the weaker one, and of the others
  in_parts : (ds : List Done) (f : Option ℕ) → InParts f ds
  in_parts [] f = refl
  in_parts (d ∷ ds) f = one_more_part f d ds (in_parts ds) (q d) (p d) refl refl

floor_some : (k : ℕ) (f : Option ℕ) (before new : List Done) → floor_of (Some k) f (before ++ new) ≡ floor_of (Some k) (floor_of (Some k) f before) (kept_of (Some k) before ++ new)
floor_some k f before new =
    let was = held k before new in
    let now = held_then k before new in
    let stay = filter was before in
    ap (greatest_with f) (failing_append now before new) ∙ greatest_append f (failing now before) (failing now new)
    ∙ ap (λ o. greatest_with o (failing now new)) (in_parts now was (held_before k before new) before f)
    ∙ sym (greatest_append (greatest_with f (failing was before)) (failing now stay) (failing now new))
    ∙ ap (greatest_with (greatest_with f (failing was before))) (sym (failing_append now stay new))
    ∙ ap (λ l. greatest_with (greatest_with f (failing was before)) (ids_of l)) (filter_same (λ d. not (now d)) (λ d. not (held_of_kept k before new d)) (λ d. ap not (held_alike k before new d)) (stay ++ new))

nothing_gone : (f : Option ℕ) (ds : List Done) → floor_of None f ds ≡ f
nothing_gone f ds = ap (λ l. greatest_with f (ids_of l)) (filter_none (λ d. not (is_held None ds d)) (λ _. refl) ds)

pub floor_behind : (keep f : Option ℕ) (before new : List Done) → floor_of keep f (before ++ new) ≡ floor_of keep (floor_of keep f before) (kept_of keep before ++ new)
floor_behind None f before new = nothing_gone f (before ++ new) ∙ sym (nothing_gone (floor_of None f before) (kept_of None before ++ new) ∙ nothing_gone f before)
floor_behind (Some k) f before new = floor_some k f before new

-- ---- of histories

pub follows : (ps : Procedures) (h : History) (e : Epoch) → Follows ps h e
follows ps h e = record {
  dones = dones_behind h e;
  last = last_push h.base.epoch h.epochs e;
  held = ap (kept_of h.keep) (dones_behind h e) ∙ kept_behind h.keep (all_dones h) e.dones;
  forgotten = ap (floor_of h.keep h.base.floor) (dones_behind h e) ∙ floor_behind h.keep h.base.floor (all_dones h) e.dones;
  rows = rows_behind ps h e;
  serial = stays_serial ps h e;
}

all_held : (keep : Option ℕ) (ds : List Done) → keep ≡ None → kept_of keep ds ≡ ds
all_held None ds none = filter_all (is_held None ds) (λ _. refl) ds
all_held (Some k) ds none = let e : Some k ≡ None = none in cc

pub keeps_all : (h : History) → h.keep ≡ None → KeepsAll h
keeps_all h none =
    let held = all_held h.keep (all_dones h) none in
    let gone = ap (λ k. floor_of k h.base.floor (all_dones h)) none ∙ nothing_gone h.base.floor (all_dones h) in
    record {
      held = held;
      forgotten = gone;
      held_from_nothing = λ base. held ∙ ap (λ (b : Base). b.kept ++ epoch_dones h) base;
      forgotten_from_nothing = λ base. gone ∙ ap (λ (b : Base). b.floor) base;
    }
