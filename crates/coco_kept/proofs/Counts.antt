-- How many numbers stand in a list, each counted once, and how many of them are above one.
use Rattle.std.proofs.Common.{◌≡◌, ℕ, ◌+◌, ◌<◌, ◌≤◌, Bool, true, false, cond, ◌||◌, List, [], ◌∷◌, ◌++◌, length, nat_eq, nat_lt, refl, sym, ap, ◌∙◌, arith, true≢false, append-nil, subst}
use Rattle.std.specs.Cmp.{unsigned_Decides}
use Rattle.std.specs.List.{filter, AllByRecursion}
use Rattle.std.proofs.lemmas.List.Elements.{filter-append}
use Rattle.std.specs.Set.{distinct_count, unique_keys, is_member}
use Rattle.coco_kept.proofs.Filters.{filter_all, filter_within, Within}

abbrev pub is_in : ℕ → List ℕ → Bool
is_in n xs = is_member nat_eq xs n

abbrev pub count : List ℕ → ℕ
count xs = distinct_count nat_eq xs

abbrev pub above : ℕ → List ℕ → ℕ
above n xs = count (filter (λ m. nat_lt n m) xs)

-- 1 where the number isn't in the list
abbrev pub fresh : ℕ → List ℕ → ℕ
fresh n xs = cond (is_in n xs) 0 1

pub count-cons : (x : ℕ) (xs : List ℕ) → count (x ∷ xs) ≡ count xs + fresh x xs
count-cons x xs = by (is_in x xs)
  where
    by : (b : Bool) → length (cond b (unique_keys nat_eq xs) (x ∷ unique_keys nat_eq xs)) ≡ length (unique_keys nat_eq xs) + cond b 0 1
    by true = omega arith
    by false = omega arith

same_of_eq : (m n : ℕ) → nat_eq m n ≡ true → m ≡ n
same_of_eq m n h = (unsigned_Decides m n).0 h

-- a filter keeps the numbers that it takes
pub is_in-filter : (p : ℕ → Bool) (n : ℕ) (xs : List ℕ) → p n ≡ true → is_in n (filter p xs) ≡ is_in n xs
is_in-filter p n [] h = refl
is_in-filter p n (x ∷ xs) h = by (p x) (nat_eq n x) refl refl (is_in-filter p n xs h)
  where
    by : (b c : Bool) → p x ≡ b → nat_eq n x ≡ c → is_in n (filter p xs) ≡ is_in n xs → is_in n (cond b (x ∷ filter p xs) (filter p xs)) ≡ (c || is_in n xs)
    by true c e f rest = λ i. f i || rest i
    by false true e f rest = absurd (true≢false (sym h ∙ ap p (same_of_eq n x f) ∙ e))
    by false false e f rest = rest

-- what one more number in front makes of a filter's count
count-filter : (p : ℕ → Bool) (x : ℕ) (xs : List ℕ) → count (filter p (x ∷ xs)) ≡ count (filter p xs) + cond (p x) (fresh x xs) 0
count-filter p x xs = by (p x) refl
  where
    by : (b : Bool) → p x ≡ b → count (cond b (x ∷ filter p xs) (filter p xs)) ≡ count (filter p xs) + cond b (fresh x xs) 0
    by true e = count-cons x (filter p xs) ∙ ap (λ b. count (filter p xs) + cond b 0 1) (is_in-filter p x xs e)
    by false e = omega arith

-- a test that takes more counts more
pub count_more : (p q : ℕ → Bool) → ((x : ℕ) → p x ≡ true → q x ≡ true) → (xs : List ℕ) → count (filter p xs) ≤ count (filter q xs)
count_more p q h [] = omega arith
count_more p q h (x ∷ xs) =
    let step : cond (p x) (fresh x xs) 0 ≤ cond (q x) (fresh x xs) 0 = by (p x) (q x) (h x) in
    omega (arith, count_more p q h xs, count-filter p x xs, count-filter q x xs, step)
  where
    by : (b c : Bool) → (b ≡ true → c ≡ true) → cond b (fresh x xs) 0 ≤ cond c (fresh x xs) 0
    by true true g = omega arith
    by true false g = absurd (true≢false (sym (g refl)))
    by false c g = omega arith

above_few : (n : ℕ) (xs : List ℕ) → above n xs ≤ count xs
above_few n xs = subst (λ l. above n xs ≤ count l) (filter_all xs) (count_more (λ m. nat_lt n m) (λ m. true) (λ x h. refl) xs)

not_above_itself : (n : ℕ) → nat_lt n n ≡ false
not_above_itself n = grind arith

-- one of the numbers isn't above itself
pub above_fewer : (n : ℕ) (xs : List ℕ) → is_in n xs ≡ true → above n xs + 1 ≤ count xs
above_fewer n [] h = absurd (true≢false (sym h))
above_fewer n (x ∷ xs) h = by (is_in n xs) (nat_eq n x) refl refl h (above_fewer n xs)
  where
    few : (b : Bool) → cond b (fresh x xs) 0 ≤ fresh x xs
    few true = omega arith
    few false = omega arith

    by : (b c : Bool) → is_in n xs ≡ b → nat_eq n x ≡ c → c || b ≡ true → (b ≡ true → above n xs + 1 ≤ count xs) → above n (x ∷ xs) + 1 ≤ count (x ∷ xs)
    by true c e f g rest = omega (arith, rest refl, count-filter (λ m. nat_lt n m) x xs, count-cons x xs, few (nat_lt n x))
    by false true e f g rest =
        let same : n ≡ x = same_of_eq n x f in
        let none : cond (nat_lt n x) (fresh x xs) 0 ≡ 0 = ap (λ b. cond b (fresh x xs) 0) (ap (nat_lt n) (sym same) ∙ not_above_itself n) in
        let one : fresh x xs ≡ 1 = ap (λ b. cond b 0 1) (ap (λ m. is_in m xs) (sym same) ∙ e) in
        omega (arith, above_few n xs, count-filter (λ m. nat_lt n m) x xs, count-cons x xs, none, one)
    by false false e f g rest = absurd (true≢false (sym g))

-- the numbers above a greater one of them are fewer
pub above_fewer_still : (m n : ℕ) (xs : List ℕ) → m < n → is_in n xs ≡ true → above n xs + 1 ≤ above m xs
above_fewer_still m n xs less h =
    let two : filter (λ x. nat_lt n x) (filter (λ x. nat_lt m x) xs) ≡ filter (λ x. nat_lt n x) xs = filter_within (λ x. nat_lt m x) (λ x. nat_lt n x) xs (within xs) in
    let one : is_in n (filter (λ x. nat_lt m x) xs) ≡ true = is_in-filter (λ x. nat_lt m x) n xs (grind arith) ∙ h in
    subst (λ l. count l + 1 ≤ above m xs) two (above_fewer n (filter (λ x. nat_lt m x) xs) one)
  where
    within : (ys : List ℕ) → Within (λ x. nat_lt m x) (λ x. nat_lt n x) ys
    within [] = tt
    within (y ∷ ys) = (λ e. grind arith, within ys)

pub above_no_more : (m n : ℕ) (xs : List ℕ) → m ≤ n → above n xs ≤ above m xs
above_no_more m n xs le = count_more (λ x. nat_lt n x) (λ x. nat_lt m x) (λ x h. grind arith) xs

-- ---- one more number at the end

either_true : (b : Bool) → (b || true) ≡ true
either_true true = refl
either_true false = refl

either_false : (b : Bool) → (b || false) ≡ b
either_false true = refl
either_false false = refl

is_in-push : (n : ℕ) (xs : List ℕ) (e : ℕ) → is_in n (xs ++ e ∷ []) ≡ (is_in n xs || nat_eq n e)
is_in-push n [] e = either_false (nat_eq n e)
is_in-push n (x ∷ xs) e = by (nat_eq n x) (is_in-push n xs e)
  where
    by : (b : Bool) → is_in n (xs ++ e ∷ []) ≡ (is_in n xs || nat_eq n e) → (b || is_in n (xs ++ e ∷ [])) ≡ ((b || is_in n xs) || nat_eq n e)
    by true h = refl
    by false h = h

eq_swap : (m n : ℕ) → nat_eq m n ≡ nat_eq n m
eq_swap m n = grind arith

-- 0 where a test says yes, and 1 where it says no
abbrev unless : Bool → ℕ
unless b = cond b 0 1

turn : (x e : ℕ) (xs : List ℕ) (b : Bool) → nat_eq x e ≡ b → fresh e xs + unless (is_in x xs || b) ≡ fresh x xs + unless (nat_eq e x || is_in e xs)
turn x e xs true f =
    let left : unless (is_in x xs || true) ≡ 0 = ap unless (either_true (is_in x xs)) in
    let right : unless (nat_eq e x || is_in e xs) ≡ 0 = ap (λ b. unless (b || is_in e xs)) (eq_swap e x ∙ f) in
    let both : fresh x xs ≡ fresh e xs = ap (λ m. fresh m xs) (same_of_eq x e f) in
    omega (arith, left, right, both)
turn x e xs false f =
    let left : unless (is_in x xs || false) ≡ fresh x xs = ap unless (either_false (is_in x xs)) in
    let right : unless (nat_eq e x || is_in e xs) ≡ fresh e xs = ap (λ b. unless (b || is_in e xs)) (eq_swap e x ∙ f) in
    omega (arith, left, right)

pub count-push : (xs : List ℕ) (e : ℕ) → count (xs ++ e ∷ []) ≡ count xs + fresh e xs
count-push [] e = refl
count-push (x ∷ xs) e =
    let turned : fresh e xs + fresh x (xs ++ e ∷ []) ≡ fresh x xs + fresh e (x ∷ xs) = ap (λ b. fresh e xs + unless b) (is_in-push x xs e) ∙ turn x e xs (nat_eq x e) refl in
    omega (arith, count-cons x (xs ++ e ∷ []), count-push xs e, count-cons x xs, turned)

-- with numbers of which none is above the new one, each of them has one more above it, where the new one is fresh
pub above-push : (n e : ℕ) (xs : List ℕ) → is_in n xs ≡ true → n ≤ e → above n (xs ++ e ∷ []) ≡ above n xs + fresh e xs
above-push n e xs h le = ap count (filter-append (λ m. nat_lt n m) xs (e ∷ [])) ∙ by (nat_lt n e) refl
  where
    by : (b : Bool) → nat_lt n e ≡ b → count (filter (λ m. nat_lt n m) xs ++ cond b (e ∷ []) []) ≡ above n xs + fresh e xs
    by true f = count-push (filter (λ m. nat_lt n m) xs) e ∙ ap (λ b. above n xs + cond b 0 1) (is_in-filter (λ m. nat_lt n m) e xs f)
    by false f =
        let same : n ≡ e = grind arith in
        let none : fresh e xs ≡ 0 = ap (λ b. cond b 0 1) (ap (λ m. is_in m xs) (sym same) ∙ h) in
        ap count (append-nil (filter (λ m. nat_lt n m) xs)) ∙ (let plain : above n xs ≡ above n xs + fresh e xs = omega (arith, none) in plain)

-- none is above the greatest
pub above_none : (e : ℕ) (xs : List ℕ) → AllByRecursion (λ x. x ≤ e) xs → above e xs ≡ 0
above_none e xs all = ap count (none xs all)
  where
    none : (ys : List ℕ) → AllByRecursion (λ x. x ≤ e) ys → filter (λ m. nat_lt e m) ys ≡ []
    none [] h = refl
    none (y ∷ ys) h = let not : nat_lt e y ≡ false = grind arith in ap (λ b. cond b (y ∷ filter (λ m. nat_lt e m) ys) (filter (λ m. nat_lt e m) ys)) not ∙ none ys h.1

all_above : (m : ℕ) (ys : List ℕ) → AllByRecursion (λ y. m ≤ y) ys → is_in m ys ≡ false → filter (λ y. nat_lt m y) ys ≡ ys
all_above m [] h none = refl
all_above m (y ∷ ys) h none = by (nat_eq m y) (is_in m ys) refl none (all_above m ys h.1)
  where
    by : (b c : Bool) → nat_eq m y ≡ b → b || c ≡ false → (c ≡ false → filter (λ z. nat_lt m z) ys ≡ ys) → filter (λ z. nat_lt m z) (y ∷ ys) ≡ y ∷ ys
    by true c e g rest = absurd (true≢false g)
    by false true e g rest = absurd (true≢false g)
    by false false e g rest = let yes : nat_lt m y ≡ true = grind arith in λ i. cond (yes i) (y ∷ rest refl i) (filter (λ z. nat_lt m z) ys)

-- all but the least are above it
pub above_least : (m : ℕ) (xs : List ℕ) → AllByRecursion (λ x. m ≤ x) xs → count xs ≤ above m xs + 1
above_least m [] all = omega arith
above_least m (x ∷ xs) all = by (nat_lt m x) (is_in m xs) refl refl (above_least m xs all.1)
  where
    by : (b c : Bool) → nat_lt m x ≡ b → is_in m xs ≡ c → count xs ≤ above m xs + 1 → count (x ∷ xs) ≤ above m (x ∷ xs) + 1
    by true c e f rest =
        let one : cond (nat_lt m x) (fresh x xs) 0 ≡ fresh x xs = ap (λ b. cond b (fresh x xs) 0) e in
        omega (arith, rest, count-cons x xs, count-filter (λ y. nat_lt m y) x xs, one)
    by false true e f rest =
        let same : m ≡ x = grind arith in
        let none : fresh x xs ≡ 0 = ap (λ b. cond b 0 1) (ap (λ y. is_in y xs) (sym same) ∙ f) in
        omega (arith, rest, count-cons x xs, count-filter (λ y. nat_lt m y) x xs, none)
    by false false e f rest =
        let same : m ≡ x = grind arith in
        let one : fresh x xs ≡ 1 = ap (λ b. cond b 0 1) (ap (λ y. is_in y xs) (sym same) ∙ f) in
        let all_of : above m xs ≡ count xs = ap count (all_above m xs all.1 f) in
        omega (arith, rest, count-cons x xs, count-filter (λ y. nat_lt m y) x xs, one, all_of)

pub count_few : (xs : List ℕ) → count xs ≤ length xs
count_few [] = omega arith
count_few (x ∷ xs) = by (is_in x xs) (count-cons x xs) (count_few xs)
  where
    by : (b : Bool) → count (x ∷ xs) ≡ count xs + cond b 0 1 → count xs ≤ length xs → count (x ∷ xs) ≤ length (x ∷ xs)
    by true e rest = omega arith
    by false e rest = omega arith
