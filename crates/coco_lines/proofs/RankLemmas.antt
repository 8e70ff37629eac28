-- Which Dones a history keeps and forgets, by how many epochs stand behind theirs: whatever the numbers of the epochs are.
use Rattle.std.proofs.Common.{◌≡◌, refl, sym, ap, ◌∙◌, subst, append-nil, append_assoc, ℕ, ◌+◌, ◌<◌, ◌≤◌, Bool, true, false, cond, ◌||◌, nat_eq, nat_lt, List, [], ◌∷◌, ◌++◌, length, map, arith, filter, IsPermutation, length-append, add-zero, zero-add, add_assoc}
use Rattle.std.specs.List.{AllByRecursion, list_any}
use Rattle.std.specs.Set.{distinct_count, unique_keys, is_member}
use Rattle.std.proofs.lemmas.Bool.Decides.{nat_tests}
use Rattle.std.proofs.lemmas.List.{map-append}
use Rattle.std.proofs.lemmas.List.Elements.{filter-append}
use Rattle.std.proofs.lemmas.List.Folds.{list_any-append}
use Rattle.std.proofs.lemmas.List.Sorted.{IsPermutation-refl, IsPermutation-trans, IsPermutation-append_left, IsPermutation-append_right}
use Rattle.coco_types.specs.declared.call.Done.{Done}
use Rattle.coco_types.specs.declared.call.Request.{Request}
use Rattle.coco_ast.specs.History.{Epoch, RisesAbove, HaveTheirNumbers, dones_in, epochs_above, request_of}
use Rattle.coco_ast.proofs.Lists.{all_append, all_weaker}

-- ---- different numbers

abbrev AllAre : ℕ → List ℕ → Type 0
AllAre k = AllByRecursion (λ x. x ≡ k)

abbrev AllBelow : ℕ → List ℕ → Type 0
AllBelow k = AllByRecursion (λ x. x < k)

absent : (x k : ℕ) (ys : List ℕ) → x < k → AllAre k ys → is_member nat_eq ys x ≡ false
absent x k [] below all = refl
absent x k (y ∷ ys) below all =
    let is : y ≡ k = all.0 in
    let apart : nat_eq x y ≡ false = grind (arith, nat_tests) in
    rw apart (absent x k ys below all.1)

member_of_both : (x : ℕ) (xs ys : List ℕ) → is_member nat_eq ys x ≡ false → is_member nat_eq (xs ++ ys) x ≡ is_member nat_eq xs x
member_of_both x xs ys none = list_any-append (nat_eq x) xs ys ∙ ap (λ b. list_any (nat_eq x) xs || b) none ∙ or_false (list_any (nat_eq x) xs)
  where
    or_false : (b : Bool) → (b || false) ≡ b
    or_false true = refl
    or_false false = refl

unique_append : (k : ℕ) (xs ys : List ℕ) → AllBelow k xs → AllAre k ys → unique_keys nat_eq (xs ++ ys) ≡ unique_keys nat_eq xs ++ unique_keys nat_eq ys
unique_append k [] ys below all = refl
unique_append k (x ∷ xs) ys below all =
    ap (λ b. cond b (unique_keys nat_eq (xs ++ ys)) (x ∷ unique_keys nat_eq (xs ++ ys))) (member_of_both x xs ys (absent x k ys below.0 all))
    ∙ ap (λ l. cond (is_member nat_eq xs x) l (x ∷ l)) (unique_append k xs ys below.1 all)
    ∙ behind (is_member nat_eq xs x)
  where
    behind : (b : Bool) → cond b (unique_keys nat_eq xs ++ unique_keys nat_eq ys) (x ∷ (unique_keys nat_eq xs ++ unique_keys nat_eq ys)) ≡ cond b (unique_keys nat_eq xs) (x ∷ unique_keys nat_eq xs) ++ unique_keys nat_eq ys
    behind true = refl
    behind false = refl

one_of : (k : ℕ) (x : ℕ) (xs : List ℕ) → AllAre k (x ∷ xs) → distinct_count nat_eq (x ∷ xs) ≡ 1
one_of k x [] all = refl
one_of k x (y ∷ ys) all =
    let first : x ≡ k = all.0 in
    let next : y ≡ k = all.1.0 in
    let same : nat_eq x y ≡ true = grind (arith, nat_tests) in
    rw same (one_of k y ys all.1)

below_filter : (p : ℕ → Bool) (k : ℕ) (xs : List ℕ) → AllBelow k xs → AllBelow k (filter p xs)
below_filter p k [] below = tt
below_filter p k (x ∷ xs) below = by (p x) (below_filter p k xs below.1)
  where
    by : (b : Bool) → AllBelow k (filter p xs) → AllBelow k (cond b (x ∷ filter p xs) (filter p xs))
    by true rest = (below.0, rest)
    by false rest = rest

filter_same : (p : ℕ → Bool) (k : ℕ) (ys : List ℕ) → AllAre k ys → filter p ys ≡ cond (p k) ys []
filter_same p k [] all = either (p k)
  where
    either : (b : Bool) → [] ≡ cond {A = List ℕ} b [] []
    either true = refl
    either false = refl
filter_same p k (y ∷ ys) all =
    ap (λ b. cond b (y ∷ filter p ys) (filter p ys)) (ap p all.0) ∙ ap (λ l. cond (p k) (y ∷ l) l) (filter_same p k ys all.1) ∙ either (p k)
  where
    either : (b : Bool) → cond b (y ∷ cond b ys []) (cond b ys []) ≡ cond b (y ∷ ys) []
    either true = refl
    either false = refl

-- one number more, which is above all others
counted_more : (p : ℕ → Bool) (k : ℕ) (xs : List ℕ) (y : ℕ) (ys : List ℕ) → AllBelow k xs → AllAre k (y ∷ ys)
    → distinct_count nat_eq (filter p (xs ++ y ∷ ys)) ≡ distinct_count nat_eq (filter p xs) + cond (p k) 1 0
counted_more p k xs y ys below all =
    ap (distinct_count nat_eq) (filter-append p xs (y ∷ ys) ∙ ap (λ l. filter p xs ++ l) (filter_same p k (y ∷ ys) all)) ∙ by (p k)
  where
    by : (b : Bool) → distinct_count nat_eq (filter p xs ++ cond b (y ∷ ys) []) ≡ distinct_count nat_eq (filter p xs) + cond b 1 0
    by true =
        ap length (unique_append k (filter p xs) (y ∷ ys) (below_filter p k xs below) all) ∙ length-append (unique_keys nat_eq (filter p xs)) (unique_keys nat_eq (y ∷ ys))
        ∙ ap (λ n. distinct_count nat_eq (filter p xs) + n) (one_of k y ys all)
    by false = ap (distinct_count nat_eq) (append-nil (filter p xs)) ∙ sym (add-zero (distinct_count nat_eq (filter p xs)))

-- ---- epochs behind a number

abbrev numbers_of : List Done → List ℕ
numbers_of = map (λ d. d.epoch)

-- each epoch has a Done
abbrev pub HaveDones : List Epoch → Type 0
HaveDones = AllByRecursion (λ e. 0 < length e.dones)

abbrev behind : ℕ → List Epoch → ℕ
behind n [] = 0
behind n (e ∷ es) = cond (nat_lt n e.number) 1 0 + behind n es

-- epochs of their own numbers, which rise above this one
pub record AreEpochs (m : ℕ) (es : List Epoch) : Type 0 where
  pub rise : RisesAbove m (map (λ e. e.number) es)
  pub numbered : HaveTheirNumbers es
  pub some : HaveDones es

rest_of : (m : ℕ) (e : Epoch) (es : List Epoch) → AreEpochs m (e ∷ es) → AreEpochs e.number es
rest_of m e es a = record { rise = a.rise.1; numbered = a.numbered.1; some = a.some.1 }

numbers_are : (k : ℕ) (ds : List Done) → AllByRecursion (λ d. d.epoch ≡ k) ds → AllAre k (numbers_of ds)
numbers_are k [] all = tt
numbers_are k (d ∷ ds) all = (all.0, numbers_are k ds all.1)

below_next : (m k : ℕ) (xs : List ℕ) → m < k → AllByRecursion (λ x. x ≤ m) xs → AllBelow k xs
below_next m k [] less all = tt
below_next m k (x ∷ xs) less all = let h : x ≤ m = all.0 in (omega arith, below_next m k xs less all.1)

upto_next : (m k : ℕ) (xs ys : List ℕ) → m < k → AllByRecursion (λ x. x ≤ m) xs → AllAre k ys → AllByRecursion (λ x. x ≤ k) (xs ++ ys)
upto_next m k xs ys less all same =
    all_append (λ x. x ≤ k) xs ys (all_weaker (λ x. x ≤ m) (λ x. x ≤ k) (λ x h. omega (arith, h)) xs all) (all_weaker (λ x. x ≡ k) (λ x. x ≤ k) (λ x h. omega (arith, h)) ys same)

counted_epoch : (n m k : ℕ) (xs : List ℕ) (ys : List Done) → m < k → AllByRecursion (λ x. x ≤ m) xs → AllByRecursion (λ d. d.epoch ≡ k) ys → 0 < length ys
    → distinct_count nat_eq (filter (λ x. nat_lt n x) (xs ++ numbers_of ys)) ≡ distinct_count nat_eq (filter (λ x. nat_lt n x) xs) + cond (nat_lt n k) 1 0
counted_epoch n m k xs [] less low same some = absurd (omega (arith, some))
counted_epoch n m k xs (d ∷ ds) less low same some = counted_more (λ x. nat_lt n x) k xs d.epoch (numbers_of ds) (below_next m k xs less low) (numbers_are k (d ∷ ds) same)

-- behind numbers up to m, the epochs count one each
counted : (n m : ℕ) (xs : List ℕ) (es : List Epoch) → AllByRecursion (λ x. x ≤ m) xs → AreEpochs m es
    → distinct_count nat_eq (filter (λ x. nat_lt n x) (xs ++ numbers_of (dones_in es))) ≡ distinct_count nat_eq (filter (λ x. nat_lt n x) xs) + behind n es
counted n m xs [] low are = ap (λ l. distinct_count nat_eq (filter (λ x. nat_lt n x) l)) (append-nil xs) ∙ sym (add-zero (distinct_count nat_eq (filter (λ x. nat_lt n x) xs)))
counted n m xs (e ∷ es) low are =
    let first = numbers_of e.dones in
    let count : List ℕ → ℕ = λ l. distinct_count nat_eq (filter (λ x. nat_lt n x) l) in
    ap (λ l. count (xs ++ l)) (map-append (λ (d : Done). d.epoch) e.dones (dones_in es)) ∙ ap count (sym (append_assoc xs first (numbers_of (dones_in es))))
    ∙ counted n e.number (xs ++ first) es (upto_next m e.number xs first are.rise.0 low (numbers_are e.number e.dones are.numbered.0)) (rest_of m e es are)
    ∙ ap (λ k. k + behind n es) (counted_epoch n m e.number xs e.dones are.rise.0 low are.numbered.0 are.some.0)
    ∙ add_assoc (count xs) (cond (nat_lt n e.number) 1 0) (behind n es)

-- all stand behind a number up to m
behind_all : (n m : ℕ) (es : List Epoch) → n ≤ m → RisesAbove m (map (λ e. e.number) es) → behind n es ≡ length es
behind_all n m [] low rise = refl
behind_all n m (e ∷ es) low rise =
    let above : m < e.number = rise.0 in
    let yes : nat_lt n e.number ≡ true = grind (arith, nat_tests) in
    let rest = behind_all n e.number es (omega arith) rise.1 in
    ap (λ b. cond b 1 0 + behind n es) yes ∙ omega (arith, rest)

none_above : (n : ℕ) (xs : List ℕ) → AllByRecursion (λ x. x ≤ n) xs → filter (λ x. nat_lt n x) xs ≡ []
none_above n [] all = refl
none_above n (x ∷ xs) all =
    let low : x ≤ n = all.0 in
    let no : nat_lt n x ≡ false = grind (arith, nat_tests) in
    ap (λ b. cond b (x ∷ filter (λ y. nat_lt n y) xs) (filter (λ y. nat_lt n y) xs)) no ∙ none_above n xs all.1

-- ---- which Dones pass

-- the requests of the epochs behind which so many others stand as the test lets through
abbrev pub selected : (ℕ → Bool) → List Epoch → List Request
selected q [] = []
selected q (e ∷ es) = cond (q (length es)) (map request_of e.dones) [] ++ selected q es

filter_alike : (p q : Done → Bool) (xs : List Done) → AllByRecursion (λ d. p d ≡ q d) xs → filter p xs ≡ filter q xs
filter_alike p q [] all = refl
filter_alike p q (x ∷ xs) all =
    ap (λ b. cond b (x ∷ filter p xs) (filter p xs)) all.0 ∙ ap (λ l. cond (q x) (x ∷ l) l) (filter_alike p q xs all.1)

filter_constant : (p : Done → Bool) (b : Bool) (xs : List Done) → AllByRecursion (λ d. p d ≡ b) xs → map request_of (filter p xs) ≡ cond b (map request_of xs) []
filter_constant p true [] all = refl
filter_constant p false [] all = refl
filter_constant p true (x ∷ xs) all = ap (λ b. map request_of (cond b (x ∷ filter p xs) (filter p xs))) all.0 ∙ ap (λ l. request_of x ∷ l) (filter_constant p true xs all.1)
filter_constant p false (x ∷ xs) all = ap (λ b. map request_of (cond b (x ∷ filter p xs) (filter p xs))) all.0 ∙ filter_constant p false xs all.1

dones_above : (m : ℕ) (es : List Epoch) → AreEpochs m es → AllByRecursion (λ d. m < d.epoch) (dones_in es)
dones_above m [] are = tt
dones_above m (e ∷ es) are =
    let above : m < e.number = are.rise.0 in
    all_append (λ d. m < d.epoch) e.dones (dones_in es) (all_weaker (λ d. d.epoch ≡ e.number) (λ d. m < d.epoch) (λ d h. omega (arith, h)) e.dones are.numbered.0)
    (all_weaker (λ d. e.number < d.epoch) (λ d. m < d.epoch) (λ d h. omega (arith, h)) (dones_in es) (dones_above e.number es (rest_of m e es are)))

behind_passed : (n k : ℕ) (es : List Epoch) (e : Epoch) → e.number ≤ n → behind n (e ∷ es) ≡ behind n es
behind_passed n k es e low =
    let no : nat_lt n e.number ≡ false = grind (arith, nat_tests) in
    ap (λ b. cond b 1 0 + behind n es) no ∙ zero-add (behind n es)

-- of the epochs themselves
selected_are : (q : ℕ → Bool) (m : ℕ) (es : List Epoch) → AreEpochs m es → map request_of (filter (λ d. q (behind d.epoch es)) (dones_in es)) ≡ selected q es
selected_are q m [] are = refl
selected_are q m (e ∷ es) are =
    let p : Done → Bool = λ d. q (behind d.epoch (e ∷ es)) in
    let here : AllByRecursion (λ d. p d ≡ q (length es)) e.dones =
    all_weaker (λ d. d.epoch ≡ e.number) (λ d. p d ≡ q (length es))
    (λ d h. ap (λ n. q (behind n (e ∷ es))) h ∙ ap q (behind_passed e.number 0 es e (omega arith) ∙ behind_all e.number e.number es (omega arith) are.rise.1)) e.dones are.numbered.0 in
    let later : AllByRecursion (λ d. p d ≡ q (behind d.epoch es)) (dones_in es) =
    all_weaker (λ d. e.number < d.epoch) (λ d. p d ≡ q (behind d.epoch es)) (λ d h. ap q (behind_passed d.epoch 0 es e (omega (arith, h)))) (dones_in es) (dones_above e.number es (rest_of m e es are)) in
    ap (map request_of) (filter-append p e.dones (dones_in es)) ∙ map-append request_of (filter p e.dones) (filter p (dones_in es))
    ∙ ap (λ l. l ++ map request_of (filter p (dones_in es))) (filter_constant p (q (length es)) e.dones here)
    ∙ ap (λ l. cond (q (length es)) (map request_of e.dones) [] ++ l)
    (ap (map request_of) (filter_alike p (λ d. q (behind d.epoch es)) (dones_in es) later) ∙ selected_are q e.number es (rest_of m e es are))

numbers_low : (m : ℕ) (ds : List Done) → AllByRecursion (λ d. d.epoch ≤ m) ds → AllByRecursion (λ x. x ≤ m) (numbers_of ds)
numbers_low m [] all = tt
numbers_low m (d ∷ ds) all = (all.0, numbers_low m ds all.1)

weaken_low : (m n : ℕ) (ds : List Done) → m ≤ n → AllByRecursion (λ d. d.epoch ≤ m) ds → AllByRecursion (λ d. d.epoch ≤ n) ds
weaken_low m n ds le all = all_weaker (λ d. d.epoch ≤ m) (λ d. d.epoch ≤ n) (λ d h. omega (arith, h)) ds all

-- Dones of epochs up to m, and epochs behind them: which pass depends on the numbers of the former alone
pub selected_behind : (q : ℕ → Bool) (m : ℕ) (xs : List Done) (es : List Epoch) → AllByRecursion (λ d. d.epoch ≤ m) xs → AreEpochs m es
    → map request_of (filter (λ d. q (epochs_above d.epoch (xs ++ dones_in es))) (xs ++ dones_in es)) ≡ map request_of (filter (λ d. q (epochs_above d.epoch xs + length es)) xs) ++ selected q es
selected_behind q m xs es low are =
    let p : Done → Bool = λ d. q (epochs_above d.epoch (xs ++ dones_in es)) in
    let count : (n : ℕ) → epochs_above n (xs ++ dones_in es) ≡ epochs_above n xs + behind n es =
    λ n. ap (λ l. distinct_count nat_eq (filter (λ x. nat_lt n x) l)) (map-append (λ (d : Done). d.epoch) xs (dones_in es)) ∙ counted n m (numbers_of xs) es (numbers_low m xs low) are in
    let first : AllByRecursion (λ d. p d ≡ q (epochs_above d.epoch xs + length es)) xs =
    all_weaker (λ d. d.epoch ≤ m) (λ d. p d ≡ q (epochs_above d.epoch xs + length es)) (λ d h. ap q (count d.epoch ∙ ap (λ n. epochs_above d.epoch xs + n) (behind_all d.epoch m es h are.rise))) xs low in
    let later : AllByRecursion (λ d. p d ≡ q (behind d.epoch es)) (dones_in es) =
    all_weaker (λ d. m < d.epoch) (λ d. p d ≡ q (behind d.epoch es))
    (λ d h. ap q (count d.epoch ∙ ap (λ l. length (unique_keys nat_eq l) + behind d.epoch es) (none_above d.epoch (numbers_of xs) (numbers_low d.epoch xs (weaken_low m d.epoch xs (omega (arith, h)) low)))
    ∙ zero-add (behind d.epoch es))) (dones_in es) (dones_above m es are) in
    ap (map request_of) (filter-append p xs (dones_in es)) ∙ map-append request_of (filter p xs) (filter p (dones_in es))
    ∙ ap (λ l. map request_of l ++ map request_of (filter p (dones_in es))) (filter_alike p (λ d. q (epochs_above d.epoch xs + length es)) xs first)
    ∙ ap (λ l. map request_of (filter (λ d. q (epochs_above d.epoch xs + length es)) xs) ++ l)
    (ap (map request_of) (filter_alike p (λ d. q (behind d.epoch es)) (dones_in es) later) ∙ selected_are q m es are)

-- ---- epochs of the same requests

abbrev pub AreAlike : List Epoch → List Epoch → Type 0
AreAlike [] fs = fs ≡ []
AreAlike (e ∷ es) [] = ⊥
AreAlike (e ∷ es) (f ∷ fs) = IsPermutation (map request_of e.dones) (map request_of f.dones) × AreAlike es fs

pub alike_length : (es fs : List Epoch) → AreAlike es fs → length es ≡ length fs
alike_length [] fs a = ap length (sym a)
alike_length (e ∷ es) [] a = absurd a
alike_length (e ∷ es) (f ∷ fs) a = let rest = alike_length es fs a.1 in omega (arith, rest)

both_permute : {X : Type 0} (ds bs xs ys : List X) → IsPermutation ds bs → IsPermutation xs ys → IsPermutation (ds ++ xs) (bs ++ ys)
both_permute ds bs xs ys p q = IsPermutation-trans (ds ++ xs) (bs ++ xs) (bs ++ ys) (IsPermutation-append_left xs ds bs p) (IsPermutation-append_right bs xs ys q)

pub selected_alike : (q : ℕ → Bool) (es fs : List Epoch) → AreAlike es fs → IsPermutation (selected q es) (selected q fs)
selected_alike q [] fs a = subst (λ l. IsPermutation (selected q []) (selected q l)) (sym a) (IsPermutation-refl {X = Request} [])
selected_alike q (e ∷ es) [] a = absurd a
selected_alike q (e ∷ es) (f ∷ fs) a =
    subst (λ n. IsPermutation (selected q (e ∷ es)) (cond (q n) (map request_of f.dones) [] ++ selected q fs)) (alike_length es fs a.1)
    (both_permute (cond (q (length es)) (map request_of e.dones) []) (cond (q (length es)) (map request_of f.dones) []) (selected q es) (selected q fs) (first (q (length es))) (selected_alike q es fs a.1))
  where
    first : (b : Bool) → IsPermutation (cond b (map request_of e.dones) []) (cond b (map request_of f.dones) [])
    first true = a.0
    first false = IsPermutation-refl {X = Request} []
