-- How many Dones are kept at most.
use Rattle.std.proofs.Common.{◌≡◌, ℕ, ◌+◌, ◌*◌, ◌<◌, ◌≤◌, Bool, true, false, cond, nat_eq, nat_lt, List, [], ◌∷◌, ◌++◌, filter, length, Option, None, Some, refl, sym, ap, subst, ◌∙◌, arith, length-append}
use Rattle.std.specs.List.{AllByRecursion}
use Rattle.std.proofs.lemmas.Bool.{eq-eqb, eqb-true, ltb-true}
use Rattle.std.proofs.lemmas.List.Elements.{filter-append}
use Rattle.coco_types.specs.Limits.{most_batch_lines, most_kept}
use Rattle.coco_types.specs.declared.call.Done.{Done}
use Rattle.coco_ast.specs.History.{is_held, kept_of}
use Rattle.coco_ast.proofs.Lists.{all_map}
use Rattle.coco_kept.specs.Holding.{NeverFall, epoch_count, epochs_of}
use Rattle.coco_kept.specs.Keeping.{HoldsKept, Keeping}
use Rattle.coco_kept.proofs.Counts.{above, above_least, count, count_more}
use Rattle.coco_kept.proofs.HoldLemmas.{epoch_count-pop}
use Rattle.coco_kept.proofs.KeepLemmas.{kept_all}
use Rattle.coco_store.specs.Rules.{IsKeep}

-- each epoch has at most so many
abbrev pub AreFew : ℕ → List Done → Type 0
AreFew most ds = (e : ℕ) → length (filter (λ d. nat_eq d.epoch e) ds) ≤ most

pub few_more : (most : ℕ) (ds : List Done) (d : Done) → AreFew most ds → length (filter (λ (x : Done). nat_eq x.epoch d.epoch) ds) < most → AreFew most (ds ++ d ∷ [])
few_more most ds d few less e = simp (filter-append, length-append) (by (nat_eq d.epoch e) refl)
  where
    by : (b : Bool) → nat_eq d.epoch e ≡ b → length (filter (λ (x : Done). nat_eq x.epoch e) ds) + length (cond b (d ∷ []) []) ≤ most
    by true is = let here : length (filter (λ (x : Done). nat_eq x.epoch e) ds) < most = subst (λ (n : ℕ). length (filter (λ (x : Done). nat_eq x.epoch n) ds) < most) (eqb-true d.epoch e is) less in omega (arith, here)
    by false is = omega (arith, few e)

-- ---- what is filtered

pub filter_keeps : (P : Done → Type 0) (p : Done → Bool) (xs : List Done) → AllByRecursion P xs → AllByRecursion P (filter p xs)
filter_keeps P p [] all = all
filter_keeps P p (x ∷ xs) all = elim (p x) as (λ b. AllByRecursion P (cond b (x ∷ filter p xs) (filter p xs))) [
  | true ↦ (all.0, filter_keeps P p xs all.1)
  | false ↦ filter_keeps P p xs all.1
]

same_test : {A : Type 0} (b : Bool) (x : A) (xs ys : List A) → length xs ≤ length ys → length (cond b (x ∷ xs) xs) ≤ length (cond b (x ∷ ys) ys)
same_test true x xs ys less = omega (arith, less)
same_test false x xs ys less = less

or_more : {A : Type 0} (b : Bool) (x : A) (xs ys : List A) → length xs ≤ length ys → length xs ≤ length (cond b (x ∷ ys) ys)
or_more true x xs ys less = omega (arith, less)
or_more false x xs ys less = less

module _ {A : Type 0} (p q : A → Bool) where
  fewer : (xs : List A) → length (filter p (filter q xs)) ≤ length (filter p xs)
  fewer [] = omega arith
  fewer (x ∷ xs) = elim (q x) as (λ c. length (filter p (cond c (x ∷ filter q xs) (filter q xs))) ≤ length (cond (p x) (x ∷ filter p xs) (filter p xs))) [
    | true ↦ same_test (p x) x (filter p (filter q xs)) (filter p xs) (fewer xs)
    | false ↦ or_more (p x) x (filter p (filter q xs)) (filter p xs) (fewer xs)
  ]

filter_true : (h : ℕ → Bool) (xs : List ℕ) → AllByRecursion (λ x. h x ≡ true) (filter h xs)
filter_true h [] = tt
filter_true h (x ∷ xs) = elim (h x) as (λ b. h x ≡ b → AllByRecursion (λ x. h x ≡ true) (cond b (x ∷ filter h xs) (filter h xs))) [
  | true ↦ λ t. (t, filter_true h xs)
  | false ↦ λ _. filter_true h xs
] refl

epochs_filtered : (h : ℕ → Bool) (ds : List Done) → epochs_of (filter (λ d. h d.epoch) ds) ≡ filter h (epochs_of ds)
epochs_filtered h [] = refl
epochs_filtered h (d ∷ ds) = elim (h d.epoch) as (λ b. epochs_of (cond b (d ∷ filter (λ x. h x.epoch) ds) (filter (λ x. h x.epoch) ds)) ≡ cond b (d.epoch ∷ filter h (epochs_of ds)) (filter h (epochs_of ds))) [
  | true ↦ ap (λ (l : List ℕ). d.epoch ∷ l) (epochs_filtered h ds)
  | false ↦ epochs_filtered h ds
]

both_tests : (p h : ℕ → Bool) (xs : List ℕ) → filter p (filter h xs) ≡ filter (λ x. cond (h x) (p x) false) xs
both_tests p h [] = refl
both_tests p h (x ∷ xs) = elim (h x) as (λ b. filter p (cond b (x ∷ filter h xs) (filter h xs)) ≡ cond (cond b (p x) false) (x ∷ filter (λ y. cond (h y) (p y) false) xs) (filter (λ y. cond (h y) (p y) false) xs)) [
  | true ↦ ap (λ (l : List ℕ). cond (p x) (x ∷ l) l) (both_tests p h xs)
  | false ↦ both_tests p h xs
]

fewer_above : (e : ℕ) (h : ℕ → Bool) (xs : List ℕ) → above e (filter h xs) ≤ above e xs
fewer_above e h xs =
    subst (λ (l : List ℕ). count l ≤ above e xs) (sym (both_tests (λ m. nat_lt e m) h xs))
    (count_more (λ m. cond (h m) (nat_lt e m) false) (λ m. nat_lt e m) (λ m. either (h m) (nat_lt e m)) xs)
  where
    either : (b c : Bool) → cond b c false ≡ true → c ≡ true
    either true c is = is
    either false c is = let two : false ≡ true = is in cc

-- ---- Dones by epochs

few_behind : (most : ℕ) (k : Done) (ks : List Done) → AreFew most (k ∷ ks) → AreFew most ks
few_behind most k ks few e =
    let more = or_more (nat_eq k.epoch e) k (filter (λ (d : Done). nat_eq d.epoch e) ks) (filter (λ (d : Done). nat_eq d.epoch e) ks) (omega arith) in
    omega (arith, more, few e)

first_more : (k : Done) (ks : List Done) → length (filter (λ (d : Done). nat_eq d.epoch k.epoch) (k ∷ ks)) ≡ length (filter (λ (d : Done). nat_eq d.epoch k.epoch) ks) + 1
first_more k ks = ap (λ (b : Bool). length (cond b (k ∷ filter (λ (d : Done). nat_eq d.epoch k.epoch) ks) (filter (λ (d : Done). nat_eq d.epoch k.epoch) ks))) (eq-eqb k.epoch k.epoch refl) ∙ (omega arith)

-- all but the first one's epoch have at most so many
grown : (most : ℕ) (k : Done) (ks : List Done) → NeverFall (k ∷ ks) → AreFew most (k ∷ ks)
    → length (k ∷ ks) + most ≤ most * epoch_count (k ∷ ks) + length (filter (λ (d : Done). nat_eq d.epoch k.epoch) (k ∷ ks))
grown most k [] rising few = omega (arith, epoch_count-pop k [] rising, first_more k [])
grown most k (l ∷ ks) rising few = elim (nat_eq l.epoch k.epoch) as (λ b. nat_eq l.epoch k.epoch ≡ b
    → length (k ∷ l ∷ ks) + most ≤ most * epoch_count (k ∷ l ∷ ks) + length (filter (λ (d : Done). nat_eq d.epoch k.epoch) (k ∷ l ∷ ks))) [
      | true ↦ λ t. (
          let so_far = grown most l ks rising.1 (few_behind most k (l ∷ ks) few) in
          let same : length (filter (λ (d : Done). nat_eq d.epoch l.epoch) (l ∷ ks)) ≡ length (filter (λ (d : Done). nat_eq d.epoch k.epoch) (l ∷ ks)) =
          ap (λ (n : ℕ). length (filter (λ (d : Done). nat_eq d.epoch n) (l ∷ ks))) (eqb-true l.epoch k.epoch t) in
          let epochs : epoch_count (k ∷ l ∷ ks) ≡ epoch_count (l ∷ ks) + 0 = epoch_count-pop k (l ∷ ks) rising ∙ ap (λ (b : Bool). epoch_count (l ∷ ks) + cond b 0 1) t in
          let times : most * epoch_count (k ∷ l ∷ ks) ≡ most * epoch_count (l ∷ ks) = ap (λ (n : ℕ). most * n) epochs ∙ (omega arith) in
          omega (arith, so_far, same, times, first_more k (l ∷ ks)))
      | false ↦ λ f. (
          let so_far = grown most l ks rising.1 (few_behind most k (l ∷ ks) few) in
          let here = few_behind most k (l ∷ ks) few l.epoch in
          let epochs : epoch_count (k ∷ l ∷ ks) ≡ epoch_count (l ∷ ks) + 1 = epoch_count-pop k (l ∷ ks) rising ∙ ap (λ (b : Bool). epoch_count (l ∷ ks) + cond b 0 1) f in
          let times : most * epoch_count (k ∷ l ∷ ks) ≡ most * epoch_count (l ∷ ks) + most = ap (λ (n : ℕ). most * n) epochs ∙ (omega arith) in
          omega (arith, so_far, here, times, first_more k (l ∷ ks)))
    ] refl

few_held : (most : ℕ) (ks : List Done) → NeverFall ks → AreFew most ks → length ks ≤ most * epoch_count ks
few_held most [] rising few = omega arith
few_held most (k ∷ ks) rising few = let all = grown most k ks rising few in let here = few k.epoch in omega (arith, all, here)

-- those that are kept are of so many epochs
few_epochs : (n : ℕ) (ds ks : List Done) → ks ≡ kept_of (Some n) ds → NeverFall ks → 0 < n → epoch_count ks ≤ n
few_epochs n ds [] are rising some = omega arith
few_epochs n ds (k ∷ ks) are rising some =
    let h = λ (e : ℕ). nat_lt (above e (epochs_of ds)) n in
    let xs = epochs_of (k ∷ ks) in
    let filtered : xs ≡ filter h (epochs_of ds) = ap epochs_of are ∙ epochs_filtered h ds in
    let least : AllByRecursion (λ (x : ℕ). k.epoch ≤ x) xs = ((omega arith), all_map (λ (d : Done). d.epoch) (λ (x : ℕ). k.epoch ≤ x) ks rising.0) in
    let one : count xs ≤ above k.epoch xs + 1 = above_least k.epoch xs least in
    let less : above k.epoch xs ≤ above k.epoch (epochs_of ds) = subst (λ (l : List ℕ). above k.epoch l ≤ above k.epoch (epochs_of ds)) (sym filtered) (fewer_above k.epoch h (epochs_of ds)) in
    let held : h k.epoch ≡ true = (subst (AllByRecursion (λ (x : ℕ). h x ≡ true)) (sym filtered) (filter_true h (epochs_of ds))).0 in
    let below : above k.epoch (epochs_of ds) < n = ltb-true (above k.epoch (epochs_of ds)) n held in
    omega (arith, one, less, below)

filter_rises : (p : Done → Bool) (xs : List Done) → NeverFall xs → NeverFall (filter p xs)
filter_rises p [] rising = rising
filter_rises p (x ∷ xs) rising = elim (p x) as (λ b. NeverFall (cond b (x ∷ filter p xs) (filter p xs))) [
  | true ↦ (filter_keeps (λ (e : Done). x.epoch ≤ e.epoch) p xs rising.0, filter_rises p xs rising.1)
  | false ↦ filter_rises p xs rising.1
]

-- so by any keep number there are no more than a store without one has
pub few_kept : (keep before : Option ℕ) (added : List Done) (k : Keeping) → HoldsKept k before added → k.keep ≡ keep → IsKeep keep → NeverFall added → AreFew most_batch_lines added
    → (keep ≡ None → length added ≤ most_kept) → length k.dones ≤ most_kept
few_kept None before added k holds is may rising few room =
    let all : k.dones ≡ added = holds.kept ∙ ap (λ (n : Option ℕ). kept_of n added) is ∙ kept_all added in
    omega (arith, ap length all, room refl)
few_kept (Some n) before added k holds is may rising few room =
    let ks = kept_of (Some n) added in
    let are : k.dones ≡ ks = holds.kept ∙ ap (λ (o : Option ℕ). kept_of o added) is in
    let rises = filter_rises (is_held (Some n) added) added rising in
    let epochs = few_epochs n added ks refl rises may.0 in
    let held = few_held most_batch_lines ks rises (λ e. le-trans (fewer (λ (d : Done). nat_eq d.epoch e) (is_held (Some n) added) added) (few e)) in
    omega (arith, ap length are, held, epochs, may.1)
  where
    le-trans : {a b c : ℕ} → a ≤ b → b ≤ c → a ≤ c
    le-trans one two = omega (arith, one, two)
