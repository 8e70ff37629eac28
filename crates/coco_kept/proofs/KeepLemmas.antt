-- What one more Done makes of the kept ones and the floor.
use Rattle.std.proofs.Common.{◌≡◌, ℕ, ◌+◌, ◌<◌, ◌≤◌, Bool, true, false, cond, not, ◌||◌, List, [], ◌∷◌, ◌++◌, nat_eq, nat_lt, Option, None, Some, refl, sym, ap, ◌∙◌, arith, append-nil, true≢false}
use Rattle.std.specs.Cmp.{unsigned_Decides}
use Rattle.std.specs.List.{filter, AllByRecursion}
use Rattle.std.proofs.lemmas.List.{map-append}
use Rattle.std.proofs.lemmas.List.Elements.{filter-append}
use Rattle.coco_types.specs.declared.call.Done.{Done}
use Rattle.coco_ast.specs.History.{ids_of, is_held, kept_of, forgotten_of, floor_of, greatest_with}
use Rattle.coco_kept.specs.Holding.{AreUpTo, epochs_of, epoch_count, NeverFall, least_of, behind_least}
use Rattle.coco_kept.specs.Keeping.{Keeping, HoldsKept}
use Rattle.coco_kept.proofs.Counts.{is_in, count, above, fresh, count-push, above-push, above_none, above_fewer, above_fewer_still, above_no_more, above_least}
use Rattle.coco_kept.proofs.Filters.{Agree, Within, filter_same, filter_all, filter_none, filter_within, greatest_left}

-- ---- each Done's epoch is among the epochs

abbrev AreAmong : List ℕ → List Done → Type 0
AreAmong ns ds = AllByRecursion (λ d. is_in d.epoch ns ≡ true) ds

more_among : (n : ℕ) (ns : List ℕ) (ds : List Done) → AreAmong ns ds → AreAmong (n ∷ ns) ds
more_among n ns [] h = tt
more_among n ns (d ∷ ds) h = (by (nat_eq d.epoch n) h.0, more_among n ns ds h.1)
  where
    by : (b : Bool) → is_in d.epoch ns ≡ true → (b || is_in d.epoch ns) ≡ true
    by true e = refl
    by false e = e

all_among : (ds : List Done) → AreAmong (epochs_of ds) ds
all_among [] = tt
all_among (d ∷ ds) = (ap (λ b. b || is_in d.epoch (epochs_of ds)) ((unsigned_Decides d.epoch d.epoch).1 refl), more_among d.epoch (epochs_of ds) ds (all_among ds))

-- tests that agree at what is true of each Done
agree : (P : Done → Type 0) (p q : Done → Bool) → ((d : Done) → P d → p d ≡ q d) → (ds : List Done) → AllByRecursion P ds → Agree p q ds
agree P p q f [] h = tt
agree P p q f (d ∷ ds) h = (f d h.0, agree P p q f ds h.1)

both_of : (P Q : Done → Type 0) (ds : List Done) → AllByRecursion P ds → AllByRecursion Q ds → AllByRecursion (λ d. P d × Q d) ds
both_of P Q [] h g = tt
both_of P Q (d ∷ ds) h g = ((h.0, g.0), both_of P Q ds h.1 g.1)

epochs_up_to : (n : ℕ) (ds : List Done) → AreUpTo n ds → AllByRecursion (λ x. x ≤ n) (epochs_of ds)
epochs_up_to n [] h = tt
epochs_up_to n (d ∷ ds) h = (h.0, epochs_up_to n ds h.1)

epochs-push : (ds : List Done) (d : Done) → epochs_of (ds ++ d ∷ []) ≡ epochs_of ds ++ d.epoch ∷ []
epochs-push ds d = map-append (λ (x : Done). x.epoch) ds (d ∷ [])

pub epoch_count-push : (ds : List Done) (d : Done) → epoch_count (ds ++ d ∷ []) ≡ epoch_count ds + fresh d.epoch (epochs_of ds)
epoch_count-push ds d = ap count (epochs-push ds d) ∙ count-push (epochs_of ds) d.epoch

-- ---- one more Done of the last epoch or a later one

-- whether a Done is still kept once one of this epoch is there too
abbrev pub stays : ℕ → List Done → ℕ → Done → Bool
stays k ds e x = nat_lt (above x.epoch (epochs_of ds) + fresh e (epochs_of ds)) k

held_stays : (k : ℕ) (ds : List Done) (d : Done) → AreUpTo d.epoch ds → Agree (is_held (Some k) (ds ++ d ∷ [])) (stays k ds d.epoch) ds
held_stays k ds d up =
    agree (λ x. is_in x.epoch (epochs_of ds) ≡ true × x.epoch ≤ d.epoch) (is_held (Some k) (ds ++ d ∷ [])) (stays k ds d.epoch)
    (λ x h. ap (λ l. nat_lt (above x.epoch l) k) (epochs-push ds d) ∙ ap (λ n. nat_lt n k) (above-push x.epoch d.epoch (epochs_of ds) h.0 h.1))
    ds (both_of (λ x. is_in x.epoch (epochs_of ds) ≡ true) (λ x. x.epoch ≤ d.epoch) ds (all_among ds) up)

last_held : (k : ℕ) (ds : List Done) (d : Done) → 0 < k → AreUpTo d.epoch ds → is_held (Some k) (ds ++ d ∷ []) d ≡ true
last_held k ds d some up =
    let whole : AllByRecursion (λ x. x ≤ d.epoch) (epochs_of ds ++ d.epoch ∷ []) = one_more (epochs_of ds) (epochs_up_to d.epoch ds up) in
    let zero_above : above d.epoch (epochs_of (ds ++ d ∷ [])) ≡ 0 = ap (above d.epoch) (epochs-push ds d) ∙ above_none d.epoch (epochs_of ds ++ d.epoch ∷ []) whole in
    ap (λ n. nat_lt n k) zero_above ∙ (let yes : nat_lt 0 k ≡ true = grind arith in yes)
  where
    one_more : (xs : List ℕ) → AllByRecursion (λ x. x ≤ d.epoch) xs → AllByRecursion (λ x. x ≤ d.epoch) (xs ++ d.epoch ∷ [])
    one_more [] h = (omega arith, tt)
    one_more (x ∷ xs) h = (h.0, one_more xs h.1)

pub kept-push : (k : ℕ) (ds : List Done) (d : Done) → 0 < k → AreUpTo d.epoch ds → kept_of (Some k) (ds ++ d ∷ []) ≡ filter (stays k ds d.epoch) ds ++ d ∷ []
kept-push k ds d some up =
    filter-append (is_held (Some k) (ds ++ d ∷ [])) ds (d ∷ [])
    ∙ ap (λ l. l ++ filter (is_held (Some k) (ds ++ d ∷ [])) (d ∷ [])) (filter_same (is_held (Some k) (ds ++ d ∷ [])) (stays k ds d.epoch) ds (held_stays k ds d up))
    ∙ ap (λ b. filter (stays k ds d.epoch) ds ++ cond b (d ∷ []) []) (last_held k ds d some up)

pub agree_not : {X : Type 0} (p q : X → Bool) (xs : List X) → Agree p q xs → Agree (λ x. not (p x)) (λ x. not (q x)) xs
agree_not p q [] h = tt
agree_not p q (x ∷ xs) h = (ap not h.0, agree_not p q xs h.1)

pub forgotten-push : (k : ℕ) (ds : List Done) (d : Done) → 0 < k → AreUpTo d.epoch ds → forgotten_of (Some k) (ds ++ d ∷ []) ≡ filter (λ x. not (stays k ds d.epoch x)) ds
forgotten-push k ds d some up =
    filter-append (λ x. not (is_held (Some k) (ds ++ d ∷ []) x)) ds (d ∷ [])
    ∙ ap (λ b. filter (λ x. not (is_held (Some k) (ds ++ d ∷ []) x)) ds ++ cond (not b) (d ∷ []) []) (last_held k ds d some up)
    ∙ append-nil (filter (λ x. not (is_held (Some k) (ds ++ d ∷ []) x)) ds)
    ∙ filter_same (λ x. not (is_held (Some k) (ds ++ d ∷ []) x)) (λ x. not (stays k ds d.epoch x)) ds (agree_not (is_held (Some k) (ds ++ d ∷ [])) (stays k ds d.epoch) ds (held_stays k ds d up))

pub kept_all : (ds : List Done) → kept_of None ds ≡ ds
kept_all ds = filter_all ds

pub forgotten_none : (ds : List Done) → forgotten_of None ds ≡ []
forgotten_none ds = filter_none ds

-- ---- where the epochs are few enough, all stay

all_stay : (k : ℕ) (ds : List Done) (e : ℕ) → epoch_count ds + fresh e (epochs_of ds) ≤ k → Agree (stays k ds e) (λ x. true) ds
all_stay k ds e few =
    agree (λ x. is_in x.epoch (epochs_of ds) ≡ true) (stays k ds e) (λ x. true)
    (λ x h. let less : above x.epoch (epochs_of ds) + fresh e (epochs_of ds) < k = omega (arith, above_fewer x.epoch (epochs_of ds) h) in grind (arith, less)) ds (all_among ds)

pub kept-room : (k : ℕ) (ds : List Done) (d : Done) → 0 < k → AreUpTo d.epoch ds → epoch_count ds + fresh d.epoch (epochs_of ds) ≤ k → kept_of (Some k) (ds ++ d ∷ []) ≡ ds ++ d ∷ []
kept-room k ds d some up few = kept-push k ds d some up ∙ ap (λ l. l ++ d ∷ []) (filter_same (stays k ds d.epoch) (λ x. true) ds (all_stay k ds d.epoch few) ∙ filter_all ds)

pub forgotten-room : (k : ℕ) (ds : List Done) (d : Done) → 0 < k → AreUpTo d.epoch ds → epoch_count ds + fresh d.epoch (epochs_of ds) ≤ k → forgotten_of (Some k) (ds ++ d ∷ []) ≡ []
forgotten-room k ds d some up few =
    forgotten-push k ds d some up ∙ filter_same (λ x. not (stays k ds d.epoch x)) (λ x. false) ds (agree_not (stays k ds d.epoch) (λ x. true) ds (all_stay k ds d.epoch few)) ∙ filter_none ds

-- ---- where a new epoch is one too many, the least one's Dones go

least_goes : (k : ℕ) (ds : List Done) (m e : ℕ) → epoch_count ds ≡ k → fresh e (epochs_of ds) ≡ 1 → AllByRecursion (λ x. m ≤ x.epoch) ds → is_in m (epochs_of ds) ≡ true
    → Agree (stays k ds e) (λ x. not (nat_eq x.epoch m)) ds
least_goes k ds m e full new all_from least =
    agree (λ x. is_in x.epoch (epochs_of ds) ≡ true × m ≤ x.epoch) (stays k ds e) (λ x. not (nat_eq x.epoch m)) (λ x h. by x h (nat_eq x.epoch m) refl) ds
    (both_of (λ x. is_in x.epoch (epochs_of ds) ≡ true) (λ x. m ≤ x.epoch) ds (all_among ds) all_from)
  where
    from : (xs : List Done) → AllByRecursion (λ x. m ≤ x.epoch) xs → AllByRecursion (λ x. m ≤ x) (epochs_of xs)
    from [] h = tt
    from (x ∷ xs) h = (h.0, from xs h.1)

    by : (x : Done) → is_in x.epoch (epochs_of ds) ≡ true × m ≤ x.epoch → (b : Bool) → nat_eq x.epoch m ≡ b → stays k ds e x ≡ not b
    by x h true same =
        let is : x.epoch ≡ m = (unsigned_Decides x.epoch m).0 same in
        let at : above x.epoch (epochs_of ds) ≡ above m (epochs_of ds) = ap (λ n. above n (epochs_of ds)) is in
        let all_but : count (epochs_of ds) ≤ above m (epochs_of ds) + 1 = above_least m (epochs_of ds) (from ds all_from) in
        let more : k ≤ above x.epoch (epochs_of ds) + fresh e (epochs_of ds) = omega (arith, full, new, at, all_but) in grind (arith, more)
    by x h false other =
        let higher : m < x.epoch = grind arith in
        let fewer : above x.epoch (epochs_of ds) + 1 ≤ above m (epochs_of ds) = above_fewer_still m x.epoch (epochs_of ds) higher h.0 in
        let below : above m (epochs_of ds) + 1 ≤ count (epochs_of ds) = above_fewer m (epochs_of ds) least in
        let less : above x.epoch (epochs_of ds) + fresh e (epochs_of ds) < k = omega (arith, full, new, fewer, below) in grind (arith, less)

least_in : (d : Done) (ds : List Done) → NeverFall (d ∷ ds) → AllByRecursion (λ x. d.epoch ≤ x.epoch) (d ∷ ds)
least_in d ds rising = (omega arith, rising.0)

pub first_in : (d : Done) (ds : List Done) → is_in d.epoch (epochs_of (d ∷ ds)) ≡ true
first_in d ds = ap (λ b. b || is_in d.epoch (epochs_of ds)) ((unsigned_Decides d.epoch d.epoch).1 refl)

pub kept-full : (k : ℕ) (ds : List Done) (d : Done) → 0 < k → AreUpTo d.epoch ds → NeverFall ds → epoch_count ds ≡ k → fresh d.epoch (epochs_of ds) ≡ 1 → kept_of (Some k) (ds ++ d ∷ []) ≡ behind_least ds ++ d ∷ []
kept-full k [] d some up rising full new = kept-push k [] d some up
kept-full k (x ∷ xs) d some up rising full new =
    kept-push k (x ∷ xs) d some up ∙ ap (λ l. l ++ d ∷ []) (filter_same (stays k (x ∷ xs) d.epoch) (λ y. not (nat_eq y.epoch x.epoch)) (x ∷ xs)
    (least_goes k (x ∷ xs) x.epoch d.epoch full new (least_in x xs rising) (first_in x xs)))

not_twice : (p : Done → Bool) (xs : List Done) → filter (λ x. not (not (p x))) xs ≡ filter p xs
not_twice p xs = filter_same (λ x. not (not (p x))) p xs (all xs)
  where
    twice : (b : Bool) → not (not b) ≡ b
    twice true = refl
    twice false = refl

    all : (ys : List Done) → Agree (λ x. not (not (p x))) p ys
    all [] = tt
    all (y ∷ ys) = (twice (p y), all ys)

pub forgotten-full : (k : ℕ) (ds : List Done) (d : Done) → 0 < k → AreUpTo d.epoch ds → NeverFall ds → epoch_count ds ≡ k → fresh d.epoch (epochs_of ds) ≡ 1 → forgotten_of (Some k) (ds ++ d ∷ []) ≡ least_of ds
forgotten-full k [] d some up rising full new = forgotten-push k [] d some up
forgotten-full k (x ∷ xs) d some up rising full new =
    forgotten-push k (x ∷ xs) d some up ∙ filter_same (λ y. not (stays k (x ∷ xs) d.epoch y)) (λ y. not (not (nat_eq y.epoch x.epoch))) (x ∷ xs)
    (agree_not (stays k (x ∷ xs) d.epoch) (λ y. not (nat_eq y.epoch x.epoch)) (x ∷ xs) (least_goes k (x ∷ xs) x.epoch d.epoch full new (least_in x xs rising) (first_in x xs)))
    ∙ not_twice (λ y. nat_eq y.epoch x.epoch) (x ∷ xs)

-- ---- what is kept of all Dones that were added

above_kept : (n : ℕ) (p : Done → Bool) (ds : List Done) → ((x : Done) → n < x.epoch → p x ≡ true) → filter (λ m. nat_lt n m) (epochs_of (filter p ds)) ≡ filter (λ m. nat_lt n m) (epochs_of ds)
above_kept n p [] h = refl
above_kept n p (d ∷ ds) h = by (p d) (nat_lt n d.epoch) refl refl (above_kept n p ds h)
  where
    by : (b c : Bool) → p d ≡ b → nat_lt n d.epoch ≡ c → filter (λ m. nat_lt n m) (epochs_of (filter p ds)) ≡ filter (λ m. nat_lt n m) (epochs_of ds)
        → filter (λ m. nat_lt n m) (epochs_of (cond b (d ∷ filter p ds) (filter p ds))) ≡ cond c (d.epoch ∷ filter (λ m. nat_lt n m) (epochs_of ds)) (filter (λ m. nat_lt n m) (epochs_of ds))
    by true c e f rest = λ i. cond (f i) (d.epoch ∷ rest i) (rest i)
    by false true e f rest = absurd (true≢false (sym (h d (grind arith)) ∙ e))
    by false false e f rest = rest

in_kept : (n : ℕ) (p : Done → Bool) (ds : List Done) → ((x : Done) → x.epoch ≡ n → p x ≡ true) → is_in n (epochs_of (filter p ds)) ≡ is_in n (epochs_of ds)
in_kept n p [] h = refl
in_kept n p (d ∷ ds) h = by (p d) (nat_eq n d.epoch) refl refl (in_kept n p ds h)
  where
    by : (b c : Bool) → p d ≡ b → nat_eq n d.epoch ≡ c → is_in n (epochs_of (filter p ds)) ≡ is_in n (epochs_of ds)
        → is_in n (epochs_of (cond b (d ∷ filter p ds) (filter p ds))) ≡ (c || is_in n (epochs_of ds))
    by true c e f rest = λ i. f i || rest i
    by false true e f rest = absurd (true≢false (sym (h d (sym ((unsigned_Decides n d.epoch).0 f))) ∙ e))
    by false false e f rest = rest

within_stays : (k : ℕ) (whole : List Done) (e : ℕ) (ds : List Done) → Within (is_held (Some k) whole) (stays k whole e) ds
within_stays k whole e [] = tt
within_stays k whole e (d ∷ ds) = (λ h. let less : above d.epoch (epochs_of whole) < k = grind arith in grind (arith, less), within_stays k whole e ds)

pub up_to_kept : (n : ℕ) (p : Done → Bool) (ds : List Done) → AreUpTo n ds → AreUpTo n (filter p ds)
up_to_kept n p [] h = tt
up_to_kept n p (d ∷ ds) h = by (p d) (up_to_kept n p ds h.1)
  where
    by : (b : Bool) → AreUpTo n (filter p ds) → AreUpTo n (cond b (d ∷ filter p ds) (filter p ds))
    by true rest = (h.0, rest)
    by false rest = rest

passing : (p : Done → Bool) (ds : List Done) → AllByRecursion (λ x. p x ≡ true) (filter p ds)
passing p [] = tt
passing p (d ∷ ds) = by (p d) refl (passing p ds)
  where
    by : (b : Bool) → p d ≡ b → AllByRecursion (λ x. p x ≡ true) (filter p ds) → AllByRecursion (λ x. p x ≡ true) (cond b (d ∷ filter p ds) (filter p ds))
    by true e rest = (e, rest)
    by false e rest = rest

-- among the kept ones a Done stays exactly where it does among all
stays_alike : (k : ℕ) (ds : List Done) (e : ℕ) → 0 < k → AreUpTo e ds → Agree (stays k (kept_of (Some k) ds) e) (stays k ds e) (kept_of (Some k) ds)
stays_alike k ds e some up =
    agree (λ x. is_held (Some k) ds x ≡ true) (stays k (kept_of (Some k) ds) e) (stays k ds e)
    (λ x h. λ i. nat_lt (count (above_kept x.epoch (is_held (Some k) ds) ds (later x h) i) + cond (in_kept e (is_held (Some k) ds) ds last i) 0 1) k)
    (kept_of (Some k) ds) (passing (is_held (Some k) ds) ds)
  where
    later : (x : Done) → is_held (Some k) ds x ≡ true → (y : Done) → x.epoch < y.epoch → is_held (Some k) ds y ≡ true
    later x h y less =
        let no_more : above y.epoch (epochs_of ds) ≤ above x.epoch (epochs_of ds) = above_no_more x.epoch y.epoch (epochs_of ds) (omega arith) in
        let few : above x.epoch (epochs_of ds) < k = grind arith in
        let fewer : above y.epoch (epochs_of ds) < k = omega (arith, no_more, few) in grind (arith, fewer)

    last : (y : Done) → y.epoch ≡ e → is_held (Some k) ds y ≡ true
    last y is =
        let none : above y.epoch (epochs_of ds) ≡ 0 = ap (λ n. above n (epochs_of ds)) is ∙ above_none e (epochs_of ds) (epochs_up_to e ds up) in
        ap (λ n. nat_lt n k) none ∙ (let yes : nat_lt 0 k ≡ true = grind arith in yes)

-- the Dones that were added so far may be taken for the kept ones and the floor
kept_more : (k : ℕ) (ds : List Done) (d : Done) → 0 < k → AreUpTo d.epoch ds → kept_of (Some k) (kept_of (Some k) ds ++ d ∷ []) ≡ kept_of (Some k) (ds ++ d ∷ [])
kept_more k ds d some up =
    kept-push k (kept_of (Some k) ds) d some (up_to_kept d.epoch (is_held (Some k) ds) ds up)
    ∙ ap (λ l. l ++ d ∷ []) (filter_same (stays k (kept_of (Some k) ds) d.epoch) (stays k ds d.epoch) (kept_of (Some k) ds) (stays_alike k ds d.epoch some up)
    ∙ filter_within (is_held (Some k) ds) (stays k ds d.epoch) ds (within_stays k ds d.epoch ds))
    ∙ sym (kept-push k ds d some up)

floor_more : (k : ℕ) (before : Option ℕ) (ds : List Done) (d : Done) → 0 < k → AreUpTo d.epoch ds
    → floor_of (Some k) (floor_of (Some k) before ds) (kept_of (Some k) ds ++ d ∷ []) ≡ floor_of (Some k) before (ds ++ d ∷ [])
floor_more k before ds d some up =
    ap (λ l. greatest_with (floor_of (Some k) before ds) (ids_of l))
    (forgotten-push k (kept_of (Some k) ds) d some (up_to_kept d.epoch (is_held (Some k) ds) ds up)
    ∙ filter_same (λ x. not (stays k (kept_of (Some k) ds) d.epoch x)) (λ x. not (stays k ds d.epoch x)) (kept_of (Some k) ds)
    (agree_not (stays k (kept_of (Some k) ds) d.epoch) (stays k ds d.epoch) (kept_of (Some k) ds) (stays_alike k ds d.epoch some up)))
    ∙ greatest_left (is_held (Some k) ds) (stays k ds d.epoch) before ds (within_stays k ds d.epoch ds)
    ∙ ap (λ l. greatest_with before (ids_of l)) (sym (forgotten-push k ds d some up))

pub holds_more : (old new : Keeping) (d : Done) → ((n : ℕ) → old.keep ≡ Some n → 0 < n) → new.keep ≡ old.keep → new.dones ≡ kept_of old.keep (old.dones ++ d ∷ []) → new.floor ≡ floor_of old.keep old.floor (old.dones ++ d ∷ [])
    → (before : Option ℕ) (added : List Done) → HoldsKept old before added → AreUpTo d.epoch added → HoldsKept new before (added ++ d ∷ [])
holds_more old new d some keep dones floor before added holds up = by old.keep refl
  where
    by : (k : Option ℕ) → old.keep ≡ k → HoldsKept new before (added ++ d ∷ [])
    by None is =
        let keeps : new.keep ≡ None = keep ∙ is in
        let were : old.dones ≡ added = holds.kept ∙ ap (λ k. kept_of k added) is ∙ kept_all added in
        let was : old.floor ≡ before = holds.floor ∙ ap (λ k. floor_of k before added) is ∙ ap (λ l. greatest_with before (ids_of l)) (forgotten_none added) in
        record {
          kept = dones ∙ ap (λ k. kept_of k (old.dones ++ d ∷ [])) is ∙ ap (λ l. kept_of None (l ++ d ∷ [])) were ∙ ap (λ k. kept_of k (added ++ d ∷ [])) (sym keeps);
          floor = floor ∙ ap (λ k. floor_of k old.floor (old.dones ++ d ∷ [])) is ∙ ap (λ f. floor_of None f (old.dones ++ d ∷ [])) was ∙ ap (λ l. floor_of None before (l ++ d ∷ [])) were ∙ ap (λ k. floor_of k before (added ++ d ∷ [])) (sym keeps);
        }
    by (Some k) is =
        let keeps : new.keep ≡ Some k = keep ∙ is in
        let were : old.dones ≡ kept_of (Some k) added = holds.kept ∙ ap (λ k. kept_of k added) is in
        let was : old.floor ≡ floor_of (Some k) before added = holds.floor ∙ ap (λ k. floor_of k before added) is in
        record {
          kept = dones ∙ ap (λ k. kept_of k (old.dones ++ d ∷ [])) is ∙ ap (λ l. kept_of (Some k) (l ++ d ∷ [])) were ∙ kept_more k added d (some k is) up ∙ ap (λ k. kept_of k (added ++ d ∷ [])) (sym keeps);
          floor = floor ∙ ap (λ k. floor_of k old.floor (old.dones ++ d ∷ [])) is ∙ ap (λ f. floor_of (Some k) f (old.dones ++ d ∷ [])) was ∙ ap (λ l. floor_of (Some k) (floor_of (Some k) before added) (l ++ d ∷ [])) were
              ∙ floor_more k before added d (some k is) up ∙ ap (λ k. floor_of k before (added ++ d ∷ [])) (sym keeps);
        }
