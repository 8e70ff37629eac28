-- How the Dones are held once one more has come, or the first has gone.
use Rattle.std.proofs.Common.{◌≡◌, ℕ, suc, ◌+◌, ◌-◌, ◌<◌, ◌≤◌, ◌%◌, ◌^◌, Bool, true, false, cond, not, ◌||◌, max, List, [], ◌∷◌, ◌++◌, length, nat_eq, Option, None, Some, slice_get, refl, sym, ap, ◌∙◌, arith, subst}
use Rattle.std.specs.Cmp.{unsigned_Decides}
use Rattle.std.specs.List.{AllByRecursion}
use Rattle.std.proofs.lemmas.List.{length-map}
use Rattle.std.proofs.lemmas.Option.{same_Some}
use Rattle.coco_types.specs.declared.call.Done.{Done}
use Rattle.coco_ast.specs.History.{done_of}
use Rattle.coco_kept.specs.Holding.{AreUpTo, has_epoch, epochs_of, epoch_count, NeverFall, AreHeld, first_is}
use Rattle.coco_kept.specs.Keeping.{newest_epoch}
use Rattle.coco_kept.proofs.Counts.{is_in, fresh, count-cons, count_few}
use Rattle.coco_kept.proofs.KeepLemmas.{epoch_count-push}
use Rattle.coco_kept.proofs.Numbers.{number-push, number-pop, apart-push, others_apart}

pub epochs_few : (ds : List Done) → epoch_count ds ≤ length ds
epochs_few ds = omega (arith, count_few (epochs_of ds), length-map ds (λ (d : Done). d.epoch))

never_fall-push : (ds : List Done) (d : Done) → NeverFall ds → AreUpTo d.epoch ds → NeverFall (ds ++ d ∷ [])
never_fall-push [] d rising up = (tt, tt)
never_fall-push (x ∷ xs) d rising up = (last xs rising.0, never_fall-push xs d rising.1 up.1)
  where
    last : (ys : List Done) → AllByRecursion (λ e. x.epoch ≤ e.epoch) ys → AllByRecursion (λ e. x.epoch ≤ e.epoch) (ys ++ d ∷ [])
    last [] h = (up.0, tt)
    last (y ∷ ys) h = (h.0, last ys h.1)

pub held-push : (ds more : List Done) (numbered numbered' : ℕ → Option ℕ) (first epochs epochs' : ℕ) (keep : Option ℕ) (d : Done) → AreHeld ds numbered first epochs keep → more ≡ ds ++ d ∷ []
    → ((id : ℕ) → numbered' id ≡ cond (nat_eq d.id id) (Some ((first + length ds) % 2 ^ 64)) (numbered id)) → done_of d.id ds ≡ None → AreUpTo d.epoch ds
    → epochs' ≡ epochs + fresh d.epoch (epochs_of ds) → ((n : ℕ) → keep ≡ Some n → epoch_count (ds ++ d ∷ []) ≤ n) → AreHeld more numbered' first epochs' keep
held-push ds more numbered numbered' first epochs epochs' keep d held are put new up counts few =
    subst (λ l. AreHeld l numbered' first epochs' keep) (sym are) (record {
      numbers = λ id. put id ∙ ap (cond (nat_eq d.id id) (Some ((first + length ds) % 2 ^ 64))) (held.numbers id) ∙ sym (number-push id first ds d new);
      once = apart-push ds d held.once new;
      rising = never_fall-push ds d held.rising up;
      counted = counted;
      within = λ n is. ((held.within n is).0, subst (λ e. e ≤ n) (sym counted) (few n is));
    })
  where
    counted : epochs' ≡ epoch_count (ds ++ d ∷ [])
    counted = counts ∙ ap (λ n. n + fresh d.epoch (epochs_of ds)) held.counted ∙ sym (epoch_count-push ds d)

none_in : (n : ℕ) (ds : List Done) → AllByRecursion (λ e. n < e.epoch) ds → is_in n (epochs_of ds) ≡ false
none_in n [] h = refl
none_in n (d ∷ ds) h = let not_first : nat_eq n d.epoch ≡ false = grind arith in ap (λ b. b || is_in n (epochs_of ds)) not_first ∙ none_in n ds h.1

above_all : (m n : ℕ) (ds : List Done) → m < n → AllByRecursion (λ e. n ≤ e.epoch) ds → AllByRecursion (λ e. m < e.epoch) ds
above_all m n [] less h = tt
above_all m n (d ∷ ds) less h = (omega (arith, h.0), above_all m n ds less h.1)

-- the first one's epoch goes on exactly where the next Done is of it
goes_on : (d : Done) (ds : List Done) → NeverFall (d ∷ ds) → is_in d.epoch (epochs_of ds) ≡ first_is d.epoch ds
goes_on d [] rising = refl
goes_on d (x ∷ xs) rising = by (nat_eq x.epoch d.epoch) refl
  where
    by : (b : Bool) → nat_eq x.epoch d.epoch ≡ b → (nat_eq d.epoch x.epoch || is_in d.epoch (epochs_of xs)) ≡ b
    by true e = let same : nat_eq d.epoch x.epoch ≡ true = grind arith in ap (λ b. b || is_in d.epoch (epochs_of xs)) same
    by false e =
        let less : d.epoch < x.epoch = (let le : d.epoch ≤ x.epoch = rising.0.0 in grind arith) in
        none_in d.epoch (x ∷ xs) (less, above_all d.epoch x.epoch xs less rising.1.0)

pub epoch_count-pop : (d : Done) (ds : List Done) → NeverFall (d ∷ ds) → epoch_count (d ∷ ds) ≡ epoch_count ds + cond (first_is d.epoch ds) 0 1
epoch_count-pop d ds rising = count-cons d.epoch (epochs_of ds) ∙ ap (λ b. epoch_count ds + cond b 0 1) (goes_on d ds rising)

pub held-pop : (d : Done) (ds whole : List Done) (numbered numbered' : ℕ → Option ℕ) (first epochs epochs' : ℕ) (keep : Option ℕ) → AreHeld whole numbered first epochs keep → whole ≡ d ∷ ds
    → ((id : ℕ) → numbered' id ≡ cond (nat_eq d.id id) None (numbered id)) → epochs ≡ epochs' + cond (first_is d.epoch ds) 0 1 → AreHeld ds numbered' ((first + 1) % 2 ^ 64) epochs' keep
held-pop d ds whole numbered numbered' first epochs epochs' keep all are put counts =
    let held : AreHeld (d ∷ ds) numbered first epochs keep = subst (λ l. AreHeld l numbered first epochs keep) are all in
    record {
      numbers = λ id. put id ∙ ap (cond (nat_eq d.id id) None) (held.numbers id) ∙ sym (number-pop id first d ds held.once);
      once = others_apart d ds held.once;
      rising = held.rising.1;
      counted = omega (arith, held.counted, counts, epoch_count-pop d ds held.rising);
      within = λ n is. ((held.within n is).0, omega (arith, (held.within n is).1, counts));
    }

-- ---- the greatest epoch

-- 1 for yes
abbrev pub one : Bool → ℕ
one b = cond b 1 0

-- a test says whether the epoch is a new one
pub fresh_by : (e : ℕ) (ds : List Done) (b : Bool) → b ≡ not (has_epoch e ds) → fresh e (epochs_of ds) ≡ one b
fresh_by e ds b is = by (has_epoch e ds) ∙ sym (ap one is)
  where
    by : (h : Bool) → cond h 0 1 ≡ one (not h)
    by true = refl
    by false = refl

pub up_to_from : (n : ℕ) (ds : List Done) → newest_epoch ds ≤ n → AreUpTo n ds
up_to_from n [] h = tt
up_to_from n (d ∷ ds) h = (omega arith, up_to_from n ds (omega arith))

pub newest_from : (n : ℕ) (ds : List Done) → AreUpTo n ds → newest_epoch ds ≤ n
newest_from n [] h = omega arith
newest_from n (d ∷ ds) h = omega (arith, h.0, newest_from n ds h.1)

pub newest-push : (ds : List Done) (d : Done) → AreUpTo d.epoch ds → newest_epoch (ds ++ d ∷ []) ≡ d.epoch
newest-push [] d h = omega arith
newest-push (x ∷ xs) d h = omega (arith, h.0, newest-push xs d h.1)

-- it is the last one's
pub last_newest : (ds : List Done) (l : Done) (place : ℕ) → NeverFall ds → length ds ≡ place + 1 → slice_get ds place ≡ Some l → newest_epoch ds ≡ l.epoch
last_newest [] l place rising long at = absurd (omega arith)
last_newest (x ∷ []) l place rising long at =
    let first : place ≡ 0 = omega arith in
    let is : x ≡ l = same_Some x l (ap (slice_get (x ∷ [])) (sym first) ∙ at) in
    (let one : max x.epoch 0 ≡ x.epoch = omega arith in one) ∙ ap (λ (d : Done). d.epoch) is
last_newest (x ∷ y ∷ ys) l place rising long at =
    let more : place ≡ suc (place - 1) = omega arith in
    let rest : newest_epoch (y ∷ ys) ≡ l.epoch = last_newest (y ∷ ys) l (place - 1) rising.1 (omega arith) (ap (slice_get (x ∷ y ∷ ys)) (sym more) ∙ at) in
    let low : x.epoch ≤ y.epoch = rising.0.0 in
    omega (arith, rest, low)

newest_in : (d : Done) (ds : List Done) → NeverFall (d ∷ ds) → is_in (newest_epoch (d ∷ ds)) (epochs_of (d ∷ ds)) ≡ true
newest_in d [] rising = ap (λ b. b || false) ((unsigned_Decides (max d.epoch 0) d.epoch).1 (omega arith))
newest_in d (x ∷ xs) rising =
    let low : d.epoch ≤ x.epoch = rising.0.0 in
    let same : newest_epoch (d ∷ x ∷ xs) ≡ newest_epoch (x ∷ xs) = omega (arith, low) in
    ap (λ n. nat_eq n d.epoch || is_in n (epochs_of (x ∷ xs))) same ∙ either (nat_eq (newest_epoch (x ∷ xs)) d.epoch) (newest_in x xs rising.1)
  where
    either : (b : Bool) → is_in (newest_epoch (x ∷ xs)) (epochs_of (x ∷ xs)) ≡ true → (b || is_in (newest_epoch (x ∷ xs)) (epochs_of (x ∷ xs))) ≡ true
    either true h = refl
    either false h = h

-- an epoch up to which the Dones are is the greatest one exactly where one is of it
pub newest_is : (e : ℕ) (d : Done) (ds : List Done) → NeverFall (d ∷ ds) → AreUpTo e (d ∷ ds) → nat_eq (newest_epoch (d ∷ ds)) e ≡ is_in e (epochs_of (d ∷ ds))
newest_is e d ds rising up = by (nat_eq (newest_epoch (d ∷ ds)) e) refl
  where
    below : (xs : List Done) (n : ℕ) → AreUpTo n xs → n < e → is_in e (epochs_of xs) ≡ false
    below [] n h less = refl
    below (x ∷ xs) n h less = let other : nat_eq e x.epoch ≡ false = (let le : x.epoch ≤ n = h.0 in grind arith) in ap (λ b. b || is_in e (epochs_of xs)) other ∙ below xs n h.1 less

    by : (b : Bool) → nat_eq (newest_epoch (d ∷ ds)) e ≡ b → b ≡ is_in e (epochs_of (d ∷ ds))
    by true same = sym (ap (λ n. is_in n (epochs_of (d ∷ ds))) (sym ((unsigned_Decides (newest_epoch (d ∷ ds)) e).0 same)) ∙ newest_in d ds rising)
    by false other =
        let high : newest_epoch (d ∷ ds) ≤ e = newest_from e (d ∷ ds) up in
        let less : newest_epoch (d ∷ ds) < e = grind (arith, high) in
        sym (below (d ∷ ds) (newest_epoch (d ∷ ds)) (up_to_from (newest_epoch (d ∷ ds)) (d ∷ ds) (omega arith)) less)

pub newest_is_in : (e : ℕ) (ds : List Done) → 0 < length ds → NeverFall ds → AreUpTo e ds → nat_eq (newest_epoch ds) e ≡ is_in e (epochs_of ds)
newest_is_in e [] some rising up = absurd (omega arith)
newest_is_in e (d ∷ ds) some rising up = newest_is e d ds rising up
