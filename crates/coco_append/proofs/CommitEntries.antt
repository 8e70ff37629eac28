-- The Dones of an epoch that was run on a store's map keep the rules of a commit entry.
use Rattle.std.proofs.Common.{◌≡◌, ℕ, suc, ◌+◌, ◌<◌, ◌≤◌, Bool, true, false, cond, ◌||◌, nat_eq, List, [], ◌∷◌, ◌++◌, length, map, filter, inl, Option, None, Some, refl, sym, ap, ◌∙◌, subst, append_assoc, append-nil, length-append, true≢false, arith}
use Rattle.std.specs.List.{AllByRecursion, IsDistinct}
use Rattle.std.specs.Set.{is_member}
use Rattle.std.specs.Cmp.{nat_eq_equiv}
use Rattle.std.proofs.lemmas.Bool.{ltb-true}
use Rattle.std.proofs.lemmas.Bool.Decides.{nat_tests}
use Rattle.std.proofs.lemmas.List.{map-append}
use Rattle.std.proofs.lemmas.List.Elements.{recursion_from_All, All-from_recursion}
use Rattle.std.proofs.lemmas.List.Sorted.{All-permutation, length_permutation}
use Rattle.coco_types.specs.Limits.{most_batch_lines, most_kept, most_time}
use Rattle.coco_types.specs.declared.call.Done.{Done}
use Rattle.coco_types.specs.declared.call.Request.{Request}
use Rattle.coco_host.specs.Files.{Files}
use Rattle.coco_ast.specs.Fitting.{Fits}
use Rattle.coco_ast.specs.Growth.{GrowsBy, IsEpochOf}
use Rattle.coco_ast.specs.History.{AreAbove, AreTimed, Epoch, HaveTheirNumbers, History, IsBefore, IsOrdered, IsRising, all_dones, dones_in as dones_of_epochs, epoch_dones, followed_by, ids_of, is_timed, last_epoch, last_number, request_of}
use Rattle.coco_ast.proofs.GrowthLemmas.{dones_behind, dones_in-push, growth_keeps, stays_serial}
use Rattle.coco_ast.proofs.Lists.{all_append, all_from_map, all_left, all_right, all_weaker}
use Rattle.coco_entry.specs.declared.commit.Commit.{Commit}
use Rattle.coco_store.specs.Contents.{Contents, HoldsBase, IsGoodStore, epoch_of, history_of}
use Rattle.coco_store.specs.Entries.{BaseEntry}
use Rattle.coco_store.specs.Rules.{EachBehind, HasRoom, IsCommittedDone, IsKeptDone, IsNextBase, IsTime, Setting, commit_epochs, dones_in, dones_of, floor_in, kept_dones}
use Rattle.coco_append.specs.EpochEntries.{AreRun, HasRoomFor, IsNextIn, MayRun}

-- ---- lists

-- a rule holds of each item where it holds of each behind those ahead of it
each_by : {A : Type 0} (Rule : List A → A → Type 0) (before xs : List A) → ((ahead : List A) (x : A) (behind : List A) → xs ≡ ahead ++ x ∷ behind → Rule (before ++ ahead) x) → EachBehind Rule before xs
each_by Rule before [] each = tt
each_by Rule before (x ∷ xs) each = (
  subst (λ l. Rule l x) (append-nil before) (each [] x xs refl),
  each_by Rule (before ++ x ∷ []) xs (λ ahead y behind is. subst (λ l. Rule l y) (sym (append_assoc before (x ∷ []) ahead)) (each (x ∷ ahead) y behind (ap (λ l. x ∷ l) is))),
)

one_of : {A : Type 0} (P : A → Type 0) (ahead : List A) (x : A) (behind : List A) → AllByRecursion P (ahead ++ x ∷ behind) → P x
one_of P ahead x behind all = (all_right P ahead (x ∷ behind) all).0

rising_before : (ahead : List Done) (d : Done) (behind : List Done) → IsRising (ahead ++ d ∷ behind) → AllByRecursion (λ x. IsBefore x d) ahead
rising_before [] d behind rises = tt
rising_before (x ∷ ahead) d behind rises = (one_of (λ y. IsBefore x y) ahead d behind rises.0, rising_before ahead d behind rises.1)

new_before : (ahead : List ℕ) (x : ℕ) (behind : List ℕ) → IsDistinct nat_eq (ahead ++ x ∷ behind) → is_member nat_eq ahead x ≡ false
unfolding IsDistinct
new_before [] x behind once = refl
new_before (y ∷ ahead) x behind once =
    ap (λ b. b || is_member nat_eq ahead x) (nat_eq_equiv.symm x y ∙ one_of (λ z. nat_eq y z ≡ false) ahead x behind once.0) ∙ new_before ahead x behind once.1

few_passing : {A : Type 0} (p : A → Bool) (xs : List A) → length (filter p xs) ≤ length xs
few_passing p [] = omega arith
few_passing p (x ∷ xs) = elim (p x) as (λ b. length (cond b (x ∷ filter p xs) (filter p xs)) ≤ suc (length xs)) [
  | true ↦ (let h : length (filter p xs) ≤ length xs = few_passing p xs in omega arith)
  | false ↦ (let h : length (filter p xs) ≤ length xs = few_passing p xs in omega arith)
]

none_passing : {A : Type 0} (p : A → Bool) (xs ys : List A) → AllByRecursion (λ x. p x ≡ false) xs → length (filter p (xs ++ ys)) ≤ length ys
none_passing p [] ys none = few_passing p ys
none_passing p (x ∷ xs) ys none = elim (p x) as (λ b. b ≡ false → length (cond b (x ∷ filter p (xs ++ ys)) (filter p (xs ++ ys))) ≤ length ys) [
  | true ↦ λ e. absurd (true≢false e)
  | false ↦ λ _. none_passing p xs ys none.1
] none.0

-- ---- epochs below

other_epoch : (m n : ℕ) → m < n → nat_eq m n ≡ false
other_epoch m n below = grind (arith, nat_tests)

-- what the Dones of commit entries are, as Dones of epochs
same_dones : (commits : List Commit) → dones_of_epochs (map epoch_of commits) ≡ dones_in commits
same_dones [] = refl
same_dones (c ∷ commits) = ap (λ l. c.dones ++ l) (same_dones commits)

last_below : (m n : ℕ) (commits : List Commit) → m < n → AllByRecursion (λ e. e < n) (commit_epochs commits) → last_number m (map epoch_of commits) < n
last_below m n [] below all = below
last_below m n (c ∷ commits) below all = last_below c.epoch n commits all.0 all.1

dones_below : (n : ℕ) (commits : List Commit) → HaveTheirNumbers (map epoch_of commits) → AllByRecursion (λ e. e < n) (commit_epochs commits) → AllByRecursion (λ (d : Done). d.epoch < n) (dones_in commits)
dones_below n [] numbers all = tt
dones_below n (c ∷ commits) numbers all =
    all_append (λ (d : Done). d.epoch < n) c.dones (dones_in commits) (all_weaker _ _ (λ d is. (let lt : c.epoch < n = all.0 in omega arith)) c.dones numbers.0)
    (dones_below n commits numbers.1 all.1)

-- ---- the base

kept_of_one : (s : Setting) (before ds : List Done) → EachBehind (IsKeptDone s) before ds → AllByRecursion (λ (d : Done). d.epoch ≤ s.entry.layout.base_epoch) ds
kept_of_one s before [] each = tt
kept_of_one s before (d ∷ ds) each = (each.0.epoch.1, kept_of_one s (before ++ d ∷ []) ds each.1)

kept_of_all : (s : Setting) (before entries : List BaseEntry) → EachBehind (IsNextBase s) before entries → AllByRecursion (λ (d : Done). d.epoch ≤ s.entry.layout.base_epoch) (kept_dones entries)
kept_of_all s before [] each = tt
kept_of_all s before (e ∷ entries) each =
    all_append _ (dones_of e) (kept_dones entries) (kept_of_one s (kept_dones before) (dones_of e) each.0.dones) (kept_of_all s (before ++ e ∷ []) entries each.1)

kept_below : (files : Files) (s : Setting) (entries : List BaseEntry) (file : Option ℕ) → HoldsBase files s entries file → AllByRecursion (λ (d : Done). d.epoch ≤ s.entry.layout.base_epoch) (kept_dones entries)
kept_below files s entries None is = subst (λ es. AllByRecursion (λ (d : Done). d.epoch ≤ s.entry.layout.base_epoch) (kept_dones es)) (sym is) tt
kept_below files s entries (Some file) is = kept_of_all s [] entries is.1.each

-- ---- times

timed_is : (snapshot : Bool) (time : ℕ) → is_timed snapshot time ≡ true → time ≤ most_time → IsTime snapshot time
timed_is true time is few = grind (arith, nat_tests)
timed_is false time is few = (let lt : 0 < time = ltb-true 0 time is in (omega arith, few))

-- ---- a Done

above_one : (floor : Option ℕ) (ahead : List ℕ) (x : ℕ) (behind : List ℕ) → AreAbove floor (ahead ++ x ∷ behind) → AreAbove floor (x ∷ [])
above_one None ahead x behind above = tt
above_one (Some n) ahead x behind above = (one_of (λ id. n < id) ahead x behind above, tt)

has_room : (keep : Option ℕ) (before rest : List Done) (count : ℕ) → HasRoomFor keep count → length before + length rest < count → HasRoom keep (before ++ rest)
has_room None before rest count room less = (let e : length (before ++ rest) ≡ length before + length rest = length-append before rest in let r : count ≤ most_kept = room in omega arith)
has_room (Some k) before rest count room less = tt

module _ (files : Files) (c : Contents) (good : IsGoodStore files c) (requests : List Request) (epoch : ℕ) (may : MayRun c requests epoch) (dones : List Done) (run : AreRun c requests epoch dones) where
  abbrev s : Setting
  s = c.setting

  abbrev h : History
  h = history_of c

  abbrev commit : Commit
  commit = record { epoch = epoch; dones = dones }

  abbrev e : Epoch
  e = epoch_of commit

  -- those before the epoch's
  abbrev past : List Done
  past = kept_dones c.base ++ dones_in c.commits

  past_is : all_dones h ≡ past
  past_is = ap (λ l. kept_dones c.base ++ l) (same_dones c.commits)

  later : last_epoch h < epoch
  later = last_below s.entry.layout.base_epoch epoch c.commits may.next.above_base may.next.rises

  pub grown : GrowsBy h requests (followed_by h e)
  grown = by requests may.some run.each
    where
      by : (rs : List Request) → 0 < length rs → IsEpochOf rs e → GrowsBy h rs (followed_by h e)
      by [] some is = absurd (omega arith)
      by (r ∷ rs) some is = (e, later, is, refl)

  pub ordered : IsOrdered (followed_by h e)
  ordered = (growth_keeps h requests (followed_by h e) grown).ordered good.ordered may.new

  count : length dones ≡ length requests
  count = sym (length-map dones) ∙ length_permutation requests (map request_of dones) run.each.each
    where
      length-map : (ds : List Done) → length (map request_of ds) ≡ length ds
      length-map [] = refl
      length-map (d ∷ ds) = ap suc (length-map ds)

  fit : AllByRecursion (λ (d : Done). Fits s.tree d.call) dones
  fit = all_from_map request_of (λ (r : Request). Fits s.tree r.call) dones
      (recursion_from_All _ _ (All-permutation (λ (r : Request). Fits s.tree r.call) requests (map request_of dones) run.each.each (All-from_recursion _ requests may.fit)))

  past_below : AllByRecursion (λ (d : Done). d.epoch < epoch) past
  past_below = all_append _ (kept_dones c.base) (dones_in c.commits)
      (all_weaker _ _ (λ d le. (let b = may.next.above_base in omega (arith, b, le))) (kept_dones c.base) (kept_below files s c.base s.entry.base_file good.holds.history.base))
      (dones_below epoch c.commits good.ordered.numbered may.next.rises)

  whole : all_dones (followed_by h e) ≡ past ++ dones
  whole = dones_behind h e ∙ ap (λ l. l ++ dones) past_is

  module _ (ahead : List Done) (d : Done) (behind : List Done) (is : dones ≡ ahead ++ d ∷ behind) where
    whole_at : all_dones (followed_by h e) ≡ (past ++ ahead) ++ d ∷ behind
    whole_at = whole ∙ ap (λ l. past ++ l) is ∙ sym (append_assoc past ahead (d ∷ behind))

    of_epoch : d.epoch ≡ epoch
    of_epoch = one_of (λ (x : Done). x.epoch ≡ epoch) ahead d behind (subst (AllByRecursion (λ (x : Done). x.epoch ≡ epoch)) is run.each.numbered)

    epochs_at : epoch_dones (followed_by h e) ≡ (dones_in c.commits ++ ahead) ++ d ∷ behind
    epochs_at = dones_in-push h.epochs e ∙ ap (λ l. l ++ dones) (same_dones c.commits) ∙ ap (λ l. dones_in c.commits ++ l) is ∙ sym (append_assoc (dones_in c.commits) ahead (d ∷ behind))

    rises : AllByRecursion (λ x. IsBefore x d) (past ++ ahead)
    rises = subst (AllByRecursion (λ x. IsBefore x d)) (sym (append_assoc (kept_dones c.base) (dones_in c.commits) ahead))
        (all_append _ (kept_dones c.base) (dones_in c.commits ++ ahead)
        (all_weaker _ _ (λ x lt. inl (let f = of_epoch in omega (arith, lt, f))) (kept_dones c.base) (all_left _ (kept_dones c.base) (dones_in c.commits) past_below))
        (rising_before (dones_in c.commits ++ ahead) d behind (subst IsRising epochs_at ordered.rising)))

    ids_at : (xs : List Done) → ids_of (xs ++ d ∷ behind) ≡ ids_of xs ++ d.id ∷ ids_of behind
    ids_at xs = map-append (λ (x : Done). x.id) xs (d ∷ behind)

    new : is_member nat_eq (ids_of (past ++ ahead)) d.id ≡ false
    new = new_before (ids_of (past ++ ahead)) d.id (ids_of behind) (subst (IsDistinct nat_eq) (ap ids_of whole_at ∙ ids_at (past ++ ahead)) ordered.once)

    above : AreAbove (floor_in c.base) (d.id ∷ [])
    above = above_one (floor_in c.base) (ids_of (dones_in c.commits ++ ahead)) d.id (ids_of behind) (subst (AreAbove (floor_in c.base)) (ap ids_of epochs_at ∙ ids_at (dones_in c.commits ++ ahead)) ordered.above_floor)

    fewer : length ahead < length requests
    fewer = (let n = count in let m = ap length is ∙ length-append ahead (d ∷ behind) in omega (arith, n, m))

    few : length (filter (λ (x : Done). nat_eq x.epoch d.epoch) (past ++ ahead)) < most_batch_lines
    few =
        let others = none_passing (λ (x : Done). nat_eq x.epoch d.epoch) past ahead (all_weaker _ _ (λ x lt. other_epoch x.epoch d.epoch (let f = of_epoch in omega (arith, lt, f))) past past_below) in
        let less = fewer in
        let most = may.few in
        omega (arith, others, less, most)

    room : HasRoom s.entry.keep (past ++ ahead)
    room = has_room s.entry.keep past ahead (length (all_dones h) + length requests) may.room (let less = fewer in let p = ap length past_is in omega (arith, less, p))

    time : IsTime d.call.snapshot d.time
    time = timed_is d.call.snapshot d.time
        (one_of (λ (x : Done). is_timed x.call.snapshot x.time ≡ true) ahead d behind (subst AreTimed is run.times))
        (one_of (λ (x : Done). x.time ≤ most_time) ahead d behind (subst (AllByRecursion (λ (x : Done). x.time ≤ most_time)) is run.early))

    committed : IsCommittedDone s c.base (past ++ ahead) d
    committed = record {
      above = above;
      next = record {
        fits = one_of (λ (x : Done). Fits s.tree x.call) ahead d behind (subst (AllByRecursion (λ (x : Done). Fits s.tree x.call)) is fit);
        time = time;
        rises = rises;
        new = new;
        few = few;
        room = room;
      };
    }

  -- the Dones of the run, as a commit entry behind the others
  pub next_in : IsNextIn c requests commit
  next_in = record {
    next = record { epoch = may.next; dones = each_by (IsCommittedDone s c.base) past dones committed };
    ordered = ordered;
    serial = stays_serial s.tree h e good.serial run.replies run.times;
    grown = grown;
  }
