-- The Dones that an opened store keeps: each id once, epoch by epoch, and all below the next one.
use Rattle.std.proofs.Common.{◌≡◌, ℕ, ◌<◌, ◌≤◌, Bool, true, false, cond, nat_eq, List, [], ◌∷◌, ◌++◌, filter, length, length-append, Option, None, Some, refl, sym, subst, append_assoc, append-nil, arith}
use Rattle.std.specs.List.{AllByRecursion, IsDistinct, flat_map}
use Rattle.coco_types.specs.Limits.{most_batch_lines, most_kept}
use Rattle.coco_types.specs.declared.call.Done.{Done}
use Rattle.coco_ast.specs.Fitting.{Fits}
use Rattle.coco_ast.specs.History.{IsBefore, IsRising, floor_of, is_held}
use Rattle.coco_ast.proofs.Lists.{all_append, all_both, all_from_map, all_map, all_weaker, filter_all}
use Rattle.coco_bytes.specs.Lists.{FitInTurn}
use Rattle.coco_entry.specs.declared.commit.Commit.{Commit}
use Rattle.coco_entry.specs.Commits.{IsCommit, IsDoneOf}
use Rattle.coco_kept.specs.Holding.{NeverFall}
use Rattle.coco_kept.specs.Keeping.{HasDistinctIds, HoldsKept, Keeping}
use Rattle.coco_load.proofs.Adding.{base_dones_follow, committed_dones_follow}
use Rattle.coco_rules.proofs.JudgedLemmas.{each_more}
use Rattle.coco_store.specs.Entries.{BaseEntry}
use Rattle.coco_store.specs.Rules.{EachBehind, HasRoom, IsCommittedDone, IsKeptDone, IsNextBase, IsNextCommit, IsNextDone, IsKeep, Setting, commit_epochs, dones_in, dones_of, floor_in, kept_dones}
use Rattle.coco_recover.specs.Bases.{entries_of}
use Rattle.coco_recover.specs.Commits.{AreRemembered, basis_of_committed}
use Rattle.coco_recover.specs.Opening.{AreKeptBelow}
use Rattle.coco_recover.specs.declared.commits.Committed.{Committed}
use Rattle.coco_recover.proofs.Basing.{more_kept}
use Rattle.coco_recover.proofs.Committing.{more_dones}
use Rattle.coco_recover.proofs.Few.{AreFew, few_kept, few_more, filter_keeps}

-- ---- entry after entry

module _ (s : Setting) (Good : List Done → Type 0) where
  base_so : ((before : List BaseEntry) (x : BaseEntry) → EachBehind (IsNextBase s) [] before → IsNextBase s before x → Good (kept_dones before) → Good (kept_dones before ++ dones_of x))
      → (before xs : List BaseEntry) → EachBehind (IsNextBase s) [] before → EachBehind (IsNextBase s) before xs → Good (kept_dones before) → Good (kept_dones (before ++ xs))
  base_so step before [] each more good = subst (λ (l : List BaseEntry). Good (kept_dones l)) (sym (append-nil before)) good
  base_so step before (x ∷ xs) each more good =
      let now : Good (kept_dones (before ++ x ∷ [])) = subst Good (sym (more_kept before x)) (step before x each more.0 good) in
      subst (λ (l : List BaseEntry). Good (kept_dones l)) (append_assoc before (x ∷ []) xs)
      (base_so step (before ++ x ∷ []) xs (each_more (IsNextBase s) [] before x each more.0) more.1 now)

  module _ (base : List BaseEntry) where
    abbrev dones_behind : List Commit → List Done
    dones_behind commits = kept_dones base ++ dones_in commits

    commits_so : ((before : List Commit) (x : Commit) → EachBehind (IsNextCommit s base) [] before → IsNextCommit s base before x → Good (dones_behind before) → Good (dones_behind before ++ x.dones))
        → (before xs : List Commit) → EachBehind (IsNextCommit s base) [] before → EachBehind (IsNextCommit s base) before xs → Good (dones_behind before) → Good (dones_behind (before ++ xs))
    commits_so step before [] each more good = subst (λ (l : List Commit). Good (dones_behind l)) (sym (append-nil before)) good
    commits_so step before (x ∷ xs) each more good =
        let now : Good (dones_behind (before ++ x ∷ [])) = subst Good (sym (more_dones base before x)) (step before x each more.0 good) in
        subst (λ (l : List Commit). Good (dones_behind l)) (append_assoc before (x ∷ []) xs)
        (commits_so step (before ++ x ∷ []) xs (each_more (IsNextCommit s base) [] before x each more.0) more.1 now)

-- ---- each id once, epoch by epoch

abbrev Good : List Done → Type 0
Good ds = HasDistinctIds ds × NeverFall ds

none_good : Good []
unfolding IsDistinct
none_good = (tt, tt)

-- all of them are kept
abbrev whole : List Done → Keeping
whole ds = record { dones = ds; floor = floor_of None None ds; keep = None; room = 0 }

holds_whole : (ds : List Done) → HoldsKept (whole ds) None ds
holds_whole ds = record { kept = sym (filter_all (is_held None ds) (λ _. refl) ds); floor = refl }

all_good : (s : Setting) (base : List BaseEntry) (commits : List Commit) → EachBehind (IsNextBase s) [] base → EachBehind (IsNextCommit s base) [] commits
    → Good (kept_dones base ++ dones_in commits)
all_good s base commits each_base each =
    let first : Good (kept_dones base) = base_so s Good
    (λ before x behind next _. let follows = base_dones_follow s (whole (kept_dones before)) None before x behind next (holds_whole (kept_dones before)) in (follows.0.once, follows.1))
    [] base tt each_base none_good in
    commits_so s Good base
    (λ before x behind next _.
    let added = kept_dones base ++ dones_in before in
    let follows = committed_dones_follow s (whole added) None base before x each_base behind next (holds_whole added) in (follows.0.once, follows.1))
    [] commits tt each (subst Good (sym (append-nil (kept_dones base))) first)

-- ---- in order

rising_more : (ds : List Done) (d : Done) → IsRising ds → AllByRecursion (λ x. IsBefore x d) ds → IsRising (ds ++ d ∷ [])
rising_more [] d rising all = (tt, tt)
rising_more (x ∷ ds) d rising all = (all_append (λ (e : Done). IsBefore x e) ds (d ∷ []) rising.0 (all.0, tt), rising_more ds d rising.1 all.1)

filter_rising : (p : Done → Bool) (xs : List Done) → IsRising xs → IsRising (filter p xs)
filter_rising p [] rising = rising
filter_rising p (x ∷ xs) rising = elim (p x) as (λ b. IsRising (cond b (x ∷ filter p xs) (filter p xs))) [
  | true ↦ (filter_keeps (λ (e : Done). IsBefore x e) p xs rising.0, filter_rising p xs rising.1)
  | false ↦ filter_rising p xs rising.1
]

-- ---- calls that fit, in order, and not too many

pub record IsBounded (s : Setting) (ds : List Done) : Type 0 where
  pub fit : AllByRecursion (λ d. Fits s.tree d.call) ds
  pub rising : IsRising ds
  pub few : AreFew most_batch_lines ds
  pub room : s.entry.keep ≡ None → length ds ≤ most_kept

room_more : (keep : Option ℕ) (ds : List Done) (d : Done) → HasRoom keep ds → keep ≡ None → length (ds ++ d ∷ []) ≤ most_kept
room_more None ds d room is = simp length-append (omega (arith, room))
room_more (Some n) ds d room is = let no : ◌≡◌ {A = Option ℕ} (Some n) None = is in cc

module _ (s : Setting) where
  one_bounded : (ds : List Done) (d : Done) → IsBounded s ds → IsNextDone s ds d → IsBounded s (ds ++ d ∷ [])
  one_bounded ds d was next = record {
    fit = all_append (λ (x : Done). Fits s.tree x.call) ds (d ∷ []) was.fit (next.fits, tt);
    rising = rising_more ds d was.rising next.rises;
    few = few_more most_batch_lines ds d was.few next.few;
    room = room_more s.entry.keep ds d next.room;
  }

  more_bounded : (Rule : List Done → Done → Type 0) → ((before : List Done) (d : Done) → Rule before d → IsNextDone s before d) → (before ds : List Done) → EachBehind Rule before ds → IsBounded s before → IsBounded s (before ++ ds)
  more_bounded Rule next before [] each was = subst (IsBounded s) (sym (append-nil before)) was
  more_bounded Rule next before (d ∷ ds) each was =
      subst (IsBounded s) (append_assoc before (d ∷ []) ds) (more_bounded Rule next (before ++ d ∷ []) ds each.1 (one_bounded before d was (next before d each.0)))

  all_bounded : (base : List BaseEntry) (commits : List Commit) → EachBehind (IsNextBase s) [] base → EachBehind (IsNextCommit s base) [] commits → IsBounded s (kept_dones base ++ dones_in commits)
  all_bounded base commits each_base each =
      let none : IsBounded s [] = record { fit = tt; rising = tt; few = λ e. omega arith; room = λ _. omega arith } in
      let first : IsBounded s (kept_dones base) = base_so s (IsBounded s)
      (λ before x _ next was. more_bounded (IsKeptDone s) (λ _ _ is. is.next) (kept_dones before) (dones_of x) next.dones was) [] base tt each_base none in
      commits_so s (IsBounded s) base
      (λ before x _ next was. more_bounded (IsCommittedDone s base) (λ _ _ is. is.next) (kept_dones base ++ dones_in before) x.dones next.dones was)
      [] commits tt each (subst (IsBounded s) (sym (append-nil (kept_dones base))) first)

-- ---- below the next epoch

module _ {A : Type 0} (Rule : List A → A → Type 0) (P : A → Type 0) (weaker : (before : List A) (x : A) → Rule before x → P x) where
  pub each_all : (before xs : List A) → EachBehind Rule before xs → AllByRecursion P xs
  each_all before [] each = tt
  each_all before (x ∷ xs) each = (weaker before x each.0, each_all (before ++ x ∷ []) xs each.1)

pub flat_all : {A B : Type 0} (P : B → Type 0) (f : A → List B) (xs : List A) → AllByRecursion (λ x. AllByRecursion P (f x)) xs → AllByRecursion P (flat_map f xs)
flat_all P f [] all = tt
flat_all P f (x ∷ xs) all = all_append P (f x) (flat_map f xs) all.0 (flat_all P f xs all.1)

of_epoch : (epoch : ℕ) (before : Option Done) (dones : List Done) → FitInTurn (λ _. IsDoneOf epoch) before dones → AllByRecursion (λ (d : Done). d.epoch ≡ epoch) dones
of_epoch epoch before [] fit = tt
of_epoch epoch before (d ∷ dones) fit = (fit.0.0, of_epoch epoch _ dones fit.1)

below_all : (s : Setting) (base : List BaseEntry) (commits : List Commit) (next : ℕ) → EachBehind (IsNextBase s) [] base → AllByRecursion IsCommit commits
    → s.entry.layout.base_epoch < next → AllByRecursion (λ (e : ℕ). e < next) (commit_epochs commits) → AllByRecursion (λ (d : Done). d.epoch < next) (kept_dones base ++ dones_in commits)
below_all s base commits next each_base are first epochs =
    let below = λ (d : Done). d.epoch < next in
    all_append below (kept_dones base) (dones_in commits)
    (flat_all below dones_of base (each_all (IsNextBase s) (λ (e : BaseEntry). AllByRecursion below (dones_of e))
    (λ before e is. each_all (IsKeptDone s) below (λ _ d kept. omega (arith, kept.epoch.1, first)) (kept_dones before) (dones_of e) is.dones) [] base each_base))
    (flat_all below (λ (c : Commit). c.dones) commits
    (all_both IsCommit (λ (c : Commit). c.epoch < next) (λ (c : Commit). AllByRecursion below c.dones)
    (λ c is less. all_weaker (λ (d : Done). d.epoch ≡ c.epoch) below (λ d same. omega (arith, same, less)) c.dones (of_epoch c.epoch None c.dones is.dones))
    commits are (all_from_map (λ (c : Commit). c.epoch) (λ (e : ℕ). e < next) commits epochs)))

-- ---- the kept ones

apart : (x : Done) (xs : List Done) → HasDistinctIds (x ∷ xs) → AllByRecursion (λ (d : Done). nat_eq x.id d.id ≡ false) xs × HasDistinctIds xs
unfolding IsDistinct
apart x xs once = (all_from_map (λ (d : Done). d.id) (λ y. nat_eq x.id y ≡ false) xs once.0, once.1)

joined : (x : Done) (xs : List Done) → AllByRecursion (λ (d : Done). nat_eq x.id d.id ≡ false) xs → HasDistinctIds xs → HasDistinctIds (x ∷ xs)
unfolding IsDistinct
joined x xs others once = (all_map (λ (d : Done). d.id) (λ y. nat_eq x.id y ≡ false) xs others, once)

filter_once : (p : Done → Bool) (xs : List Done) → HasDistinctIds xs → HasDistinctIds (filter p xs)
filter_once p [] once = once
filter_once p (x ∷ xs) once = (
    let parts = apart x xs once in
    elim (p x) as (λ b. HasDistinctIds (cond b (x ∷ filter p xs) (filter p xs))) [
      | true ↦ joined x (filter p xs) (filter_keeps (λ (d : Done). nat_eq x.id d.id ≡ false) p xs parts.0) (filter_once p xs parts.1)
      | false ↦ filter_once p xs parts.1
    ])

module _ (s : Setting) (committed : Committed)
    (are : AreRemembered (basis_of_committed s committed) committed.commits.items committed.kept committed.epochs.items committed.next) where
  abbrev base : List BaseEntry
  base = entries_of committed.base.items

  abbrev commits : List Commit
  commits = committed.commits.items

  abbrev added : List Done
  added = kept_dones base ++ dones_in commits

  pub keeps_below : (next : ℕ) → s.entry.layout.base_epoch < next → AllByRecursion (λ (e : ℕ). e < next) (commit_epochs commits) → AreKeptBelow s.tree committed.kept next
  keeps_below next first epochs =
      let good = all_good s base commits are.base are.each in
      let bounded = all_bounded s base commits are.base are.each in
      let is_kept = is_held committed.kept.keep added in
      record {
        before = floor_in base;
        added = added;
        holds = are.kept;
        rising = good.1;
        below = below_all s base commits next are.base are.are first epochs;
        few = bounded.few;
        in_order = subst IsRising (sym are.kept.kept) (filter_rising is_kept added bounded.rising);
        once = subst HasDistinctIds (sym are.kept.kept) (filter_once is_kept added good.0);
        fit = subst (AllByRecursion (λ (d : Done). Fits s.tree d.call)) (sym are.kept.kept) (filter_keeps (λ (d : Done). Fits s.tree d.call) is_kept added bounded.fit);
      }

  pub keeps_few : IsKeep s.entry.keep → committed.kept.keep ≡ s.entry.keep → length committed.kept.dones ≤ most_kept
  keeps_few may is =
      let good = all_good s base commits are.base are.each in
      let bounded = all_bounded s base commits are.base are.each in
      few_kept s.entry.keep (floor_in base) added committed.kept are.kept is may good.1 bounded.few bounded.room
