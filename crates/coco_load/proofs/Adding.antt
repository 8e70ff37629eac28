-- Dones that entries hold follow one another, and numbers of epochs.
use Rattle.std.proofs.Common.{◌≡◌, inl, inr, ℕ, ◌+◌, ◌<◌, ◌≤◌, Bool, true, false, cond, max, nat_eq, nat_lt, List, [], ◌∷◌, ◌++◌, append-nil, append_assoc, map, Option, None, Some, refl, sym, ap, ◌∙◌, subst, arith}
use Rattle.std.specs.List.{IsDistinct, flat_map}
use Rattle.std.specs.Set.{is_member}
use Rattle.std.proofs.lemmas.Bool.{eq-eqb, ltb-false, ltb-true, or_left, or_parts, or_right}
use Rattle.std.proofs.lemmas.List.Concat.{flat_map-append}
use Rattle.std.proofs.lemmas.List.Folds.{list_any-append}
use Rattle.coco_types.specs.declared.call.Done.{Done}
use Rattle.coco_ast.specs.History as history
use Rattle.coco_ast.specs.History.{IsBefore, done_of, floor_of, ids_of, is_held, kept_of}
use Rattle.coco_ast.proofs.Lists.{all_append, all_weaker}
use Rattle.coco_entry.specs.declared.commit.Commit.{Commit}
use Rattle.coco_kept.specs.Holding.{AreUpTo, MayFollow, NeverFall}
use Rattle.coco_kept.specs.Keeping.{HasDistinctIds, HoldsKept, Keeping}
use Rattle.coco_kept.proofs.Numbers.{apart-push}
use Rattle.coco_kept.proofs.Adding.{never_fall-filter, once-filter}
use Rattle.coco_store.specs.Contents.{epoch_of}
use Rattle.coco_store.specs.Entries.{BaseEntry}
use Rattle.coco_store.specs.Rules.{EachBehind, IsCommittedDone, IsKeptDone, IsNextBase, IsNextCommit, IsNextDone, Setting, dones_in, dones_of, floor_in, kept_dones}
use Rattle.coco_load.specs.Epochs.{IsNextTo}
use Rattle.coco_load.specs.Laws.{BaseDonesFollow, CommittedDonesFollow, EpochsBegin, KeptAreTheHistory}

-- ---- Dones that stand in good files

abbrev Good : List Done → Type 0
Good ds = NeverFall ds × HasDistinctIds ds

never_fall-push : (ds : List Done) (d : Done) → NeverFall ds → AreUpTo d.epoch ds → NeverFall (ds ++ d ∷ [])
never_fall-push [] d rising up = (tt, tt)
never_fall-push (x ∷ xs) d rising up = (all_append (λ (e : Done). x.epoch ≤ e.epoch) xs (d ∷ []) rising.0 (up.0, tt), never_fall-push xs d rising.1 up.1)

new_id : (ds : List Done) (id : ℕ) → is_member nat_eq (ids_of ds) id ≡ false → done_of id ds ≡ None
new_id [] id absent = refl
new_id (d ∷ ds) id absent = (
    let both = or_parts (nat_eq id d.id) (is_member nat_eq (ids_of ds) id) absent in
    ap (λ (b : Bool). cond b (Some d) (done_of id ds)) both.0 ∙ new_id ds id both.1)

not_later : (d e : Done) → IsBefore d e → d.epoch ≤ e.epoch
not_later d e before = elim before as (λ _. d.epoch ≤ e.epoch) [
  | inl less ↦ omega arith
  | inr same ↦ omega (arith, same.0)
]

good-push : (s : Setting) (before : List Done) (d : Done) → Good before → IsNextDone s before d → Good (before ++ d ∷ [])
good-push s before d good next = (
  never_fall-push before d good.0 (all_weaker (λ (x : Done). IsBefore x d) (λ (x : Done). x.epoch ≤ d.epoch) (λ x h. not_later x d h) before next.rises),
  apart-push before d good.1 (new_id before d.id next.new),
)

good_behind : (s : Setting) (before ds : List Done) → Good before → EachBehind (IsNextDone s) before ds → Good (before ++ ds)
good_behind s before [] good each = subst Good (sym (append-nil before)) good
good_behind s before (d ∷ ds) good each = subst Good (append_assoc before (d ∷ []) ds) (good_behind s (before ++ d ∷ []) ds (good-push s before d good each.0) each.1)

none_good : Good []
unfolding IsDistinct
none_good = (tt, tt)

good_all : (s : Setting) (ds : List Done) → EachBehind (IsNextDone s) [] ds → Good ds
good_all s ds each = good_behind s [] ds none_good each

follows : (k : Keeping) (before : Option ℕ) (added dones : List Done) → HoldsKept k before added → Good (added ++ dones) → MayFollow k dones
follows k before added dones h good = record {
  once = subst (λ (ds : List Done). HasDistinctIds (ds ++ dones)) (sym h.kept) (once-filter (is_held k.keep added) added dones good.1);
  rising = subst (λ (ds : List Done). NeverFall (ds ++ dones)) (sym h.kept) (never_fall-filter (is_held k.keep added) added dones good.0);
}

-- ---- entry after entry

module _ {A : Type 0} (Rule Other : List A → A → Type 0) where
  each_weaker : ((before : List A) (x : A) → Rule before x → Other before x) → (before xs : List A) → EachBehind Rule before xs → EachBehind Other before xs
  each_weaker f before [] each = tt
  each_weaker f before (x ∷ xs) each = (f before x each.0, each_weaker f (before ++ x ∷ []) xs each.1)

module _ {A : Type 0} (Rule : List A → A → Type 0) where
  each_join : (before xs ys : List A) → EachBehind Rule before xs → EachBehind Rule (before ++ xs) ys → EachBehind Rule before (xs ++ ys)
  each_join before [] ys each behind = subst (λ (l : List A). EachBehind Rule l ys) (append-nil before) behind
  each_join before (x ∷ xs) ys each behind = (each.0, each_join (before ++ x ∷ []) xs ys each.1 (subst (λ (l : List A). EachBehind Rule l ys) (sym (append_assoc before (x ∷ []) xs)) behind))

module _ {E A : Type 0} (Rule : List E → E → Type 0) (Item : List A → A → Type 0) (f : E → List A) (start : List A) (has : (before : List E) (e : E) → Rule before e → EachBehind Item (start ++ flat_map f before) (f e)) where
  one_further : (before : List E) (e : E) → start ++ flat_map f (before ++ e ∷ []) ≡ (start ++ flat_map f before) ++ f e
  one_further before e =
      ap (λ (l : List A). start ++ l) (flat_map-append f before (e ∷ []) ∙ ap (λ (l : List A). flat_map f before ++ l) (append-nil (f e)))
      ∙ sym (append_assoc start (flat_map f before) (f e))

  each_flat : (before es : List E) → EachBehind Rule before es → EachBehind Item (start ++ flat_map f before) (flat_map f es)
  each_flat before [] each = tt
  each_flat before (e ∷ es) each =
      each_join Item (start ++ flat_map f before) (f e) (flat_map f es) (has before e each.0)
      (subst (λ (l : List A). EachBehind Item l (flat_map f es)) (one_further before e) (each_flat (before ++ e ∷ []) es each.1))

of_entry : (s : Setting) (before : List BaseEntry) (entry : BaseEntry) → IsNextBase s before entry → EachBehind (IsNextDone s) (kept_dones before) (dones_of entry)
of_entry s before entry next = each_weaker (IsKeptDone s) (IsNextDone s) (λ _ d is. is.next) (kept_dones before) (dones_of entry) next.dones

of_base : (s : Setting) (entries : List BaseEntry) → EachBehind (IsNextBase s) [] entries → EachBehind (IsNextDone s) [] (kept_dones entries)
of_base s entries each = each_flat (IsNextBase s) (IsNextDone s) dones_of [] (of_entry s) [] entries each

pub base_dones_follow : BaseDonesFollow
base_dones_follow s k before entries entry each next holds =
    let good : Good (kept_dones entries ++ dones_of entry) =
    good_all s (kept_dones entries ++ dones_of entry) (each_join (IsNextDone s) [] (kept_dones entries) (dones_of entry) (of_base s entries each) (of_entry s entries entry next)) in
    (follows k before (kept_dones entries) (dones_of entry) holds good, good.0)

of_commit : (s : Setting) (base : List BaseEntry) (before : List Commit) (commit : Commit) → IsNextCommit s base before commit → EachBehind (IsNextDone s) (kept_dones base ++ dones_in before) commit.dones
of_commit s base before commit next = each_weaker (IsCommittedDone s base) (IsNextDone s) (λ _ d is. is.next) (kept_dones base ++ dones_in before) commit.dones next.dones

of_commits : (s : Setting) (base : List BaseEntry) (commits : List Commit) → EachBehind (IsNextCommit s base) [] commits → EachBehind (IsNextDone s) (kept_dones base) (dones_in commits)
of_commits s base commits each =
    subst (λ (l : List Done). EachBehind (IsNextDone s) l (dones_in commits)) (append-nil (kept_dones base))
    (each_flat (IsNextCommit s base) (IsNextDone s) (λ (c : Commit). c.dones) (kept_dones base) (of_commit s base) [] commits each)

pub committed_dones_follow : CommittedDonesFollow
committed_dones_follow s k before base commits commit each_base each next holds =
    let all : List Done = kept_dones base ++ dones_in commits in
    let good : Good (all ++ commit.dones) =
    good_all s (all ++ commit.dones) (each_join (IsNextDone s) [] all commit.dones (each_join (IsNextDone s) [] (kept_dones base) (dones_in commits) (of_base s base each_base) (of_commits s base commits each)) (of_commit s base commits commit next)) in
    (follows k before all commit.dones holds good, good.0)

-- ---- the history's

same_dones : (commits : List Commit) → dones_in commits ≡ history.dones_in (map epoch_of commits)
same_dones [] = refl
same_dones (c ∷ cs) = ap (λ (ds : List Done). c.dones ++ ds) (same_dones cs)

pub kept_are_the_history : KeptAreTheHistory
kept_are_the_history c k keep is holds = (
  holds.kept ∙ ap (λ (n : Option ℕ). kept_of n (kept_dones c.base ++ dones_in c.commits)) is ∙ ap (λ (ds : List Done). kept_of keep (kept_dones c.base ++ ds)) (same_dones c.commits),
  holds.floor ∙ ap (λ (n : Option ℕ). floor_of n (floor_in c.base) (kept_dones c.base ++ dones_in c.commits)) is ∙ ap (λ (ds : List Done). floor_of keep (floor_in c.base) (kept_dones c.base ++ ds)) (same_dones c.commits),
)

-- ---- epochs

last_in : (x : ℕ) → is_member nat_eq (x ∷ []) x ≡ true
last_in x = or_left (nat_eq x x) false (eq-eqb x x refl)

pub epochs_begin : EpochsBegin
epochs_begin base = record { above = ((omega arith), tt); greatest = base; one = last_in base; next = refl }

pub next_more : (epochs : List ℕ) (next epoch result : ℕ) → result ≡ max next (epoch + 1) → IsNextTo epochs next → IsNextTo (epochs ++ epoch ∷ []) result
next_more epochs next epoch result is so = elim (nat_lt epoch next) as (λ b. nat_lt epoch next ≡ b → IsNextTo (epochs ++ epoch ∷ []) result) [
  | true ↦ λ t. (let less : epoch < next = ltb-true epoch next t in let same : result ≡ next = omega arith in record {
    above = all_append (λ e. e < result) epochs (epoch ∷ []) (all_weaker (λ e. e < next) (λ e. e < result) (λ e h. omega arith) epochs so.above) ((omega arith), tt);
    greatest = so.greatest;
    one = list_any-append (nat_eq so.greatest) epochs (epoch ∷ []) ∙ or_left (is_member nat_eq epochs so.greatest) (is_member nat_eq (epoch ∷ []) so.greatest) so.one;
    next = same ∙ so.next;
  })
  | false ↦ λ f. (let le : next ≤ epoch = ltb-false epoch next f in let same : result ≡ epoch + 1 = omega arith in record {
    above = all_append (λ e. e < result) epochs (epoch ∷ []) (all_weaker (λ e. e < next) (λ e. e < result) (λ e h. omega arith) epochs so.above) ((omega arith), tt);
    greatest = epoch;
    one = list_any-append (nat_eq epoch) epochs (epoch ∷ []) ∙ or_right (is_member nat_eq epochs epoch) (is_member nat_eq (epoch ∷ []) epoch) (last_in epoch);
    next = same;
  })
] refl
