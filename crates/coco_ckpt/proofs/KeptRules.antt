-- The Dones of a good store keep the rules of a history one behind another, and so do those of them that are kept.
use Rattle.std.proofs.Common.{◌≡◌, ℕ, ◌+◌, ◌<◌, ◌≤◌, Bool, nat_eq, List, [], ◌∷◌, ◌++◌, filter, length, map, Option, None, Some, refl, sym, subst, append-nil, arith}
use Rattle.std.specs.List.{AllByRecursion}
use Rattle.coco_types.specs.declared.call.Done.{Done}
use Rattle.coco_host.specs.Files.{Files}
use Rattle.coco_ast.specs.Fitting.{Fits}
use Rattle.coco_ast.specs.Tree.{Procedures}
use Rattle.coco_ast.specs.History.{HaveTheirNumbers, IsBefore, dones_in as dones_of_epochs}
use Rattle.coco_ast.proofs.Lists.{all_append, all_from_map}
use Rattle.coco_entry.specs.declared.commit.Commit.{Commit}
use Rattle.coco_entry.specs.declared.layout.LayoutEntry.{LayoutEntry}
use Rattle.coco_store.specs.Contents.{HoldsBase, epoch_of}
use Rattle.coco_store.specs.Entries.{BaseEntry}
use Rattle.coco_store.specs.Rules.{EachBehind, HasRoom, IsCommittedDone, IsKeptDone, IsNextBase, IsNextCommit, IsNextDone, Setting, commit_epochs, dones_in, dones_of, kept_dones}
use Rattle.coco_recover.proofs.Basing.{more_kept}
use Rattle.coco_recover.proofs.Committing.{more_dones}
use Rattle.coco_recover.proofs.Few.{filter_keeps}
use Rattle.coco_recover.proofs.Keeping.{each_all}
use Rattle.coco_ckpt.proofs.Filtering.{each_append, each_filtered, each_weaker, each_with, few_still, new_still, no_longer}

-- ---- all Dones

pub base_each : (files : Files) (s : Setting) (entries : List BaseEntry) (file : Option ℕ) → HoldsBase files s entries file → EachBehind (IsNextBase s) [] entries
base_each files s entries None is = subst (EachBehind (IsNextBase s) []) (sym is) tt
base_each files s entries (Some file) is = is.1.each

module _ (s : Setting) where
  base_dones : (before entries : List BaseEntry) → EachBehind (IsNextBase s) before entries → EachBehind (IsNextDone s) (kept_dones before) (kept_dones entries)
  base_dones before [] each = tt
  base_dones before (e ∷ entries) each =
      each_append (IsNextDone s) (kept_dones before) (dones_of e) (kept_dones entries)
      (each_weaker (IsKeptDone s) (IsNextDone s) (λ _ d is. is.next) (kept_dones before) (dones_of e) each.0.dones)
      (subst (λ (l : List Done). EachBehind (IsNextDone s) l (kept_dones entries)) (more_kept before e) (base_dones (before ++ e ∷ []) entries each.1))

  module _ (base : List BaseEntry) where
    commit_dones : (before commits : List Commit) → EachBehind (IsNextCommit s base) before commits → EachBehind (IsNextDone s) (kept_dones base ++ dones_in before) (dones_of_epochs (map epoch_of commits))
    commit_dones before [] each = tt
    commit_dones before (c ∷ commits) each =
        each_append (IsNextDone s) (kept_dones base ++ dones_in before) c.dones (dones_of_epochs (map epoch_of commits))
        (each_weaker (IsCommittedDone s base) (IsNextDone s) (λ _ d is. is.next) (kept_dones base ++ dones_in before) c.dones each.0.dones)
        (subst (λ (l : List Done). EachBehind (IsNextDone s) l (dones_of_epochs (map epoch_of commits))) (more_dones base before c) (commit_dones (before ++ c ∷ []) commits each.1))

    pub all_next : (commits : List Commit) → EachBehind (IsNextBase s) [] base → EachBehind (IsNextCommit s base) [] commits → EachBehind (IsNextDone s) [] (kept_dones base ++ dones_of_epochs (map epoch_of commits))
    all_next commits of_base of_commits =
        each_append (IsNextDone s) [] (kept_dones base) (dones_of_epochs (map epoch_of commits)) (base_dones [] base of_base)
        (subst (λ (l : List Done). EachBehind (IsNextDone s) l (dones_of_epochs (map epoch_of commits))) (append-nil (kept_dones base)) (commit_dones [] commits of_commits))

-- ---- their epochs

abbrev pub IsUpTo : ℕ → Done → Type 0
IsUpTo epoch d = (1 ≤ d.epoch) × (d.epoch ≤ epoch)

module _ (s : Setting) (epoch : ℕ) (first : s.entry.layout.base_epoch < epoch + 1) where
  base_within : (before entries : List BaseEntry) → EachBehind (IsNextBase s) before entries → AllByRecursion (IsUpTo epoch) (kept_dones entries)
  base_within before [] each = tt
  base_within before (e ∷ entries) each =
      all_append (IsUpTo epoch) (dones_of e) (kept_dones entries)
      (each_all (IsKeptDone s) (IsUpTo epoch) (λ _ d is. (is.epoch.0, omega (arith, is.epoch.1, first))) (kept_dones before) (dones_of e) each.0.dones)
      (base_within (before ++ e ∷ []) entries each.1)

  of_number : (number : ℕ) (ds : List Done) → s.entry.layout.base_epoch < number → number < epoch + 1 → AllByRecursion (λ (d : Done). d.epoch ≡ number) ds → AllByRecursion (IsUpTo epoch) ds
  of_number number [] above below all = tt
  of_number number (d ∷ ds) above below all = ((omega (arith, all.0, above), omega (arith, all.0, below)), of_number number ds above below all.1)

  commits_within : (base : List BaseEntry) (before commits : List Commit) → EachBehind (IsNextCommit s base) before commits → AllByRecursion (λ (c : Commit). c.epoch < epoch + 1) commits
      → HaveTheirNumbers (map epoch_of commits) → AllByRecursion (IsUpTo epoch) (dones_of_epochs (map epoch_of commits))
  commits_within base before [] each below numbered = tt
  commits_within base before (c ∷ commits) each below numbered =
      all_append (IsUpTo epoch) c.dones (dones_of_epochs (map epoch_of commits))
      (of_number c.epoch c.dones each.0.epoch.above_base below.0 numbered.0)
      (commits_within base (before ++ c ∷ []) commits each.1 below.1 numbered.1)

  pub all_within : (base : List BaseEntry) (commits : List Commit) → EachBehind (IsNextBase s) [] base → EachBehind (IsNextCommit s base) [] commits
      → AllByRecursion (λ (e : ℕ). e < epoch + 1) (commit_epochs commits) → HaveTheirNumbers (map epoch_of commits) → AllByRecursion (IsUpTo epoch) (kept_dones base ++ dones_of_epochs (map epoch_of commits))
  all_within base commits of_base of_commits below numbered =
      all_append (IsUpTo epoch) (kept_dones base) (dones_of_epochs (map epoch_of commits)) (base_within [] base of_base)
      (commits_within base [] commits of_commits (all_from_map (λ (c : Commit). c.epoch) (λ (e : ℕ). e < epoch + 1) commits below) numbered)

-- ---- the kept ones, under a layout of the same keep number

room_still : (keep : Option ℕ) (p : Done → Bool) (ds : List Done) → HasRoom keep ds → HasRoom keep (filter p ds)
room_still None p ds room = omega (arith, room, no_longer p ds)
room_still (Some n) p ds room = tt

module _ (s t : Setting) (tree : t.tree ≡ s.tree) (keep : t.entry.keep ≡ s.entry.keep) (p : Done → Bool) where
  next_still : (before : List Done) (d : Done) → IsNextDone s before d → IsNextDone t (filter p before) d
  next_still before d next = record {
    fits = subst (λ (tr : Procedures). Fits tr d.call) (sym tree) next.fits;
    time = next.time;
    rises = filter_keeps (λ (x : Done). IsBefore x d) p before next.rises;
    new = new_still p before d.id next.new;
    few =
        let fewer = few_still p (λ (x : Done). nat_eq x.epoch d.epoch) before in
        omega (arith, next.few, fewer);
    room = subst (λ k. HasRoom k (filter p before)) (sym keep) (room_still s.entry.keep p before next.room);
  }

  pub kept_next : (ds : List Done) → EachBehind (IsNextDone s) [] ds → AllByRecursion (IsUpTo t.entry.layout.base_epoch) ds → EachBehind (IsKeptDone t) [] (filter p ds)
  kept_next ds each within =
      each_with (IsNextDone t) (IsKeptDone t) (IsUpTo t.entry.layout.base_epoch) (λ before d next bounds. record { epoch = bounds; next = next }) [] (filter p ds)
      (each_filtered (IsNextDone s) (IsNextDone t) p next_still [] ds each)
      (filter_keeps (IsUpTo t.entry.layout.base_epoch) p ds within)
