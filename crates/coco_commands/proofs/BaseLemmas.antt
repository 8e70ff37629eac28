-- Which of a store's Dones are those of its base: the first ones, up to the base's epoch.
use Rattle.std.proofs.Common.{◌≡◌, ℕ, ◌+◌, ◌<◌, ◌≤◌, Bool, true, false, cond, nat_eq, nat_le, List, [], ◌∷◌, ◌++◌, length, map, drop, Option, None, Some, refl, sym, ap, subst, ◌∙◌, arith}
use Rattle.std.specs.List.{AllByRecursion, prefix_len}
use Rattle.std.proofs.Math.Seq.{drop-append_seam}
use Rattle.std.proofs.lemmas.Bool.{le-leb, lt-leb, lt-ltb}
use Rattle.coco_types.specs.declared.call.Done.{Done}
use Rattle.coco_host.specs.Files.{Files}
use Rattle.coco_ast.specs.History.{AreTimed, dones_in, is_timed}
use Rattle.coco_ast.proofs.Lists.{all_append, all_weaker}
use Rattle.coco_bytes.specs.Lists.{FitInTurn}
use Rattle.coco_entry.specs.declared.commit.Commit.{Commit}
use Rattle.coco_entry.specs.Commits.{IsCommit, IsDoneOf}
use Rattle.coco_store.specs.Contents.{HoldsBase, epoch_of}
use Rattle.coco_store.specs.Entries.{BaseEntry}
use Rattle.coco_store.specs.Rules.{EachBehind, IsCommittedDone, IsKeptDone, IsNextBase, IsNextCommit, IsTime, Setting, dones_of, kept_dones}
use Rattle.coco_recover.proofs.Keeping.{each_all}

-- ---- lists

module _ {X : Type 0} (p : X → Bool) where
  -- of items that pass, and then items that don't, the first ones
  pub prefix_passing : (xs ys : List X) → AllByRecursion (λ x. p x ≡ true) xs → AllByRecursion (λ y. p y ≡ false) ys → prefix_len p (xs ++ ys) ≡ length xs
  prefix_passing [] [] pass fail = refl
  prefix_passing [] (y ∷ ys) pass fail = ap (λ b. cond b (1 + prefix_len p ys) 0) fail.0
  prefix_passing (x ∷ xs) ys pass fail =
      let rest : prefix_len p (xs ++ ys) ≡ length xs = prefix_passing xs ys pass.1 fail in
      ap (λ b. cond b (1 + prefix_len p (xs ++ ys)) 0) pass.0 ∙ omega (arith, rest)

  -- what is behind them
  pub behind_passing : (xs ys : List X) → AllByRecursion (λ x. p x ≡ true) xs → AllByRecursion (λ y. p y ≡ false) ys → drop (prefix_len p (xs ++ ys)) (xs ++ ys) ≡ ys
  behind_passing xs ys pass fail = ap (λ n. drop n (xs ++ ys)) (prefix_passing xs ys pass fail) ∙ drop-append_seam xs ys

-- ---- the base's

module _ (s : Setting) where
  abbrev Early : Done → Type 0
  Early d = d.epoch ≤ s.entry.layout.base_epoch

  abbrev Late : Done → Type 0
  Late d = s.entry.layout.base_epoch < d.epoch

  early_entries : (before entries : List BaseEntry) → EachBehind (IsNextBase s) before entries → AllByRecursion Early (kept_dones entries)
  early_entries before [] each = tt
  early_entries before (e ∷ entries) each =
      all_append Early (dones_of e) (kept_dones entries) (each_all (IsKeptDone s) Early (λ _ d is. is.epoch.1) (kept_dones before) (dones_of e) each.0.dones)
      (early_entries (before ++ e ∷ []) entries each.1)

  early_file : (files : Files) (entries : List BaseEntry) (file : Option ℕ) → HoldsBase files s entries file → AllByRecursion Early (kept_dones entries)
  early_file files entries None is = subst (λ es. AllByRecursion Early (kept_dones es)) (sym is) tt
  early_file files entries (Some file) is = early_entries [] entries is.1.each

  pub base_passes : (files : Files) (entries : List BaseEntry) (file : Option ℕ) → HoldsBase files s entries file
      → AllByRecursion (λ (d : Done). nat_le d.epoch s.entry.layout.base_epoch ≡ true) (kept_dones entries)
  base_passes files entries file is =
      all_weaker Early (λ (d : Done). nat_le d.epoch s.entry.layout.base_epoch ≡ true) (λ d early. le-leb d.epoch s.entry.layout.base_epoch early) (kept_dones entries) (early_file files entries file is)

  -- ---- the epochs'

  of_epoch : (epoch : ℕ) (before : Option Done) (dones : List Done) → FitInTurn (λ _. IsDoneOf epoch) before dones → AllByRecursion (λ (d : Done). d.epoch ≡ epoch) dones
  of_epoch epoch before [] fit = tt
  of_epoch epoch before (d ∷ dones) fit = (fit.0.0, of_epoch epoch (Some d) dones fit.1)

  late_ones : (c : Commit) → IsCommit c → s.entry.layout.base_epoch < c.epoch → AllByRecursion Late c.dones
  late_ones c is above = all_weaker (λ (d : Done). d.epoch ≡ c.epoch) Late (λ d same. omega (arith, same, above)) c.dones (of_epoch c.epoch None c.dones is.dones)

  is_time : (snapshot : Bool) (time : ℕ) → IsTime snapshot time → is_timed snapshot time ≡ true
  is_time true time is = ap (λ n. nat_eq n 0) is
  is_time false time is = lt-ltb 0 time (omega (arith, is.0))

  module _ (base : List BaseEntry) where
    late_commits : (before commits : List Commit) → AllByRecursion IsCommit commits → EachBehind (IsNextCommit s base) before commits → AllByRecursion Late (dones_in (map epoch_of commits))
    late_commits before [] are each = tt
    late_commits before (c ∷ commits) are each =
        all_append Late c.dones (dones_in (map epoch_of commits)) (late_ones c are.0 each.0.epoch.above_base) (late_commits (before ++ c ∷ []) commits are.1 each.1)

    pub commits_fail : (commits : List Commit) → AllByRecursion IsCommit commits → EachBehind (IsNextCommit s base) [] commits
        → AllByRecursion (λ (d : Done). nat_le d.epoch s.entry.layout.base_epoch ≡ false) (dones_in (map epoch_of commits))
    commits_fail commits are each =
        all_weaker Late (λ (d : Done). nat_le d.epoch s.entry.layout.base_epoch ≡ false) (λ d late. lt-leb d.epoch s.entry.layout.base_epoch late) (dones_in (map epoch_of commits)) (late_commits [] commits are each)

    pub commits_timed : (before commits : List Commit) → EachBehind (IsNextCommit s base) before commits → AreTimed (dones_in (map epoch_of commits))
    commits_timed before [] each = tt
    commits_timed before (c ∷ commits) each =
        all_append (λ (d : Done). is_timed d.call.snapshot d.time ≡ true) c.dones (dones_in (map epoch_of commits))
        (each_all (IsCommittedDone s base) (λ (d : Done). is_timed d.call.snapshot d.time ≡ true) (λ _ d is. is_time d.call.snapshot d.time is.next.time) _ c.dones each.0.dones)
        (commits_timed (before ++ c ∷ []) commits each.1)
