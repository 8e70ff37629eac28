-- The committed epochs that are remembered, with one more.
use Rattle.std.proofs.Common.{◌≡◌, ℕ, ◌<◌, List, [], ◌∷◌, ◌++◌, Option, sym, ap, subst, ◌∙◌, append_assoc, append-nil}
use Rattle.std.specs.List.{AllByRecursion}
use Rattle.std.proofs.lemmas.List.{map-append}
use Rattle.std.proofs.lemmas.List.Concat.{flat_map-append}
use Rattle.coco_types.specs.declared.call.Done.{Done}
use Rattle.coco_ast.specs.History.{RisesAbove}
use Rattle.coco_ast.proofs.Lists.{all_append, all_right}
use Rattle.coco_entry.specs.Commits.{IsCommit}
use Rattle.coco_entry.specs.declared.commit.Commit.{Commit}
use Rattle.coco_kept.specs.Holding.{NeverFall}
use Rattle.coco_kept.specs.Keeping.{HoldsKept}
use Rattle.coco_load.specs.Epochs.{IsNextTo}
use Rattle.coco_rules.specs.Behind.{IsBehind}
use Rattle.coco_rules.specs.declared.commits.HistoryRules.{HistoryRules}
use Rattle.coco_rules.proofs.JudgedLemmas.{each_more}
use Rattle.coco_store.specs.Entries.{BaseEntry}
use Rattle.coco_store.specs.Rules.{EachBehind, IsNextCommit, IsNextEpoch, Setting, commit_epochs, dones_in, floor_in, kept_dones}
use Rattle.coco_recover.specs.Bases.{Basis, entries_of}
use Rattle.coco_recover.specs.Commits.{AreCommitted, AreRemembered, IsHistory, basis_of_committed}
use Rattle.coco_recover.specs.declared.commits.Committed.{Committed}

-- the epochs rise
epochs_rise : (s : Setting) (base : List BaseEntry) (n : ℕ) (before xs : List Commit) → EachBehind (IsNextCommit s base) before xs
    → ((epoch : ℕ) → IsNextEpoch s.entry.layout.base_epoch (commit_epochs before) epoch → n < epoch) → RisesAbove n (commit_epochs xs)
epochs_rise s base n before [] each low = tt
epochs_rise s base n before (x ∷ xs) each low = (
  low x.epoch each.0.epoch,
  epochs_rise s base x.epoch (before ++ x ∷ []) xs each.1 (λ epoch next.
      (all_right (λ (e : ℕ). e < epoch) (commit_epochs before) (x.epoch ∷ []) (subst (λ (l : List ℕ). AllByRecursion (λ e. e < epoch) l) (map-append (λ (c : Commit). c.epoch) before (x ∷ [])) next.rises)).0),
)

pub commits_rise : (s : Setting) (base : List BaseEntry) (commits : List Commit) → EachBehind (IsNextCommit s base) [] commits → RisesAbove s.entry.layout.base_epoch (commit_epochs commits)
commits_rise s base commits each = epochs_rise s base s.entry.layout.base_epoch [] commits each (λ epoch next. next.above_base)

pub more_dones : (base : List BaseEntry) (commits : List Commit) (commit : Commit) → kept_dones base ++ dones_in (commits ++ commit ∷ []) ≡ (kept_dones base ++ dones_in commits) ++ commit.dones
more_dones base commits commit =
    ap (λ (l : List Done). kept_dones base ++ l) (flat_map-append (λ (c : Commit). c.dones) commits (commit ∷ []) ∙ ap (λ (l : List Done). dones_in commits ++ l) (append-nil commit.dones))
    ∙ sym (append_assoc (kept_dones base) (dones_in commits) commit.dones)

module _ (b : Basis) (commits : List Commit) (commit : Commit) (old new : Committed) where
  pub one_more : AreRemembered b commits old.kept old.epochs.items old.next → IsCommit commit → IsNextCommit b.setting b.base commits commit
      → new.epochs.items ≡ old.epochs.items ++ commit.epoch ∷ []
      → ((before : Option ℕ) (added : List Done) → HoldsKept old.kept before added → NeverFall (added ++ commit.dones) → HoldsKept new.kept before (added ++ commit.dones))
      → NeverFall ((kept_dones b.base ++ dones_in commits) ++ commit.dones)
      → ((epochs : List ℕ) → IsNextTo epochs old.next → IsNextTo (epochs ++ commit.epoch ∷ []) new.next)
      → AreRemembered b (commits ++ commit ∷ []) new.kept new.epochs.items new.next
  one_more was is next epochs kept rising number =
      let longer : commit_epochs (commits ++ commit ∷ []) ≡ commit_epochs commits ++ commit.epoch ∷ [] = map-append (λ (c : Commit). c.epoch) commits (commit ∷ []) in
      record {
        base = was.base;
        are = all_append IsCommit commits (commit ∷ []) was.are (is, tt);
        each = each_more (IsNextCommit b.setting b.base) [] commits commit was.each next;
        kept = subst (HoldsKept new.kept (floor_in b.base)) (sym (more_dones b.base commits commit)) (kept (floor_in b.base) (kept_dones b.base ++ dones_in commits) was.kept rising);
        epochs = epochs ∙ ap (λ (l : List ℕ). l ++ commit.epoch ∷ []) was.epochs ∙ sym longer;
        next = subst (λ (l : List ℕ). IsNextTo (b.setting.entry.layout.base_epoch ∷ l) new.next) (sym longer) (number (b.setting.entry.layout.base_epoch ∷ commit_epochs commits) was.next);
      }

pub history_grows : (s : Setting) (rules after : HistoryRules) (old new : Committed) (commit : Commit) → IsHistory s rules old → IsCommit commit
    → IsNextCommit s (entries_of old.base.items) old.commits.items commit × IsBehind s (entries_of old.base.items) (old.commits.items ++ commit ∷ []) after
    → new.base ≡ old.base → new.kept.keep ≡ old.kept.keep → new.commits.items ≡ old.commits.items ++ commit ∷ [] → new.epochs.items ≡ old.epochs.items ++ commit.epoch ∷ []
    → ((before : Option ℕ) (added : List Done) → HoldsKept old.kept before added → NeverFall (added ++ commit.dones) → HoldsKept new.kept before (added ++ commit.dones))
    → NeverFall ((kept_dones (entries_of old.base.items) ++ dones_in old.commits.items) ++ commit.dones)
    → ((epochs : List ℕ) → IsNextTo epochs old.next → IsNextTo (epochs ++ commit.epoch ∷ []) new.next)
    → IsHistory s after new
history_grows s rules after old new commit was is judged base keep commits epochs kept rising number =
    let basis = basis_of_committed s old in
    let same : basis ≡ basis_of_committed s new = cc in
    record {
      rules = rw (base, commits) judged.1;
      remembered = rw commits (subst (λ (b : Basis). AreRemembered b (old.commits.items ++ commit ∷ []) new.kept new.epochs.items new.next) same
          (one_more basis old.commits.items commit old new was.remembered is judged.0 epochs kept rising number));
    }

pub are_committed : (s : Setting) (rules : HistoryRules) (committed : Committed) → IsHistory s rules committed → AreCommitted s committed
are_committed s rules committed history = record {
  remembered = history.remembered;
  rises = subst (RisesAbove s.entry.layout.base_epoch) (sym history.remembered.epochs) (commits_rise s (entries_of committed.base.items) committed.commits.items history.remembered.each);
}
