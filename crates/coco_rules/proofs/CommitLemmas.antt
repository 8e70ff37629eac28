-- A commit is judged by its epoch, and then by its first broken Done.
use Rattle.std.proofs.Common.{◌≡◌, ℕ, ◌+◌, ◌≤◌, true, false, List, [], ◌∷◌, ◌++◌, length, take, Option, None, Some, sym, ap, subst, ◌∙◌, arith, append_assoc, append-nil}
use Rattle.std.specs.List.{flat_map, sum_by}
use Rattle.std.proofs.lemmas.Bool.{lt-ltb}
use Rattle.std.proofs.lemmas.List.{map-append}
use Rattle.std.proofs.lemmas.List.Concat.{flat_map-append}
use Rattle.coco_types.specs.declared.call.Done.{Done}
use Rattle.coco_ast.specs.History.{AreAbove, RisesAbove}
use Rattle.coco_entry.specs.Calls.{done_bytes}
use Rattle.coco_entry.specs.Commits.{commit_bytes}
use Rattle.coco_entry.specs.declared.commit.Commit.{Commit}
use Rattle.coco_store.specs.Entries.{BaseEntry}
use Rattle.coco_store.specs.Refusals.{CommitBreaks, IsFirst, ItemBreaks, bad_commit_epoch, bad_done}
use Rattle.coco_store.specs.Rules.{EachBehind, IsCommittedDone, IsNextCommit, IsNextEpoch, Setting, commit_epochs, dones_in, kept_dones}
use Rattle.coco_rules.specs.Behind.{IsBehind, IsBehindDones, greatest, is_above}
use Rattle.coco_rules.specs.Judged.{IsFirstBroken}
use Rattle.coco_rules.specs.declared.commits.HistoryRules.{HistoryRules}
use Rattle.coco_rules.proofs.EpochLemmas.{below_all, newest}
use Rattle.coco_rules.proofs.JudgedLemmas.{first_place, len_ahead, len_front}

-- ---- ids above the floor

pub not_above : (floor : Option ℕ) (id : ℕ) → is_above floor id ≡ false → ¬ (AreAbove floor (id ∷ []))
not_above None id e all = let no : true ≡ false = e in cc
not_above (Some floor) id e all = let no : true ≡ false = sym (lt-ltb floor id all.0) ∙ e in cc

-- ---- the entry

pub first_epoch : (s : Setting) (base : List BaseEntry) (before : List Commit) (commit : Commit) → ¬ (IsNextEpoch s.entry.layout.base_epoch (commit_epochs before) commit.epoch)
    → IsFirst (CommitBreaks s base before commit) 1
first_epoch s base before commit broken = record { refused = bad_commit_epoch broken; least = least }
  where
    least : (b : ℕ) → CommitBreaks s base before commit b → 1 ≤ b
    least b (bad_commit_epoch _) = omega arith
    least b (bad_done _) = omega arith

-- the bytes of an entry in front of its Dones and up to one of them
pub dones_within : (commit : Commit) (dones : List Done) (i : ℕ) → dones ≡ commit.dones → 13 + sum_by (λ d. length (done_bytes d)) (take i dones) ≤ length (commit_bytes commit)
dones_within commit dones i is =
    let front : sum_by (λ d. length (done_bytes d)) (take i dones) ≤ length (flat_map done_bytes commit.dones) = subst (λ (l : List Done). sum_by (λ d. length (done_bytes d)) (take i dones) ≤ length (flat_map done_bytes l)) is (len_front done_bytes dones i) in
    omega (arith, front)

pub first_done : (s : Setting) (base : List BaseEntry) (before : List Commit) (commit : Commit) (dones : List Done) (i n : ℕ) → dones ≡ commit.dones
    → n ≡ sum_by (λ d. length (done_bytes d)) (take i dones)
    → IsNextEpoch s.entry.layout.base_epoch (commit_epochs before) commit.epoch
    → IsFirstBroken (IsCommittedDone s base) (kept_dones base ++ dones_in before) dones i
    → IsFirst (CommitBreaks s base before commit) (13 + n)
first_done s base before commit dones i n are is next b =
    subst (λ m. IsFirst (CommitBreaks s base before commit) (13 + m)) (len_ahead (IsCommittedDone s base) done_bytes (kept_dones base ++ dones_in before) dones i b ∙ sym is)
    (record { refused = bad_done (subst (λ (l : List Done). ItemBreaks (IsCommittedDone s base) done_bytes (kept_dones base ++ dones_in before) l (length (flat_map done_bytes b.ahead))) are place.refused); least = least })
  where
    place : IsFirst (ItemBreaks (IsCommittedDone s base) done_bytes (kept_dones base ++ dones_in before) dones) (length (flat_map done_bytes b.ahead))
    place = first_place (IsCommittedDone s base) done_bytes (kept_dones base ++ dones_in before) dones i b

    least : (c : ℕ) → CommitBreaks s base before commit c → 13 + length (flat_map done_bytes b.ahead) ≤ c
    least c (bad_commit_epoch broken) = absurd (broken next)
    least c (bad_done {at = at} item) =
        omega (arith, place.least at (subst (λ (l : List Done). ItemBreaks (IsCommittedDone s base) done_bytes (kept_dones base ++ dones_in before) l at) (sym are) item))

-- ---- what is remembered then

pub behind_more : (s : Setting) (base : List BaseEntry) (before : List Commit) (commit : Commit) (new : HistoryRules) → IsNextEpoch s.entry.layout.base_epoch (commit_epochs before) commit.epoch
    → IsBehindDones s base ((kept_dones base ++ dones_in before) ++ commit.dones) new → new.last_epoch ≡ commit.epoch → IsBehind s base (before ++ commit ∷ []) new
behind_more s base before commit new next dones last = record {
  dones =
      subst (λ (l : List Done). IsBehindDones s base l new)
      (append_assoc (kept_dones base) (dones_in before) commit.dones
      ∙ ap (λ (l : List Done). kept_dones base ++ l) (sym (flat_map-append (λ (c : Commit). c.dones) before (commit ∷ []) ∙ ap (λ (l : List Done). dones_in before ++ l) (append-nil commit.dones))))
      dones;
  last_epoch = last ∙ sym (ap (greatest s.entry.layout.base_epoch) (map-append (λ (c : Commit). c.epoch) before (commit ∷ [])) ∙ newest s.entry.layout.base_epoch (commit_epochs before) commit.epoch next);
}

-- ---- the epochs of commits

-- behind some commits each of the others has a higher epoch than all before it
pub epochs_go_on : (s : Setting) (base : List BaseEntry) (before commits : List Commit) → EachBehind (IsNextCommit s base) before commits
    → RisesAbove (greatest s.entry.layout.base_epoch (commit_epochs before)) (commit_epochs commits)
epochs_go_on s base before [] each = tt
epochs_go_on s base before (c ∷ commits) each = (
  below_all s.entry.layout.base_epoch (commit_epochs before) c.epoch each.0.epoch.above_base each.0.epoch.rises,
  subst (λ (n : ℕ). RisesAbove n (commit_epochs commits))
      (ap (greatest s.entry.layout.base_epoch) (map-append (λ (x : Commit). x.epoch) before (c ∷ [])) ∙ newest s.entry.layout.base_epoch (commit_epochs before) c.epoch each.0.epoch)
      (epochs_go_on s base (before ++ c ∷ []) commits each.1),
)

-- the epochs of commits that keep their rules rise above the base's, as the first call of a node's rules wants it
pub commits_rise : (s : Setting) (base : List BaseEntry) (commits : List Commit) → EachBehind (IsNextCommit s base) [] commits → RisesAbove s.entry.layout.base_epoch (commit_epochs commits)
commits_rise s base commits = epochs_go_on s base [] commits
