-- What an opened store has in memory, as a cluster sees it.
use Rattle.std.proofs.Common.{◌≡◌, ℕ, zero, suc, ◌+◌, ◌<◌, ◌≤◌, List, [], length, Option, refl, sym, ap, ◌∙◌, subst, arith}
use Rattle.std.specs.Prelude.{slice_index}
use Rattle.std.specs.List.{AllByRecursion, flat_map, range_with_len}
use Rattle.coco_types.specs.Limits.{epochs_end, most_partitions}
use Rattle.coco_ast.proofs.Lists.{all_from_map, all_left, all_right}
use Rattle.coco_chief.specs.Chief.{Chief}
use Rattle.coco_chief.specs.Shown.{chief_of}
use Rattle.coco_entry.specs.declared.commit.Commit.{Commit}
use Rattle.coco_entry.specs.declared.layout.Layout.{Layout}
use Rattle.coco_entry.specs.declared.layout.LayoutEntry.{LayoutEntry}
use Rattle.coco_entry.specs.declared.prepared.Prepared.{Prepared}
use Rattle.coco_finish.specs.Finishing.{is_behind}
use Rattle.coco_host.specs.Files.{Files}
use Rattle.coco_kept.specs.Keeping.{Keeping}
use Rattle.coco_load.specs.Epochs.{IsNextOf}
use Rattle.coco_lost.proofs.EpochLemmas.{all_above}
use Rattle.coco_load.specs.RowMaps.{joined}
use Rattle.coco_members.specs.AtRest.{AreAtRest, NoneBehind, NoneLost}
use Rattle.coco_members.specs.Opened.{AreMembersOf, AreOf}
use Rattle.coco_members.proofs.OpenedLemmas.{are_ready, chief_unspent, file_is, has_is}
use Rattle.coco_recover.specs.Opening.{AllStand as LogsStand, Has, HaveRows, IsSoundStore}
use Rattle.coco_recover.specs.declared.opening.Opened.{Opened}
use Rattle.coco_standing.specs.Standing.{TablesStand, none_behind}
use Rattle.coco_standing.proofs.AtRest.{nodes_count}
use Rattle.coco_store.specs.Contents.{Contents, map_in}
use Rattle.coco_store.specs.Rules.{commit_epochs, prepared_epochs}
use Rattle.coco_cluster.specs.Standing.{AllStand, IsBehindAll, IsSound, KeepsBelow, MayStop, StandsAt}
use Rattle.coco_cluster.specs.declared.cluster.Cluster.{Cluster}

-- ---- the epochs

-- what holds of all numbers that these nodes have holds of those of one
node_all : (P : ℕ → Type 0) (f : ℕ → List ℕ) (from count n node : ℕ) → node ≡ from + n → n < count → AllByRecursion P (flat_map f (range_with_len from count)) → AllByRecursion P (f node)
node_all P f from zero n node is less all = absurd (omega (arith, less))
node_all P f from (suc count) zero node is less all =
    let first : from ≡ node = omega (arith, is) in
    subst (λ (k : ℕ). AllByRecursion P (f k)) first (all_left P (f from) (flat_map f (range_with_len (from + 1) count)) all)
node_all P f from (suc count) (suc n) node is less all =
    node_all P f (from + 1) count n node (omega (arith, is)) (omega (arith, less)) (all_right P (f from) (flat_map f (range_with_len (from + 1) count)) all)

pub behind_all : (c : Contents) (epoch : ℕ) → IsNextOf c epoch → IsBehindAll c epoch
behind_all c epoch next = record {
  base = next.above.0;
  commits = all_from_map (λ (e : Commit). e.epoch) (λ e. e < epoch) c.commits (all_left (λ e. e < epoch) (commit_epochs c.commits) prepared next.above.1);
  prepared = λ n less. all_from_map (λ (e : Prepared). e.epoch) (λ e. e < epoch) (c.prepared n)
      (node_all (λ e. e < epoch) (λ k. prepared_epochs (c.prepared k)) 0 c.setting.entry.layout.nodes n n (omega arith) less (all_right (λ e. e < epoch) (commit_epochs c.commits) prepared next.above.1));
}
  where
    prepared : List ℕ
    prepared = flat_map (λ n. prepared_epochs (c.prepared n)) (range_with_len 0 c.setting.entry.layout.nodes)

-- ---- nodes and coordinator

-- their logs stand where the opened ones do
pub all_stand : (store : Opened) (sound : IsSoundStore store) (k : Cluster) → AreMembersOf store k.members → (reads : Option Files) (may_leave : Files → Type 0) → LogsStand store.logs reads may_leave → AllStand k reads may_leave
all_stand store sound k of reads may_leave stand = let ready = are_ready store sound k.members of reads may_leave stand in record { chief = ready.1; nodes = ready.0 }

module _ (store : Opened) (sound : IsSoundStore store) (k : Cluster) (of : AreMembersOf store k.members) (kept : k.kept ≡ store.kept) (next : k.next_epoch ≡ store.next_epoch) where
  may_stop : MayStop k.members
  may_stop = record {
    files = λ n voter there. file_is store sound k.members of n voter there ∙ ap (λ (l : Layout). slice_index l.node_files n) (sym of.layout);
    read = record {
      files = subst (λ (l : Layout). length l.node_files ≡ l.nodes) (sym of.layout) sound.is.fields.count;
      above = λ e committed. subst (λ (l : Layout). l.base_epoch < e) (sym of.layout)
          (all_above store.layout.base_epoch store.epochs.items sound.rises e (sym (ap (λ (c : Chief). c.committed e) of.chief) ∙ committed));
    };
  }

  keeps_below : KeepsBelow store.kept store.next_epoch
  keeps_below = record { before = sound.keeps.before; added = sound.keeps.added; holds = sound.keeps.holds; rising = sound.keeps.rising; below = sound.keeps.below; once = sound.keeps.once }

  -- between two epochs, with no letter sent
  pub is_sound : AreAtRest store.next_epoch [] k.members → NoneLost k.members.voters.items → IsSound k []
  is_sound rest whole = record {
    rests = record {
      keeps = subst (λ (n : ℕ). KeepsBelow k.kept n) (sym next) (subst (λ (h : Keeping). KeepsBelow h store.next_epoch) (sym kept) keeps_below);
      first = subst (λ (n : ℕ). 0 < n) (sym next) sound.first;
      end = subst (λ (n : ℕ). n ≤ epochs_end) (sym next) sound.end;
      base = subst (λ (n : ℕ). k.members.tables.layout.base_epoch < n) (sym next) (subst (λ (l : Layout). l.base_epoch < store.next_epoch) (sym of.layout) sound.above_base);
      partitions = subst (λ (l : Layout). l.partitions ≤ most_partitions) (sym of.layout) sound.limits.partitions.1;
      rest = subst (λ (n : ℕ). AreAtRest n [] k.members) (sym next) rest;
      unspent = chief_unspent store sound k.members of;
      stops = may_stop;
    };
    whole = whole;
  }

  -- the contents that the opened store has are those that the cluster stands at
  pub stands_at : (c : Contents) → Has c.setting.entry.keep c store → k.procs ≡ store.procs → k.base.items ≡ store.base.items → store.kept.keep ≡ store.keep → AreOf c k.members → NoneBehind k.members.tables
      → TablesStand k.members.tables.layout (map_in c) none_behind k.members.tables.shards.items k.members.tables.copies.items → StandsAt c k
  stands_at c has procs base keep are up tables = record {
    belongs = record {
      procs = procs ∙ has.procs;
      dones = ap (λ (h : Keeping). h.dones) kept ∙ has.dones;
      floor = ap (λ (h : Keeping). h.floor) kept ∙ has.floor;
      keep = ap (λ (h : Keeping). h.keep) kept ∙ keep ∙ ap (λ (e : LayoutEntry). e.keep) has.layout;
      layout = are.layout;
      base = sym has.base ∙ ap joined (sym base);
      chief = are.chief_log;
      logs = are.logs;
      held = are.held;
      commits = λ e. are.commits e ∙ sym (has_is (commit_epochs c.commits) e);
    };
    map = nodes_count k.members.tables.layout (map_in c) none_behind (is_behind k.members.tables.behind.items) k.members.tables.shards.items k.members.tables.copies.items (λ n less. sym (up n)) tables;
    next = behind_all c k.next_epoch (subst (IsNextOf c) (sym next) has.next);
  }
