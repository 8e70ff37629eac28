-- Nodes, coordinator and tables at rest.
use Rattle.std.proofs.Common.{◌≡◌, ◌⊎◌, inl, inr, ℕ, ◌<◌, ◌^◌, Bool, true, false, List, [], length, Some, refl, sym, ap, subst, ◌∙◌, arith}
use Rattle.std.specs.List.{slice_get}
use Rattle.std.proofs.lemmas.Bool.{cases_lt}
use Rattle.std.proofs.lemmas.List.{get_or_past}
use Rattle.coco_ast.specs.Keyed.{on_partition, Rows}
use Rattle.coco_chief.specs.Chief.{Chief}
use Rattle.coco_chief.specs.Table.{has_finished}
use Rattle.coco_copy.specs.CopyState.{CopyState}
use Rattle.coco_entry.specs.declared.layout.Layout.{Layout}
use Rattle.coco_finish.specs.declared.tables.NodeTables.{NodeTables}
use Rattle.coco_finish.specs.Exchanges.{AreInStep, AreUp, HaveAllFinished}
use Rattle.coco_finish.specs.Finishing.{finished_of, is_behind, AreWhole, Finish, HasYetToHear, Promotes, Stays}
use Rattle.coco_letters.specs.Telling.{Adds, FinishedBelow, IsOfChief}
use Rattle.coco_msg.specs.declared.message.Message.TheVariants.{Finished}
use Rattle.coco_letters.proofs.TellingLemmas.{adds_cases, not_chief}
use Rattle.coco_load.specs.Tables.{shard_at}
use Rattle.coco_members.specs.AtRest.{primaries_of, NoneBehind, ShardsHaveMap}
use Rattle.coco_net.specs.declared.letter.Posted.{Posted}
use Rattle.coco_node.specs.Node.{Node}
use Rattle.coco_shard.specs.RowState.{ShardState}
use Rattle.coco_standing.specs.Places.{node_of}
use Rattle.coco_standing.specs.Standing.{all_behind, none_behind, ShardStands, TablesStand}
use Rattle.coco_standing.proofs.AtRest.{nodes_count}
use Rattle.coco_standing.proofs.Resting.{shard_promoted}

-- ---- no node is behind

pub none_up : (chief : Chief) (marks : List Bool) → AreUp chief marks → HaveAllFinished chief → length marks ≡ chief.nodes → (n : ℕ) → is_behind marks n ≡ false
none_up chief marks up all many n = elim (cases_lt n (length marks)) [
  | inl lt ↦ up n (all n (omega (arith, lt, many)))
  | inr past ↦ get_or_past marks n false past
]

pub none_stand : (layout : Layout) (m : Rows) (t : NodeTables) (copies : List CopyState) → NoneBehind t → TablesStand layout m (is_behind t.behind.items) t.shards.items copies → TablesStand layout m none_behind t.shards.items copies
none_stand layout m t copies none stand = nodes_count layout m (is_behind t.behind.items) none_behind t.shards.items copies (λ n lt. none n) stand

-- ---- all nodes are

-- where all nodes are marked the tables stand as where all are behind
pub marked_stand : (layout : Layout) (m : Rows) (marks : List Bool) (shards : List ShardState) (copies : List CopyState) → ((n : ℕ) → n < layout.nodes → is_behind marks n ≡ true) → TablesStand layout m all_behind shards copies
    → TablesStand layout m (is_behind marks) shards copies
marked_stand layout m marks shards copies marked stand = nodes_count layout m all_behind (is_behind marks) shards copies (λ n lt. sym (marked n lt)) stand

not_up : {X : Type 0} (n : ℕ) (chief : Chief) → has_finished n chief ≡ false → has_finished n chief ≡ true → X
not_up n chief down up = absurd (let both : ◌≡◌ {A = Bool} true false = sym up ∙ down in cc)

-- and all are in step, since no node has heard of the epoch
pub voted_in_step : (e : ℕ) (cores : List Node) (chief : Chief) (sent : List Posted) (marks : List Bool) → e < 2 ^ 64 → ((n : ℕ) (core : Node) → slice_get cores n ≡ Some core → HasYetToHear e core) → FinishedBelow e sent
    → ((n : ℕ) → has_finished n chief ≡ false) → AreInStep e cores chief sent marks
voted_in_step e cores chief sent marks fits yet below none = record {
  behind = λ n core at _. yet n core at;
  told = λ n among. absurd (below n e (omega arith) fits among);
  up = λ n up. not_up n chief (none n) up;
}

-- the coordinator's letters leave them so
pub told_chief : (e : ℕ) (cores : List Node) (chief : Chief) (sent between : List Posted) (marks : List Bool) → Adds IsOfChief sent between → AreInStep e cores chief sent marks → AreInStep e cores chief between marks
told_chief e cores chief sent between marks adds step = record {
  behind = step.behind;
  told = λ n among. elim (adds_cases sent between (finished_of n e) adds among) [ inl old ↦ step.told n old | inr new ↦ not_chief n (Finished e) new ];
  up = step.up;
}

-- ---- shards

module _ (e : ℕ) (cores cores_new : List Node) (old new : NodeTables) (finish : Finish e cores cores_new old new) (m : Rows) where
  shard_at_node : (p : ℕ) → p < old.layout.partitions → Stays (node_of old.layout p 0) cores cores_new old new ⊎ Promotes e (node_of old.layout p 0) cores cores_new old new
      → ShardStands (is_behind old.behind.items (node_of old.layout p 0)) old.layout.partitions p (on_partition old.layout.partitions p m) (shard_at old.shards.items p)
      → ShardStands (is_behind new.behind.items (node_of old.layout p 0)) old.layout.partitions p (on_partition old.layout.partitions p m) (shard_at new.shards.items p)
  shard_at_node p lt (inl stays) stands =
      subst (λ (b : Bool). ShardStands b old.layout.partitions p (on_partition old.layout.partitions p m) (shard_at new.shards.items p)) (sym stays.behind)
      (subst (λ (s : ShardState). ShardStands (is_behind old.behind.items (node_of old.layout p 0)) old.layout.partitions p (on_partition old.layout.partitions p m) s) (sym (stays.tables.primaries p lt refl)) stands)
  shard_at_node p lt (inr promotes) stands =
      subst (λ (b : Bool). ShardStands b old.layout.partitions p (on_partition old.layout.partitions p m) (shard_at new.shards.items p)) (sym promotes.behind)
      (shard_promoted (is_behind old.behind.items (node_of old.layout p 0)) old.layout.partitions p (on_partition old.layout.partitions p m) (shard_at old.shards.items p) (shard_at new.shards.items p) (promotes.tables.primaries p lt refl) stands)

  same_layout : AreWhole new → ShardsHaveMap m old → TablesStand (primaries_of old.layout) m (is_behind new.behind.items) new.shards.items []
  same_layout whole stand = record {
    counted = record { ring = stand.counted.ring; shard_count = whole.shard_count ∙ ap (λ (l : Layout). l.partitions) finish.layout; copy_count = stand.counted.copy_count };
    nodes = λ n lt. record {
      primaries = λ p within on.
          subst (λ (k : ℕ). ShardStands (is_behind new.behind.items k) old.layout.partitions p (on_partition old.layout.partitions p m) (shard_at new.shards.items p)) on
          (shard_at_node p within (finish.nodes (node_of old.layout p 0))
          (subst (λ (k : ℕ). ShardStands (is_behind old.behind.items k) old.layout.partitions p (on_partition old.layout.partitions p m) (shard_at old.shards.items p)) (sym on) ((stand.nodes n lt).primaries p within on)));
      others = λ p j within some most on. absurd (omega (arith, some, most));
    };
  }

  -- the shards have the same map behind it
  pub shards_finish : AreWhole new → ShardsHaveMap m old → ShardsHaveMap m new
  shards_finish whole stand = subst (λ (l : Layout). TablesStand (primaries_of l) m (is_behind new.behind.items) new.shards.items []) (sym finish.layout) (same_layout whole stand)
