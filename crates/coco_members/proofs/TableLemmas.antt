-- The tables of nodes while they finish an epoch, and once all have.
use Rattle.std.proofs.Common.{◌≡◌, inl, inr, ℕ, ◌<◌, Bool, false, List, [], sym, ap, subst, ◌∙◌, arith}
use Rattle.coco_ast.specs.Keyed.{Rows, on_partition}
use Rattle.coco_chief.specs.Chief.{Chief}
use Rattle.coco_copy.specs.CopyState.{CopyState}
use Rattle.coco_entry.specs.declared.layout.Layout.{Layout}
use Rattle.coco_tail.specs.Shards.{HoldMap}
use Rattle.coco_finish.specs.Exchanges.{AreInStep, AreUp, HaveAllFinished}
use Rattle.coco_finish.specs.Finishing.{is_behind, AreWhole, Finish, HaveMap}
use Rattle.coco_finish.specs.declared.tables.NodeTables.{NodeTables}
use Rattle.coco_load.specs.Tables.{shard_at}
use Rattle.coco_net.specs.declared.letter.Posted.{Posted}
use Rattle.coco_node.specs.Node.{Node}
use Rattle.coco_shard.specs.RowState.{ShardState}
use Rattle.coco_standing.specs.Standing.{NodeStands, ShardStands, TablesStand, none_behind}
use Rattle.coco_standing.proofs.AtRest.{at_rest_shards, nodes_count}
use Rattle.coco_standing.proofs.Resting.{shard_promoted}
use Rattle.coco_members.specs.AtRest.{primaries_of, ShardsHaveMap}

-- ---- shards

-- where tables stand at a map, their shards do
pub primaries_stand : (layout : Layout) (m : Rows) (behind : ℕ → Bool) (shards : List ShardState) (copies : List CopyState) → TablesStand layout m behind shards copies → TablesStand (primaries_of layout) m behind shards []
primaries_stand layout m behind shards copies stand = record {
  counted = record {
    ring = record { some = stand.counted.ring.some; around = (let around : layout.copies < layout.nodes = stand.counted.ring.around in omega (arith, around)) };
    shard_count = stand.counted.shard_count;
    copy_count = omega arith;
  };
  nodes = λ n below. record {
    primaries = (stand.nodes n below).primaries;
    others = λ p j within from to here. absurd (omega (arith, from, to));
  };
}

-- the shards have their map still where nodes finish an epoch
module _ (epoch : ℕ) (cores cores_new : List Node) (old new : NodeTables) (finish : Finish epoch cores cores_new old new) (whole : AreWhole new) (m : Rows) (has : ShardsHaveMap m old) where
  abbrev parts : ℕ
  parts = old.layout.partitions

  shard_finished : (n : ℕ) → n < old.layout.nodes → NodeStands (primaries_of old.layout) m n (is_behind new.behind.items n) new.shards.items []
  shard_finished n below = elim (finish.nodes n) [
    | inl stays ↦ record {
      primaries = λ p within here. subst (λ (b : Bool). ShardStands b parts p (on_partition parts p m) (shard_at new.shards.items p)) (sym stays.behind)
          (subst (ShardStands (is_behind old.behind.items n) parts p (on_partition parts p m)) (sym (stays.tables.primaries p within here)) ((has.nodes n below).primaries p within here));
      others = λ p j within from to here. absurd (omega (arith, from, to));
    }
    | inr promotes ↦ record {
      primaries = λ p within here. subst (λ (b : Bool). ShardStands b parts p (on_partition parts p m) (shard_at new.shards.items p)) (sym promotes.behind)
          (shard_promoted (is_behind old.behind.items n) parts p (on_partition parts p m) (shard_at old.shards.items p) (shard_at new.shards.items p) (promotes.tables.primaries p within here) ((has.nodes n below).primaries p within here));
      others = λ p j within from to here. absurd (omega (arith, from, to));
    }
  ]

  pub shards_finish : ShardsHaveMap m new
  shards_finish = subst (λ (layout : Layout). TablesStand (primaries_of layout) m (is_behind new.behind.items) new.shards.items []) (sym finish.layout) (record {
    counted = record { ring = has.counted.ring; shard_count = whole.shard_count ∙ ap (λ (l : Layout). l.partitions) finish.layout; copy_count = has.counted.copy_count };
    nodes = shard_finished;
  })

-- ---- all have finished

-- then none is behind
pub none_is_behind : (epoch : ℕ) (cores : List Node) (chief : Chief) (sent : List Posted) (marks : List Bool) → AreInStep epoch cores chief sent marks → HaveAllFinished chief
    → (n : ℕ) → n < chief.nodes → is_behind marks n ≡ false
none_is_behind epoch cores chief sent marks in_step all n less = in_step.up n (all n less)

module _ (chief : Chief) (t : NodeTables) (nodes : t.layout.nodes ≡ chief.nodes) (up : AreUp chief t.behind.items) (all : HaveAllFinished chief) (m : Rows) where
  up_all : (n : ℕ) → n < t.layout.nodes → is_behind t.behind.items n ≡ none_behind n
  up_all n less = up n (all n (omega (arith, less, nodes)))

  -- tables that have a map stand at it
  pub all_stand : HaveMap m t → TablesStand t.layout m none_behind t.shards.items t.copies.items
  all_stand = nodes_count t.layout m (is_behind t.behind.items) none_behind t.shards.items t.copies.items up_all

  -- and shards hold it together, as an epoch wants it
  pub shards_hold : ShardsHaveMap m t → HoldMap m t.shards.items
  shards_hold has = at_rest_shards (primaries_of t.layout) m t.shards.items []
      (nodes_count (primaries_of t.layout) m (is_behind t.behind.items) none_behind t.shards.items [] up_all has)
