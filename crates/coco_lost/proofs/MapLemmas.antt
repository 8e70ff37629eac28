-- Tables that have maps of their own.
use Rattle.std.proofs.Common.{◌≡◌, inl, inr, ℕ, ◌+◌, ◌<◌, ◌≤◌, Bool, true, false, nat_lt, List, refl, sym, subst, arith}
use Rattle.std.specs.FinMap.{empty}
use Rattle.std.proofs.lemmas.Bool.{ltb-true, ltb-false}
use Rattle.std.proofs.lemmas.List.{get_or_past}
use Rattle.std.proofs.lemmas.Nat.{mod_below}
use Rattle.coco_ast.specs.Keyed.{Rows}
use Rattle.coco_copy.specs.CopyState.{CopyState}
use Rattle.coco_entry.specs.declared.layout.Layout.{Layout}
use Rattle.coco_tail.specs.Shards as epochs
use Rattle.coco_finish.specs.Finishing.{is_behind, AreWhole, Finish}
use Rattle.coco_finish.specs.declared.tables.NodeTables.{NodeTables}
use Rattle.coco_load.proofs.Loading.{no_shard, settled_of}
use Rattle.coco_load.specs.Tables.{IsShardOf, Maps, copy_at, shard_at}
use Rattle.coco_node.specs.Node.{Node}
use Rattle.coco_shard.specs.RowState.{ShardState, IsOfPartition, IsSettled}
use Rattle.coco_standing.proofs.Pending.{same_shard}
use Rattle.coco_standing.proofs.Resting.{copy_promoted, shard_promoted}
use Rattle.coco_standing.proofs.Unions.{settled_hold}
use Rattle.coco_standing.specs.Places.{node_of}
use Rattle.coco_standing.specs.Standing.{NodePromotes, ShardStands}
use Rattle.coco_lost.specs.Laws.{FinishKeepsMaps, OneMapIsMany, ShardsHoldOne}
use Rattle.coco_lost.specs.Reading.{HaveMaps, NodeHas}
use Rattle.coco_lost.proofs.ReadingLemmas.{has_from}

pub one_map : OneMapIsMany
one_map m t stand = record {
  whole = stand.counted;
  nodes = λ n lt. let has = stand.nodes n lt in record { primaries = has.primaries; others = has.others };
}

module _ (maps : Maps) (t : NodeTables) (has : HaveMaps maps t) (none : (n : ℕ) → n < t.layout.nodes → is_behind t.behind.items n ≡ false) where
  some_node : 0 < t.layout.nodes
  some_node = let around : t.layout.copies < t.layout.nodes = has.whole.ring.around in omega arith

  shard_rests : (p : ℕ) → p < t.layout.partitions → IsShardOf t.layout.partitions p (maps p 0) (shard_at t.shards.items p)
  shard_rests p below =
      let node : ℕ = node_of t.layout p 0 in
      let here : node_of t.layout p 0 < t.layout.nodes = mod_below (p + 0) t.layout.nodes some_node in
      subst (λ (b : Bool). ShardStands b t.layout.partitions p (maps p 0) (shard_at t.shards.items p)) (none node here) ((has.nodes node here).primaries p below refl)

  -- so does one that isn't there
  some_map : (p : ℕ) → (m : Rows) × IsShardOf t.layout.partitions p m (shard_at t.shards.items p)
  some_map p = elim (nat_lt p t.layout.partitions) as (λ b. nat_lt p t.layout.partitions ≡ b → (m : Rows) × IsShardOf t.layout.partitions p m (shard_at t.shards.items p)) [
    | true ↦ λ is. (maps p 0, shard_rests p (ltb-true p t.layout.partitions is))
    | false ↦ λ is. (let past : t.layout.partitions ≤ p = ltb-false p t.layout.partitions is in
        (empty, subst (IsShardOf t.layout.partitions p empty) (sym (get_or_past t.shards.items p empty (omega (arith, past, has.whole.shard_count)))) (no_shard t.layout.partitions p)))
  ] refl

  shards_hold : (m : Rows) × epochs.HoldMap m t.shards.items
  shards_hold = settled_hold t.shards.items
      (λ p. subst (λ (n : ℕ). IsOfPartition n p (epochs.shard_at t.shards.items p)) (sym has.whole.shard_count)
      (subst (IsOfPartition t.layout.partitions p) (sym (same_shard t.shards.items p)) (some_map p).1.partition))
      (λ p. subst IsSettled (sym (same_shard t.shards.items p)) (settled_of t.layout.partitions p (some_map p).0 (shard_at t.shards.items p) (some_map p).1))

pub shards_hold_one : ShardsHoldOne
shards_hold_one = shards_hold

-- ---- finished

has_promoted : (layout : Layout) (k : ℕ) (maps : Maps) (b : Bool) (s : List ShardState) (c : List CopyState) (u : List ShardState) (d : List CopyState) → NodePromotes layout k s c u d → NodeHas layout maps k b s c → NodeHas layout maps k false u d
has_promoted layout k maps b s c u d promotes has = record {
  primaries = λ p lt on. shard_promoted b layout.partitions p (maps p 0) (shard_at s p) (shard_at u p) (promotes.primaries p lt on) (has.primaries p lt on);
  others = λ p j lt some most on. copy_promoted b (maps p j) (copy_at layout c p j) (copy_at layout d p j) (promotes.others p j lt some most on) (has.others p j lt some most on);
}

module _ (epoch : ℕ) (cores cores_new : List Node) (t t_new : NodeTables) (maps : Maps) (finish : Finish epoch cores cores_new t t_new) (whole : AreWhole t_new) (has : HaveMaps maps t) where
  abbrev has_new : Layout → ℕ → Bool → Type 0
  has_new l n b = NodeHas l maps n b t_new.shards.items t_new.copies.items

  node_finished : (n : ℕ) → n < t.layout.nodes → has_new t.layout n (is_behind t_new.behind.items n)
  node_finished n lt = elim (finish.nodes n) [
    | inl stays ↦ subst (has_new t.layout n) (sym stays.behind)
        (has_from t.layout n t.shards.items t.copies.items t_new.shards.items t_new.copies.items maps (is_behind t.behind.items n) stays.tables (has.nodes n lt))
    | inr promotes ↦ subst (has_new t.layout n) (sym promotes.behind)
        (has_promoted t.layout n maps (is_behind t.behind.items n) t.shards.items t.copies.items t_new.shards.items t_new.copies.items promotes.tables (has.nodes n lt))
  ]

  kept : HaveMaps maps t_new
  kept = record {
    whole = whole;
    nodes = subst (λ (l : Layout). (n : ℕ) → n < l.nodes → has_new l n (is_behind t_new.behind.items n)) (sym finish.layout) node_finished;
  }

pub finish_keeps : FinishKeepsMaps
finish_keeps epoch cores cores_new t t_new maps finish whole has = kept epoch cores cores_new t t_new maps finish whole has
