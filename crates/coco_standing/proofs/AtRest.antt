-- Tables before an epoch: none is behind.
use Rattle.std.proofs.Common.{◌≡◌, ℕ, ◌+◌, ◌-◌, ◌*◌, ◌%◌, ◌<◌, ◌≤◌, true, false, cond, nat_lt, List, [], ◌∷◌, map, length, get_or, zero, suc, None, refl, sym, ap, ◌∙◌, subst, arith}
use Rattle.std.specs.FinMap.{empty}
use Rattle.std.proofs.lemmas.Bool.{eq-eqb, ltb-true, ltb-false}
use Rattle.std.proofs.lemmas.List.{ext_get_or, get_or_past, length-map}
use Rattle.std.proofs.lemmas.Nat.{mod_below}
use Rattle.coco_types.specs.RowKey.{RowKey}
use Rattle.coco_ast.specs.Keyed.{Rows, on_partition, value_at}
use Rattle.coco_ast.proofs.KeyedLemmas.{value_on_partition}
use Rattle.coco_copy.specs.CopyState.{CopyState, begun}
use Rattle.coco_entry.specs.declared.layout.Layout.{Layout}
use Rattle.coco_tail.specs.Shards.{SettleOn, stable_in}
use Rattle.coco_tail.specs.Shards as epochs
use Rattle.coco_load.proofs.Loading.{no_shard, settled_of}
use Rattle.coco_load.specs.Tables.{IsShardOf, copy_at, shard_at}
use Rattle.coco_shard.specs.RowState.{ShardState, Holds, IsOfPartition, IsSettled, stable_at}
use Rattle.coco_standing.proofs.Changing.{ChangedBelow}
use Rattle.coco_standing.proofs.Pending.{same_shard}
use Rattle.coco_standing.proofs.Resting.{shard_reverted, stable_held}
use Rattle.coco_standing.specs.Changes.{reverted}
use Rattle.coco_standing.specs.Laws.{AtRestKeep, AtRestShards, LoadedStand, NodesCount}
use Rattle.coco_standing.specs.Places.{node_of}
use Rattle.coco_standing.specs.Standing.{NodeStands, TablesKeep, TablesStand, none_behind}

-- ---- loaded

loaded_copy : (m : Rows) (s : CopyState) → s ≡ begun 0 m → s ≡ begun s.epoch m
loaded_copy m s is = is ∙ ap (λ (e : ℕ). begun e m) (sym (ap (λ (c : CopyState). c.epoch) is))

pub loaded_stand : LoadedStand
loaded_stand layout m shards copies hold = record {
  counted = record { ring = hold.tables.ring; shard_count = hold.tables.shard_count; copy_count = hold.tables.copy_count };
  nodes = λ n below. record {
    primaries = λ p within here. hold.primaries p within;
    others = λ p j within from to here. loaded_copy (on_partition layout.partitions p m) (copy_at layout copies p j) (hold.others p j within from to).holds;
  };
}

-- ---- the nodes of a ring

module _ (layout : Layout) (m : Rows) (shards : List ShardState) (copies : List CopyState) (stand : TablesStand layout m none_behind shards copies) where
  some_node : 0 < layout.nodes
  some_node = let around : layout.copies < layout.nodes = stand.counted.ring.around in omega arith

  shard_rests : (p : ℕ) → p < layout.partitions → IsShardOf layout.partitions p (on_partition layout.partitions p m) (shard_at shards p)
  shard_rests p below = (stand.nodes (node_of layout p 0) (mod_below (p + 0) layout.nodes some_node)).primaries p below refl

  -- so does one that isn't there
  some_map : (p : ℕ) → (n : Rows) × IsShardOf layout.partitions p n (shard_at shards p)
  some_map p = elim (nat_lt p layout.partitions) as (λ b. nat_lt p layout.partitions ≡ b → (n : Rows) × IsShardOf layout.partitions p n (shard_at shards p)) [
    | true ↦ λ t. (on_partition layout.partitions p m, shard_rests p (ltb-true p layout.partitions t))
    | false ↦ λ f. (let past : layout.partitions ≤ p = ltb-false p layout.partitions f in
        (empty, subst (IsShardOf layout.partitions p empty) (sym (get_or_past shards p empty (omega (arith, past, stand.counted.shard_count)))) (no_shard layout.partitions p)))
  ] refl

  value_of : (k : RowKey) → stable_at (shard_at shards (k.row % layout.partitions)) k ≡ value_at m k
  value_of k =
      let p : ℕ = k.row % layout.partitions in
      (stable_held layout.partitions p (on_partition layout.partitions p m) (shard_at shards p) (shard_rests p (mod_below k.row layout.partitions stand.counted.ring.some))).values k
      ∙ value_on_partition layout.partitions p m k
      ∙ ap (λ b. cond b (value_at m k) None) (eq-eqb p p refl)

  pub shards_rest : epochs.HoldMap m shards
  shards_rest = record {
    partitions = λ p. subst (λ (n : ℕ). IsOfPartition n p (epochs.shard_at shards p)) (sym stand.counted.shard_count)
        (subst (IsOfPartition layout.partitions p) (sym (same_shard shards p)) (some_map p).1.partition);
    settled = λ p. subst IsSettled (sym (same_shard shards p)) (settled_of layout.partitions p (some_map p).0 (shard_at shards p) (some_map p).1);
    values = λ k. subst (λ (n : ℕ). stable_at (epochs.shard_at shards (k.row % n)) k ≡ value_at m k) (sym stand.counted.shard_count)
        (ap (λ (s : ShardState). stable_at s k) (same_shard shards (k.row % layout.partitions)) ∙ value_of k);
  }

  pub tables_keep : TablesKeep layout m shards copies
  tables_keep = record {
    counted = stand.counted;
    primaries = λ p below. stable_held layout.partitions p (on_partition layout.partitions p m) (shard_at shards p) (shard_rests p below);
    others = λ p j below from to. ap (λ (c : CopyState). c.stable) ((stand.nodes (node_of layout p j) (mod_below (p + j) layout.nodes some_node)).others p j below from to refl);
  }

pub at_rest_shards : AtRestShards
at_rest_shards = shards_rest

pub at_rest_keep : AtRestKeep
at_rest_keep = tables_keep

pub nodes_count : NodesCount
nodes_count layout m behind other shards copies same stand = record {
  counted = stand.counted;
  nodes = λ n below. subst (λ b. NodeStands layout m n b shards copies) (same n below) (stand.nodes n below);
}

-- ---- reverted

copy_reverted : (copies : List CopyState) (i : ℕ) → get_or (map reverted copies) i (begun 0 empty) ≡ reverted (get_or copies i (begun 0 empty))
copy_reverted [] i = refl
copy_reverted (c ∷ cs) zero = refl
copy_reverted (c ∷ cs) (suc i) = copy_reverted cs i

-- each is reverted
abbrev pub IsReverted : ℕ → CopyState → CopyState → Type 0
IsReverted place s t = t ≡ reverted s

pub all_reverted : (first now : List CopyState) (n : ℕ) → length now ≤ n → ChangedBelow (begun 0 empty) (λ _. true) IsReverted first now n → now ≡ map reverted first
all_reverted first now n le so =
    let count : length now ≡ length first = so.count in
    ext_get_or (begun 0 empty) now (map reverted first) (count ∙ sym (length-map first reverted))
    (λ i lt. so.there i (omega arith) refl ∙ sym (copy_reverted first i))

reverted_rests : (m : Rows) (s : CopyState) → s.stable ≡ m → reverted s ≡ begun (reverted s).epoch m
reverted_rests m s is = ap (begun s.epoch) is

pub reverted_stand : (layout : Layout) (m : Rows) (shards then_shards : List ShardState) (copies then_copies : List CopyState) → SettleOn stable_at shards then_shards → then_copies ≡ map reverted copies
    → TablesKeep layout m shards copies → TablesStand layout m none_behind then_shards then_copies
reverted_stand layout m shards then_shards copies then_copies settle are keep = record {
  counted = record {
    ring = keep.counted.ring;
    shard_count = settle.count ∙ keep.counted.shard_count;
    copy_count = ap (λ (l : List CopyState). length l) are ∙ length-map copies reverted ∙ keep.counted.copy_count;
  };
  nodes = λ n below. record {
    primaries = λ p within here. shard_reverted layout.partitions p (on_partition layout.partitions p m) (shard_at shards p) (shard_at then_shards p)
        (subst (λ (s : ShardState). Holds (stable_at s) (shard_at then_shards p)) (same_shard shards p) (subst (Holds (stable_at (epochs.shard_at shards p))) (same_shard then_shards p) (settle.each p)))
        (keep.primaries p within);
    others = λ p j within from to here.
        let place : ℕ = p * layout.copies + j - 1 in
        subst (λ (s : CopyState). s ≡ begun s.epoch (on_partition layout.partitions p m)) (sym (ap (λ (l : List CopyState). get_or l place (begun 0 empty)) are ∙ copy_reverted copies place))
        (reverted_rests (on_partition layout.partitions p m) (copy_at layout copies p j) (keep.others p j within from to));
  };
}
