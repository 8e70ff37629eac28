-- A node's tables are promoted, or others take their place.
use Rattle.std.proofs.Common.{◌≡◌, ℕ, ◌+◌, ◌%◌, ◌<◌, Bool, false, List, get_or, refl, sym, subst, arith}
use Rattle.std.specs.FinMap.{empty}
use Rattle.std.proofs.lemmas.Nat.{mod_below}
use Rattle.coco_ast.specs.Keyed.{Rows, on_partition}
use Rattle.coco_copy.specs.CopyState.{CopyState, begun}
use Rattle.coco_entry.specs.declared.layout.Layout.{Layout}
use Rattle.coco_load.specs.Tables.{copy_at, shard_at}
use Rattle.coco_shard.specs.RowState.{ShardState}
use Rattle.coco_standing.proofs.Nodes.{all_stand, copy_there, counted_then, others_stay, shard_there}
use Rattle.coco_standing.proofs.Resting.{copy_promoted, shard_promoted}
use Rattle.coco_standing.specs.Changes.{ChangesAt, PromotesCopy, PromotesShard}
use Rattle.coco_standing.specs.Places.{is_copy_on, is_shard_on, node_of}
use Rattle.coco_standing.specs.Standing.{AreCounted, CopyStands, NodeIsFrom, NodePromotes, NodeStands, OthersStand, OthersStay, ShardStands, TablesStand, caught_up}

-- the tables of any number stand as a node's do: where no node has it, it has none
node_of_all : (layout : Layout) (m : Rows) (behind : ℕ → Bool) (shards : List ShardState) (copies : List CopyState) → TablesStand layout m behind shards copies → (n : ℕ) → NodeStands layout m n (behind n) shards copies
node_of_all layout m behind shards copies stand n =
    let some : 0 < layout.nodes = (let around : layout.copies < layout.nodes = stand.counted.ring.around in omega arith) in record {
      primaries = λ p below here. subst (λ (i : ℕ). ShardStands (behind i) layout.partitions p (on_partition layout.partitions p m) (shard_at shards p)) here
          ((stand.nodes (node_of layout p 0) (mod_below (p + 0) layout.nodes some)).primaries p below refl);
      others = λ p j below from to here. subst (λ (i : ℕ). CopyStands (behind i) (on_partition layout.partitions p m) (copy_at layout copies p j)) here
          ((stand.nodes (node_of layout p j) (mod_below (p + j) layout.nodes some)).others p j below from to refl);
    }

-- ---- promoted

-- a node whose tables are promoted stands at the map that they had, behind or not
pub node_promoted : (layout : Layout) (node : ℕ) (shards then_shards : List ShardState) (copies then_copies : List CopyState) → NodePromotes layout node shards copies then_shards then_copies
    → (m : Rows) (is_behind : Bool) → NodeStands layout m node is_behind shards copies → NodeStands layout m node false then_shards then_copies
node_promoted layout node shards then_shards copies then_copies promotes m is_behind stands = record {
  primaries = λ p below here. shard_promoted is_behind layout.partitions p (on_partition layout.partitions p m) (shard_at shards p) (shard_at then_shards p) (promotes.primaries p below here) (stands.primaries p below here);
  others = λ p j below from to here. copy_promoted is_behind (on_partition layout.partitions p m) (copy_at layout copies p j) (copy_at layout then_copies p j) (promotes.others p j below from to here) (stands.others p j below from to here);
}

module _ (layout : Layout) (node : ℕ) (shards then_shards : List ShardState) (copies then_copies : List CopyState) (counted : AreCounted layout shards copies)
    (shards_change : ChangesAt empty (is_shard_on layout node) (λ _. PromotesShard) shards then_shards)
    (copies_change : ChangesAt (begun 0 empty) (is_copy_on layout node) (λ _. PromotesCopy) copies then_copies) where
  pub promoted_counted : AreCounted layout then_shards then_copies
  promoted_counted = counted_then layout node shards then_shards copies then_copies counted (λ _. PromotesShard) (λ _. PromotesCopy) shards_change copies_change

  pub promoted_others : OthersStay layout node shards copies then_shards then_copies
  promoted_others = others_stay layout node shards then_shards copies then_copies counted (λ _. PromotesShard) (λ _. PromotesCopy) shards_change copies_change

  pub promoted_node : NodePromotes layout node shards copies then_shards then_copies
  promoted_node = record {
    primaries = λ p below here. shard_there layout node shards then_shards copies then_copies counted (λ _. PromotesShard) (λ _. PromotesCopy) shards_change copies_change p below here;
    others = λ p j below from to here. copy_there layout node shards then_shards copies then_copies counted (λ _. PromotesShard) (λ _. PromotesCopy) shards_change copies_change p j below from to here;
  }

  pub promoted_stand : (m : Rows) (behind : ℕ → Bool) → TablesStand layout m behind shards copies → TablesStand layout m (caught_up node behind) then_shards then_copies
  promoted_stand m behind stand = all_stand layout m node shards then_shards copies then_copies promoted_others behind promoted_counted
      (node_promoted layout node shards then_shards copies then_copies promoted_node m (behind node) (node_of_all layout m behind shards copies stand node)) (λ n below other. stand.nodes n below)

-- ---- taken

-- the table at a place is that of the other set
abbrev pub IsShardFrom : List ShardState → ℕ → ShardState → ShardState → Type 0
IsShardFrom from place old new = new ≡ shard_at from place

abbrev pub IsCopyFrom : List CopyState → ℕ → CopyState → CopyState → Type 0
IsCopyFrom from place old new = new ≡ get_or from place (begun 0 empty)

module _ (layout : Layout) (node : ℕ) (from_shards shards then_shards : List ShardState) (from_copies copies then_copies : List CopyState) (counted : AreCounted layout shards copies)
    (shards_change : ChangesAt empty (is_shard_on layout node) (IsShardFrom from_shards) shards then_shards)
    (copies_change : ChangesAt (begun 0 empty) (is_copy_on layout node) (IsCopyFrom from_copies) copies then_copies) where
  pub taken_counted : AreCounted layout then_shards then_copies
  taken_counted = counted_then layout node shards then_shards copies then_copies counted (IsShardFrom from_shards) (IsCopyFrom from_copies) shards_change copies_change

  pub taken_others : OthersStay layout node shards copies then_shards then_copies
  taken_others = others_stay layout node shards then_shards copies then_copies counted (IsShardFrom from_shards) (IsCopyFrom from_copies) shards_change copies_change

  pub taken_node : NodeIsFrom layout node from_shards from_copies then_shards then_copies
  taken_node = record {
    primaries = λ p below here. shard_there layout node shards then_shards copies then_copies counted (IsShardFrom from_shards) (IsCopyFrom from_copies) shards_change copies_change p below here;
    others = λ p j below from to here. copy_there layout node shards then_shards copies then_copies counted (IsShardFrom from_shards) (IsCopyFrom from_copies) shards_change copies_change p j below from to here;
  }

  pub taken_stand : (m : Rows) (behind : ℕ → Bool) → NodeStands layout m node false from_shards from_copies → OthersStand layout m node behind shards copies → TablesStand layout m (caught_up node behind) then_shards then_copies
  taken_stand m behind stands others = all_stand layout m node shards then_shards copies then_copies taken_others behind taken_counted
      (record {
        primaries = λ p below here. subst (ShardStands false layout.partitions p (on_partition layout.partitions p m)) (sym (taken_node.primaries p below here)) (stands.primaries p below here);
        others = λ p j below from to here. subst (CopyStands false (on_partition layout.partitions p m)) (sym (taken_node.others p j below from to here)) (stands.others p j below from to here);
      }) others
