-- Tables on one node that are changed, place by place, seen by partition and copy.
use Rattle.std.proofs.Common.{◌≡◌, ◌≢◌, ℕ, ◌+◌, ◌-◌, ◌*◌, ◌%◌, ◌<◌, ◌≤◌, Bool, true, false, cond, nat_eq, List, length, refl, sym, ap, ◌∙◌, subst, arith}
use Rattle.std.specs.FinMap.{empty}
use Rattle.std.proofs.lemmas.Bool.{eqb-true, eq-eqb}
use Rattle.std.proofs.lemmas.Nat.{div-mul-add, mod-mul-add}
use Rattle.coco_ast.specs.Keyed.{Rows, on_partition}
use Rattle.coco_copy.specs.CopyState.{CopyState, begun}
use Rattle.coco_entry.specs.declared.layout.Layout.{Layout}
use Rattle.coco_shard.specs.RowState.{ShardState}
use Rattle.coco_load.specs.Tables.{copy_at, shard_at}
use Rattle.coco_load.proofs.Ring.{place_within}
use Rattle.coco_standing.specs.Changes.{ChangesAt}
use Rattle.coco_standing.specs.Places.{copy_node, is_copy_on, is_shard_on, node_of}
use Rattle.coco_standing.specs.Standing.{AreCounted, CopyStands, NodeStands, OthersStand, OthersStay, ShardStands, TablesStand, caught_up}

two_sides : true ≡ false → ⊥
two_sides h = cc

pub not_one : (a b : ℕ) → a ≢ b → nat_eq a b ≡ false
not_one a b other = elim (nat_eq a b) as (λ v. nat_eq a b ≡ v → v ≡ false) [
  | true ↦ λ t. absurd (other (eqb-true a b t))
  | false ↦ λ _. refl
] refl

-- ---- places of copies

one_less : (a j : ℕ) → 1 ≤ j → a + j - 1 ≡ a + (j - 1)
one_less a j from = omega arith

back_up : (j : ℕ) → 1 ≤ j → j - 1 + 1 ≡ j
back_up j from = omega arith

less : (c j : ℕ) → 1 ≤ j → j ≤ c → j - 1 < c
less c j from to = omega arith

-- the copy of a partition that is so far behind the primary stands on the node that its place says
pub node_there : (layout : Layout) (p j : ℕ) → 1 ≤ j → j ≤ layout.copies → copy_node layout (p * layout.copies + j - 1) ≡ node_of layout p j
node_there layout p j from to =
    let c = layout.copies in
    ap (λ (x : ℕ). copy_node layout x) (one_less (p * c) j from)
    ∙ ap (λ (x : ℕ). node_of layout x ((p * c + (j - 1)) % c + 1)) (div-mul-add p c (j - 1) (less c j from to))
    ∙ ap (λ (x : ℕ). node_of layout p (x + 1)) (mod-mul-add p c (j - 1) (less c j from to))
    ∙ ap (node_of layout p) (back_up j from)

-- ---- the tables of one node are changed

module _ (layout : Layout) (node : ℕ) (shards then_shards : List ShardState) (copies then_copies : List CopyState) (counted : AreCounted layout shards copies)
    (ShardMakes : ℕ → ShardState → ShardState → Type 0) (CopyMakes : ℕ → CopyState → CopyState → Type 0)
    (shards_change : ChangesAt empty (is_shard_on layout node) ShardMakes shards then_shards)
    (copies_change : ChangesAt (begun 0 empty) (is_copy_on layout node) CopyMakes copies then_copies) where
  pub counted_then : AreCounted layout then_shards then_copies
  counted_then = record {
    ring = counted.ring;
    shard_count = shards_change.count ∙ counted.shard_count;
    copy_count = copies_change.count ∙ counted.copy_count;
  }

  pub shard_there : (p : ℕ) → p < layout.partitions → node_of layout p 0 ≡ node → ShardMakes p (shard_at shards p) (shard_at then_shards p)
  shard_there p below here = shards_change.there p (let count : length shards ≡ layout.partitions = counted.shard_count in omega arith) (eq-eqb (node_of layout p 0) node here)

  pub copy_there : (p j : ℕ) → p < layout.partitions → 1 ≤ j → j ≤ layout.copies → node_of layout p j ≡ node → CopyMakes (p * layout.copies + j - 1) (copy_at layout copies p j) (copy_at layout then_copies p j)
  copy_there p j below from to here =
      let place : ℕ = p * layout.copies + j - 1 in
      copies_change.there place (subst (λ (n : ℕ). place < n) (sym counted.copy_count) (place_within layout.copies layout.partitions p j below from to))
      (eq-eqb (copy_node layout place) node (node_there layout p j from to ∙ here))

  pub others_stay : OthersStay layout node shards copies then_shards then_copies
  others_stay = record {
    primaries = λ p below away. shards_change.elsewhere p (not_one (node_of layout p 0) node away);
    others = λ p j below from to away. copies_change.elsewhere (p * layout.copies + j - 1) (not_one (copy_node layout (p * layout.copies + j - 1)) node (λ e. away (sym (node_there layout p j from to) ∙ e)));
  }

-- ---- the map that they have

module _ (layout : Layout) (m : Rows) (node : ℕ) (shards then_shards : List ShardState) (copies then_copies : List CopyState) (stay : OthersStay layout node shards copies then_shards then_copies) where
  -- another node stands as it did
  pub other_stands : (n : ℕ) → n ≢ node → (is_behind : Bool) → NodeStands layout m n is_behind shards copies → NodeStands layout m n is_behind then_shards then_copies
  other_stands n other is_behind stands = record {
    primaries = λ p below here. subst (ShardStands is_behind layout.partitions p (on_partition layout.partitions p m)) (sym (stay.primaries p below (λ e. other (sym here ∙ e)))) (stands.primaries p below here);
    others = λ p j below from to here. subst (CopyStands is_behind (on_partition layout.partitions p m)) (sym (stay.others p j below from to (λ e. other (sym here ∙ e)))) (stands.others p j below from to here);
  }

  -- with the node itself all stand
  pub all_stand : (behind : ℕ → Bool) → AreCounted layout then_shards then_copies → NodeStands layout m node false then_shards then_copies → OthersStand layout m node behind shards copies
      → TablesStand layout m (caught_up node behind) then_shards then_copies
  all_stand behind counted here there = record {
    counted = counted;
    nodes = λ n below. elim (nat_eq n node) as (λ b. nat_eq n node ≡ b → NodeStands layout m n (cond b false (behind n)) then_shards then_copies) [
      | true ↦ λ t. subst (λ (i : ℕ). NodeStands layout m i false then_shards then_copies) (sym (eqb-true n node t)) here
      | false ↦ λ f. let other : n ≢ node = λ e. two_sides (sym (eq-eqb n node e) ∙ f) in other_stands n other (behind n) (there n below other)
    ] refl;
  }
