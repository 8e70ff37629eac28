-- The tables of a node that isn't behind any more.
use Rattle.std.proofs.Common.{◌≡◌, ℕ, ◌<◌, Bool, true, false, eqb, List, ◌++◌, length, sym, ap, subst, ◌∙◌}
use Rattle.std.specs.Prelude.{if◌then◌else◌}
use Rattle.std.proofs.Math.ListN.{set, take, drop}
use Rattle.std.proofs.Math.Seq.{take-append_seam}
use Rattle.std.proofs.lemmas.Bool.{eqb-true, eqb-false}
use Rattle.std.proofs.lemmas.List.{get_or-set_same, get_or-set_other}
use Rattle.coco_ast.specs.Keyed.{Rows}
use Rattle.coco_copy.specs.CopyState.{CopyState}
use Rattle.coco_entry.specs.declared.layout.Layout.{Layout}
use Rattle.coco_shard.specs.RowState.{ShardState}
use Rattle.coco_standing.specs.Standing.{caught_up, NodeStands, TablesStand}
use Rattle.coco_finish.specs.Finishing.{is_behind}

-- a node that is marked as not behind isn't, and the others are as before
pub behind_set : (behind : List Bool) (node : ℕ) → node < length behind → (n : ℕ) → is_behind (set behind node false) n ≡ caught_up node (is_behind behind) n
behind_set behind node within n = by_place (eqb n node) (λ i. eqb n node)
  where
    by_place : (b : Bool) → eqb n node ≡ b → is_behind (set behind node false) n ≡ (if b then false else is_behind behind n)
    by_place true at = ap (is_behind (set behind node false)) (eqb-true n node at) ∙ get_or-set_same behind node false false within
    by_place false at = get_or-set_other behind node n false false (eqb-false n node at)

pub stand_marked : (layout : Layout) (m : Rows) (behind : List Bool) (node : ℕ) (shards : List ShardState) (copies : List CopyState) → node < length behind
    → TablesStand layout m (caught_up node (is_behind behind)) shards copies → TablesStand layout m (is_behind (set behind node false)) shards copies
stand_marked layout m behind node shards copies within stand = record {
  counted = stand.counted;
  nodes = λ n lt. subst (λ (b : Bool). NodeStands layout m n b shards copies) (sym (behind_set behind node within n)) (stand.nodes n lt);
}

-- a list that was lent whole comes back whole
pub back : {X : Type 0} (xs ys : List X) (n : ℕ) → n ≡ length ys → length xs ≡ length ys → take n (xs ++ drop (length xs) ys) ≡ xs
back xs ys n all same = ap (λ (k : ℕ). take k (xs ++ drop (length xs) ys)) (all ∙ sym same) ∙ take-append_seam xs (drop (length xs) ys)

pub stand_of : (layout : Layout) (m : Rows) (bs bs2 : List Bool) (ss ss2 : List ShardState) (cs cs2 : List CopyState) → bs ≡ bs2 → ss ≡ ss2 → cs ≡ cs2
    → TablesStand layout m (is_behind bs) ss cs → TablesStand layout m (is_behind bs2) ss2 cs2
stand_of layout m bs bs2 ss ss2 cs cs2 b s c stand =
    subst (λ (x : List Bool). TablesStand layout m (is_behind x) ss2 cs2) b
    (subst (λ (x : List ShardState). TablesStand layout m (is_behind bs) x cs2) s
    (subst (λ (x : List CopyState). TablesStand layout m (is_behind bs) ss x) c stand))
