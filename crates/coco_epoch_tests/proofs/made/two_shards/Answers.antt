use Rattle.std.proofs.Common.{◌≡◌, ℕ, zero, suc, ◌≤◌, ◌%◌, List, [], ◌∷◌, ◌++◌, None, refl, sym, ap, subst, ◌∙◌, arith}
use Rattle.std.specs.FinMap.{empty, get-empty}
use Rattle.std.specs.Option.{unwrap_or}
use Rattle.coco_types.specs.RowKey.{RowKey, key_cmp}
use Rattle.coco_shard.specs.RowState.{IsOfPartition, RowState, ShardState, resting, row_at}
use Rattle.coco_shard.proofs.Partitions.{none_of}
use Rattle.coco_tail.specs.Shards.{AreOfPartitions, AreQuietAfter, row_in, shard_at}
use Rattle.coco_epoch_tests.proofs.made.two_shards.Goals as goal

abbrev two_empty : List ShardState
two_empty = empty ∷ empty ∷ []

all_empty : (p : ℕ) → shard_at two_empty p ≡ empty
all_empty zero = refl
all_empty (suc zero) = refl
all_empty (suc (suc p)) = refl

row_of_two : (k : RowKey) → row_in two_empty k ≡ resting None
row_of_two k = ap (λ (s : ShardState). row_at s k) (all_empty (k.row % 2)) ∙ ap (λ o. unwrap_or o (resting None)) (get-empty key_cmp k)

made : (c : goal.In_ok-push-2) → c.push-2.new.self.items ≡ two_empty
made c =
    c.in_ok-push-2.ensures.items
    ∙ ap (λ (xs : List ShardState). xs ++ c.new-2.result ∷ []) (c.in_ok-push.ensures.items ∙ ap (λ (xs : List ShardState). xs ++ c.new.result ∷ []) c.in_ok-shards.ensures.items)
    ∙ ap (λ (s : ShardState). s ∷ c.new-2.result ∷ []) c.new.ensures.empty
    ∙ ap (λ (s : ShardState). empty ∷ s ∷ []) c.new-2.ensures.empty

pub returns-clause-partitions : goal.returns-clause-partitions
returns-clause-partitions c =
    subst AreOfPartitions (sym (made c)) (λ p. subst (IsOfPartition 2 p) (sym (all_empty p)) (none_of 2 p))

pub returns-clause-quiet : goal.returns-clause-quiet
returns-clause-quiet c = subst (AreQuietAfter 3) (sym (made c)) (record {
  unmarked = λ k. ap (λ (r : RowState). r.mark) (row_of_two k);
  until = λ k. subst (λ (r : RowState). r.rts ≤ 3) (sym (row_of_two k)) (omega arith);
})
