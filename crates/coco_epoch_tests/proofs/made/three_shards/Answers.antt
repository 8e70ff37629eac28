use Rattle.std.proofs.Common.{◌≡◌, ℕ, zero, suc, List, [], ◌∷◌, ◌++◌, refl, sym, ap, subst, ◌∙◌}
use Rattle.std.specs.FinMap.{empty}
use Rattle.coco_shard.proofs.Partitions.{none_of}
use Rattle.coco_shard.specs.RowState.{IsOfPartition, ShardState}
use Rattle.coco_tail.specs.Shards.{AreOfPartitions, shard_at}
use Rattle.coco_epoch_tests.proofs.made.three_shards.Goals as goal

abbrev three_empty : List ShardState
three_empty = empty ∷ empty ∷ empty ∷ []

all_empty : (p : ℕ) → shard_at three_empty p ≡ empty
all_empty zero = refl
all_empty (suc zero) = refl
all_empty (suc (suc zero)) = refl
all_empty (suc (suc (suc p))) = refl

pub returns-clause-partitions : goal.returns-clause-partitions
returns-clause-partitions c =
    let made : c.push-3.new.self.items ≡ three_empty =
    c.in_ok-push-3.ensures.items
    ∙ ap (λ (xs : List ShardState). xs ++ c.new-3.result ∷ [])
    (c.in_ok-push-2.ensures.items ∙ ap (λ (xs : List ShardState). xs ++ c.new-2.result ∷ []) (c.in_ok-push.ensures.items ∙ ap (λ (xs : List ShardState). xs ++ c.new.result ∷ []) c.in_ok-shards.ensures.items))
    ∙ ap (λ (s : ShardState). s ∷ c.new-2.result ∷ c.new-3.result ∷ []) c.new.ensures.empty
    ∙ ap (λ (s : ShardState). empty ∷ s ∷ c.new-3.result ∷ []) c.new-2.ensures.empty
    ∙ ap (λ (s : ShardState). empty ∷ empty ∷ s ∷ []) c.new-3.ensures.empty in
    subst AreOfPartitions (sym made) (λ p. subst (IsOfPartition 3 p) (sym (all_empty p)) (none_of 3 p))
