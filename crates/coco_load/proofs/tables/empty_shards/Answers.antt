use Rattle.std.proofs.Common.{List, ◌∷◌, [], length, get_or, ap, ◌∙◌, arith, length-append}
use Rattle.std.specs.FinMap.{empty}
use Rattle.coco_shard.specs.RowState.{ShardState}
use Rattle.coco_load.proofs.TableLemmas.{all_default}
use Rattle.coco_load.proofs.tables.empty_shards.Goals as goal

pub loop-init : goal.loop-init
loop-init c = record {
  count = ap (λ (l : List ShardState). length l) c.in_ok-shards.ensures.items;
  within = omega arith;
  empty = λ i. ap (λ (l : List ShardState). get_or l i (empty)) c.in_ok-shards.ensures.items;
}

pub loop-preserved : goal.loop-preserved
loop-preserved c = record {
  count = ap (λ (l : List ShardState). length l) c.in_ok-push.ensures.items ∙ (omega (arith, length-append c.loop.shards.items (c.new.result ∷ []), c.loop.invariant.count));
  within = omega arith;
  empty = λ i. ap (λ (l : List ShardState). get_or l i (empty)) c.in_ok-push.ensures.items ∙ all_default c.loop.shards.items c.new.result (empty) c.new.ensures.empty c.loop.invariant.empty i;
}
