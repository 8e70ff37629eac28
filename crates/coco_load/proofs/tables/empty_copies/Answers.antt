use Rattle.std.proofs.Common.{List, ◌∷◌, [], length, get_or, ap, ◌∙◌, arith, length-append}
use Rattle.std.specs.FinMap.{empty}
use Rattle.coco_copy.specs.CopyState.{CopyState, begun}
use Rattle.coco_load.proofs.TableLemmas.{all_default}
use Rattle.coco_load.proofs.tables.empty_copies.Goals as goal

pub loop-init : goal.loop-init
loop-init c = record {
  count = ap (λ (l : List CopyState). length l) c.in_ok-copies.ensures.items;
  within = omega arith;
  empty = λ i. ap (λ (l : List CopyState). get_or l i (begun 0 empty)) c.in_ok-copies.ensures.items;
}

pub loop-preserved : goal.loop-preserved
loop-preserved c = record {
  count = ap (λ (l : List CopyState). length l) c.in_ok-push.ensures.items ∙ (omega (arith, length-append c.loop.copies.items (c.new.result ∷ []), c.loop.invariant.count));
  within = omega arith;
  empty = λ i. ap (λ (l : List CopyState). get_or l i (begun 0 empty)) c.in_ok-push.ensures.items ∙ all_default c.loop.copies.items c.new.result (begun 0 empty) c.new.ensures c.loop.invariant.empty i;
}
