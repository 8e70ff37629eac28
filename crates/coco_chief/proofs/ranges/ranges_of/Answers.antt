use Rattle.std.proofs.Common.{◌≡◌, ℕ, List, sym, ap, subst, ◌∙◌, arith}
use Rattle.std.specs.Prelude.{IsPermutation}
use Rattle.std.proofs.lemmas.List.{take_at}
use Rattle.std.proofs.lemmas.List.Sorted.{length_permutation}
use Rattle.coco_chief.proofs.EpochLemmas.{covers_reordered, end_reordered}
use Rattle.coco_chief.proofs.ranges.ranges_of.Goals as goal

-- what was gone through are the epochs in order
reordered : (c : goal.After-drop-epochs) → IsPermutation c.args.epochs.items c.deref.result.now
reordered c =
    let was : c.deref_mut.result.now ≡ c.args.epochs.items = c.deref_mut.ensures.value in
    let is : c.deref.result.now ≡ c.sort_once.new.epochs = c.deref.ensures.value ∙ take_at c.sort_once.new.epochs _ c.args.epochs.len (length_permutation _ _ c.sort_once.ensures.same ∙ c.deref_mut.ensures.len) in
    subst (λ (ys : List ℕ). IsPermutation c.args.epochs.items ys) (sym is) (subst (λ (xs : List ℕ). IsPermutation xs c.sort_once.new.epochs) was c.sort_once.ensures.same)

pub returns-clause-covers : goal.returns-clause-covers
returns-clause-covers c = covers_reordered c.ranges_of_rising.result c.args.epochs.items c.deref.result.now (reordered c) c.ranges_of_rising.ensures.covers

pub returns-clause-end : goal.returns-clause-end
returns-clause-end c = end_reordered c.ranges_of_rising.result c.args.epochs.items c.deref.result.now (reordered c) c.ranges_of_rising.ensures.end
