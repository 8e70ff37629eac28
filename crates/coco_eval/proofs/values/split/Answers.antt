use Rattle.coco_eval.proofs.TermLemmas.{tree_at, no_tree}
use Rattle.coco_eval.proofs.values.split.Goals as goal

pub returns-then-place-terms-clause-some : goal.returns-then-place-terms-clause-some
returns-then-place-terms-clause-some c names = tree_at names c.args.terms.now c.args.place c.index-terms-place.result c.if-place-terms.true c.index-terms-place.is

pub returns-else-place-terms-clause-none : goal.returns-else-place-terms-clause-none
returns-else-place-terms-clause-none c e names = no_tree names c.args.terms.now c.args.place c.if-place-terms.false
