use Rattle.std.proofs.Common.{codes, sym, ◌∙◌}
use Rattle.coco_lex.proofs.Fronts.{any_contains_byte}
use Rattle.coco_lex.proofs.front.is_single.Goals as goal

pub returns : goal.returns
returns c =
    let h = c.contains.ensures.value in
    let found = any_contains_byte (codes "(){}[],;=<>+-*/%") c.args.b in
    (λ t. found.0 (sym h ∙ t), λ m. h ∙ found.1 m)
