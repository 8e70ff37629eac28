use Rattle.std.proofs.Common.{◌<◌, length, sym, subst, ◌∙◌}
use Rattle.coco_ast.specs.Tree.{Procedures}
use Rattle.coco_rules.proofs.BasingLemmas.{ends_more, row_rises}
use Rattle.coco_rules.proofs.base.takes_row.Goals as goal

pub returns : goal.returns
returns c = λ s before tree ends.
    let row = c.args.row.now in
    let rises = row_rises before c.args.last.now row.0 ends (sym c.rises.ensures ∙ c.if-not-rises.false) in
    (record { table = subst (λ (t : Procedures). row.0.table < length t.tables) (sym tree) (c.has_table.ensures.0 c.if-not-has_table.false); rises = rises }, ends_more before row rises)
