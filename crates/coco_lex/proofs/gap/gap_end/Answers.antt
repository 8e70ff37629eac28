use Rattle.std.proofs.Common.{arith, subst}
use Rattle.std.proofs.lemmas.List.{take_rest}
use Rattle.coco_lex.specs.Steps.{IsSeparator}
use Rattle.coco_lex.proofs.Gaps.{gap_begins, gap_more}
use Rattle.coco_lex.proofs.gap.gap_end.Goals as goal

pub loop-at-init : goal.loop-at-init
loop-at-init c = gap_begins c.args.text.now c.args.from c.requires

pub loop-at-preserved : goal.loop-at-preserved
loop-at-preserved c =
    let separator = subst (λ l. IsSeparator l c.separator_len-len.result) (take_rest c.args.text.now c.loop-at.at) c.separator_len-len.ensures in
    gap_more c.args.text.now c.args.from c.loop-at.at c.separator_len-len.result c.loop-at.invariant (omega arith) (omega arith) separator
