use Rattle.std.proofs.Common.{sym, subst}
use Rattle.coco_lex.specs.Tokens.{Follow}
use Rattle.coco_lex.proofs.Readings.{follow_more}
use Rattle.coco_lex.proofs.lexer.tokens_of.Goals as goal

-- the token joins the others, and the gap behind it ends where the next begins
pub loop-at-preserved : goal.loop-at-preserved
loop-at-preserved c =
    let gap = c.gap_end-at-in-loop-at.ensures in
    let token = c.in_ok-token.token in
    let more = follow_more c.args.text.now 0 c.loop-at.tokens.items c.loop-at.at token c.gap_end-at-in-loop-at.result c.loop-at.invariant.follow c.in_ok-token.ensures.0 c.in_ok-token.ensures.1 gap in
    record {
      follow = subst (λ ts. Follow c.args.text.now 0 ts c.gap_end-at-in-loop-at.result) (sym c.in_ok-push.ensures.items) more;
      within = gap.within;
    }
