use Rattle.std.proofs.Common.{sym}
use Rattle.coco_parse.specs.Machine.{Listed}
use Rattle.coco_parse.proofs.Choices.{listed_none, listed_more, listed_end}
use Rattle.coco_parse.proofs.Steps.{stops_end, stops_word, exit_same}
use Rattle.coco_parse.proofs.state.Parser.has_more.Goals as goal

pub returns-in_default-clause-reads : goal.returns-in_default-clause-reads
returns-in_default-clause-reads c names k s = c.unexpected.ensures (Listed names k) s (stops_end _ _ (sym c.in_default.ensures.word) (λ i. cc i.2))

pub returns-in_err-advance-in-Comma-clause-reads : goal.returns-in_err-advance-in-Comma-clause-reads
returns-in_err-advance-in-Comma-clause-reads c names k s = exit_same _ _ _ _ c.from_residual.ensures.1 (c.in_err-advance-in-Comma.ensures.reads (Listed names k) _ (listed_more names k _ c.in-Comma.is) s)

pub returns-in_err-advance-in-CloseParen-clause-reads : goal.returns-in_err-advance-in-CloseParen-clause-reads
returns-in_err-advance-in-CloseParen-clause-reads c names k s = exit_same _ _ _ _ c.from_residual-in_err-advance-in-CloseParen.ensures.1 (c.in_err-advance-in-CloseParen.ensures.reads (Listed names k) _ (listed_end names k _ c.in-CloseParen.is) s)

pub returns-in_ok-advance-in-Comma-clause-reads : goal.returns-in_ok-advance-in-Comma-clause-reads
returns-in_ok-advance-in-Comma-clause-reads c names k s = c.in_ok-advance-in-Comma.ensures.reads (Listed names k) _ (listed_more names k _ c.in-Comma.is) s

pub returns-in_ok-advance-in-CloseParen-clause-reads : goal.returns-in_ok-advance-in-CloseParen-clause-reads
returns-in_ok-advance-in-CloseParen-clause-reads c names k s = c.in_ok-advance-in-CloseParen.ensures.reads (Listed names k) _ (listed_end names k _ c.in-CloseParen.is) s

pub returns-in_default-word-clause-reads : goal.returns-in_default-word-clause-reads
returns-in_default-word-clause-reads c names k s =
    c.unexpected-in_default-word.ensures (Listed names k) s (stops_word _ _ c.in-Some.word (sym c.in-Some.ensures.word) (listed_none names k c.in-Some.word c.in_default-word.not-Comma c.in_default-word.not-CloseParen))
