use Rattle.std.proofs.Common.{sym}
use Rattle.coco_parse.specs.Machine.{Numbered}
use Rattle.coco_parse.proofs.Choices.{numbered_some, numbered_none}
use Rattle.coco_parse.proofs.Steps.{stops_end, stops_word, exit_same}
use Rattle.coco_parse.proofs.state.Parser.number.Goals as goal

pub returns-in_default-clause-reads : goal.returns-in_default-clause-reads
returns-in_default-clause-reads c k s = c.unexpected.ensures (Numbered k) s (stops_end _ _ (sym c.in_default.ensures.word) (λ i. cc i.2))

pub returns-in_default-number-clause-reads : goal.returns-in_default-number-clause-reads
returns-in_default-number-clause-reads c k s =
    let w = c.in-Some.word in
    c.unexpected-in_default-number.ensures (Numbered k) s (stops_word _ _ w (sym c.in-Some.ensures.word) (numbered_none k w (sym c.in_default-number.ensures)))

pub returns-in_err-advance-clause-reads : goal.returns-in_err-advance-clause-reads
returns-in_err-advance-clause-reads c k s =
    let number = c.in-Some-number.number in
    exit_same _ _ _ _ c.from_residual.ensures.1 (c.in_err-advance.ensures.reads (Numbered k) (k number) (numbered_some k c.in-Some.word number (sym c.in-Some-number.ensures)) s)

pub returns-clause-reads : goal.returns-clause-reads
returns-clause-reads c k s =
    let number = c.in-Some-number.number in
    c.in_ok-advance.ensures.reads (Numbered k) (k number) (numbered_some k c.in-Some.word number (sym c.in-Some-number.ensures)) s
