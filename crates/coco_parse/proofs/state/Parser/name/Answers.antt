use Rattle.std.proofs.Common.{sym}
use Rattle.coco_parse.specs.Machine.{Named}
use Rattle.coco_parse.proofs.Choices.{named_some, named_none}
use Rattle.coco_parse.proofs.Steps.{stops_end, stops_word, exit_same}
use Rattle.coco_parse.proofs.state.Parser.name.Goals as goal

pub returns-in_default-clause-reads : goal.returns-in_default-clause-reads
returns-in_default-clause-reads c k s = c.unexpected.ensures (Named k) s (stops_end _ _ (sym c.in_default.ensures.word) (λ i. cc i.2))

pub returns-in_default-name-clause-reads : goal.returns-in_default-name-clause-reads
returns-in_default-name-clause-reads c k s =
    let w = c.in-Some.word in
    c.unexpected-in_default-name.ensures (Named k) s (stops_word _ _ w (sym c.in-Some.ensures.word) (named_none k w (sym c.in_default-name.ensures)))

pub returns-in_err-advance-clause-reads : goal.returns-in_err-advance-clause-reads
returns-in_err-advance-clause-reads c k s =
    let name = c.in-Some-name.name in
    exit_same _ _ _ _ c.from_residual.ensures.1 (c.in_err-advance.ensures.reads (Named k) (k name) (named_some k c.in-Some.word name (sym c.in-Some-name.ensures)) s)

pub returns-clause-reads : goal.returns-clause-reads
returns-clause-reads c k s =
    let name = c.in-Some-name.name in
    c.in_ok-advance.ensures.reads (Named k) (k name) (named_some k c.in-Some.word name (sym c.in-Some-name.ensures)) s
