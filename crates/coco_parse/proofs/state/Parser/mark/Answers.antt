use Rattle.std.proofs.Common.{sym, ◌∙◌}
use Rattle.coco_parse.specs.Machine.{Fixed}
use Rattle.coco_parse.specs.Steps.{mark_of}
use Rattle.coco_parse.proofs.Choices.{fixed_some, fixed_none}
use Rattle.coco_parse.proofs.Steps.{stops_end, stops_word}
use Rattle.coco_parse.proofs.state.Parser.mark.Goals as goal

pub returns-in_default-clause-reads : goal.returns-in_default-clause-reads
returns-in_default-clause-reads c g s = c.unexpected.ensures (Fixed (mark_of c.args.mark) g) s (stops_end _ _ (sym c.in_default.ensures.word) (λ i. cc i.2))

pub returns-then-not-fits-clause-reads : goal.returns-then-not-fits-clause-reads
returns-then-not-fits-clause-reads c g s =
    let m = mark_of c.args.mark in
    let w = c.in-Some.word in
    c.unexpected-then-not-fits.ensures (Fixed m g) s (stops_word _ _ w (sym c.in-Some.ensures.word) (fixed_none m g w (sym c.fits.ensures ∙ c.if-not-fits.true)))

pub returns-clause-reads : goal.returns-clause-reads
returns-clause-reads c g s =
    let m = mark_of c.args.mark in
    c.advance.ensures.reads (Fixed m g) g (fixed_some m g c.in-Some.word (sym c.fits.ensures ∙ c.if-not-fits.false)) s
