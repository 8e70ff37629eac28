use Rattle.std.proofs.Common.{◌≡◌, Some, None, sym, ap, ◌∙◌}
use Rattle.coco_parse.specs.Steps.{is_optional}
use Rattle.coco_parse.proofs.Steps.{stands_missing, exit_same}
use Rattle.coco_parse.proofs.state.Parser.takes.Goals as goal

pub returns-in_default-clause-reads : goal.returns-in_default-clause-reads
returns-in_default-clause-reads c g h o ch s = stands_missing c.args.self.now c.args.cursor.now c.args.optional g h o ch s (λ w e. let none : Some w ≡ None = sym e ∙ sym c.in_default.ensures.word in absurd (cc none))

pub returns-then-not-fits-clause-reads : goal.returns-then-not-fits-clause-reads
returns-then-not-fits-clause-reads c g h o ch s =
    stands_missing c.args.self.now c.args.cursor.now c.args.optional g h o ch s
    (λ w e. let same : Some c.in-Some.word ≡ Some w = c.in-Some.ensures.word ∙ e in ap (is_optional c.args.optional) (cc same) ∙ sym c.fits.ensures ∙ c.if-not-fits.true)

pub returns-in_err-advance-clause-reads : goal.returns-in_err-advance-clause-reads
returns-in_err-advance-clause-reads c g h o ch s = exit_same _ _ _ _ c.from_residual.ensures.1 (c.in_err-advance.ensures.reads g h (ch.taken c.in-Some.word (sym c.fits.ensures ∙ c.if-not-fits.false)) s)

pub returns-clause-reads : goal.returns-clause-reads
returns-clause-reads c g h o ch s = c.in_ok-advance.ensures.reads g h (ch.taken c.in-Some.word (sym c.fits.ensures ∙ c.if-not-fits.false)) s
