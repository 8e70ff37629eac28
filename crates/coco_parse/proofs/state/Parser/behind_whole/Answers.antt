use Rattle.std.proofs.Common.{sym, ◌∙◌}
use Rattle.coco_ast.specs.Views.{expression_of}
use Rattle.coco_parse.specs.Machine.{Operator}
use Rattle.coco_parse.specs.Steps.{frames_of, mark_of}
use Rattle.coco_parse.proofs.Choices.{collapses_opened, collapses_ended, whole_some, whole_open, whole_unmarked}
use Rattle.coco_parse.proofs.Steps.{stops_word, exit_refused, faulty}
use Rattle.coco_parse.proofs.state.Parser.behind_whole.Goals as goal

pub returns-then-ends-clause-reads : goal.returns-then-ends-clause-reads
returns-then-ends-clause-reads c k s =
    let p = c.args.self.now in let e = expression_of c.args.operand in let fs = frames_of c.args.frames.now.items in
    let m = mark_of c.args.end in
    faulty p _ _ c.into.ensures (c.unexpected.ensures (Operator e fs m k) s (stops_word _ _ _ c.requires.next (whole_open e fs m k c.args.word.now c.requires.no_operator c.requires.no_paren (collapses_opened _ _ _ _ _ c.if-ends.true c.in_ok-ends.ensures).1)))

pub returns-then-not-fits-clause-reads : goal.returns-then-not-fits-clause-reads
returns-then-not-fits-clause-reads c k s =
    let p = c.args.self.now in let e = expression_of c.args.operand in let fs = frames_of c.args.frames.now.items in
    let m = mark_of c.args.end in
    faulty p _ _ c.into-then-not-fits.ensures (c.unexpected-then-not-fits.ensures (Operator e fs m k) s (stops_word _ _ _ c.requires.next (whole_unmarked e fs m k c.args.word.now c.requires.no_operator c.requires.no_paren (sym c.fits.ensures ∙ c.if-not-fits.true))))

pub returns-in_err-advance-clause-reads : goal.returns-in_err-advance-clause-reads
returns-in_err-advance-clause-reads c k s =
    let p = c.args.self.now in let e = expression_of c.args.operand in let fs = frames_of c.args.frames.now.items in
    let m = mark_of c.args.end in
    let d = expression_of c.in_ok-ends.ends.operand in
    exit_refused _ _ p _ c.from_residual-in_err-advance.ensures.1 (c.in_err-advance.ensures.reads (Operator e fs m k) (k d) (whole_some e d fs m k c.args.word.now c.requires.no_operator c.requires.no_paren (sym c.fits.ensures ∙ c.if-not-fits.false) (collapses_ended _ _ _ _ _ c.if-ends.false c.in_ok-ends.ensures).1) s)

pub returns-clause-reads : goal.returns-clause-reads
returns-clause-reads c k s =
    let p = c.args.self.now in let e = expression_of c.args.operand in let fs = frames_of c.args.frames.now.items in
    let m = mark_of c.args.end in
    let d = expression_of c.in_ok-ends.ends.operand in
    c.in_ok-advance.ensures.reads (Operator e fs m k) (k d) (whole_some e d fs m k c.args.word.now c.requires.no_operator c.requires.no_paren (sym c.fits.ensures ∙ c.if-not-fits.false) (collapses_ended _ _ _ _ _ c.if-ends.false c.in_ok-ends.ensures).1) s
