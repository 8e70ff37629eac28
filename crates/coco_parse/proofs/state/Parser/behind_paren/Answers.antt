use Rattle.std.proofs.lemmas.Bool.{not-true, not-false}
use Rattle.coco_ast.specs.Views.{expression_of}
use Rattle.coco_parse.specs.Machine.{Operator}
use Rattle.coco_parse.specs.Steps.{frames_of}
use Rattle.coco_parse.proofs.Choices.{collapses_opened, collapses_ended, paren_some, paren_none}
use Rattle.coco_parse.proofs.Steps.{stops_word, exit_refused, faulty}
use Rattle.coco_parse.proofs.state.Parser.behind_paren.Goals as goal

pub returns-then-not-ends-clause-reads : goal.returns-then-not-ends-clause-reads
returns-then-not-ends-clause-reads c m k s =
    let p = c.args.self.now in let e = expression_of c.args.operand in let fs = frames_of c.args.frames.now.items in
    faulty p _ _ c.into.ensures (c.unexpected.ensures (Operator e fs m k) s (stops_word _ _ _ c.requires.next (paren_none e fs m k c.args.word.now c.requires.closes (collapses_ended _ _ _ _ _ (not-true _ c.if-not-ends.true) c.in_ok-ends.ensures).0)))

pub returns-in_err-advance-clause-reads : goal.returns-in_err-advance-clause-reads
returns-in_err-advance-clause-reads c m k s =
    let p = c.args.self.now in let e = expression_of c.args.operand in let fs = frames_of c.args.frames.now.items in
    let d = expression_of c.in_ok-ends.ends.operand in
    let gs = frames_of c.collapse.new.frames.items in
    exit_refused _ _ p _ c.from_residual-in_err-advance.ensures.1 (c.in_err-advance.ensures.reads (Operator e fs m k) (Operator d gs m k) (paren_some e d fs gs m k c.args.word.now c.requires.closes (collapses_opened _ _ _ _ _ (not-false _ c.if-not-ends.false) c.in_ok-ends.ensures).0) s)

pub returns-clause-reads : goal.returns-clause-reads
returns-clause-reads c m k s =
    let p = c.args.self.now in let e = expression_of c.args.operand in let fs = frames_of c.args.frames.now.items in
    let d = expression_of c.in_ok-ends.ends.operand in
    let gs = frames_of c.collapse.new.frames.items in
    c.in_ok-advance.ensures.reads (Operator e fs m k) (Operator d gs m k) (paren_some e d fs gs m k c.args.word.now c.requires.closes (collapses_opened _ _ _ _ _ (not-false _ c.if-not-ends.false) c.in_ok-ends.ensures).0) s
