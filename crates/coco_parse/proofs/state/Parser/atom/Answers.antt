use Rattle.coco_parse.specs.Machine.{Operand, Operator}
use Rattle.coco_ast.specs.Views.{expression_of}
use Rattle.coco_parse.proofs.Choices.{atom_some, atom_none}
use Rattle.coco_parse.proofs.Steps.{stops_word, exit_refused, faulty}
use Rattle.coco_parse.proofs.state.Parser.atom.Goals as goal

pub returns-in_default-clause-reads : goal.returns-in_default-clause-reads
returns-in_default-clause-reads c fs m k opens s =
    faulty c.args.self.now _ _ c.into.ensures (c.unexpected.ensures (Operand fs m k) s (stops_word _ _ c.args.word.now c.requires.next (atom_none fs m k c.args.word.now _ c.in_default.is c.in_ok-operand.ensures opens)))

pub returns-in_err-advance-clause-reads : goal.returns-in_err-advance-clause-reads
returns-in_err-advance-clause-reads c fs m k opens s =
    let x = c.in-Some.operand in
    exit_refused _ _ c.args.self.now _ c.from_residual-in_err-advance.ensures.1 (c.in_err-advance.ensures.reads (Operand fs m k) (Operator (expression_of x) fs m k) (atom_some fs m k c.args.word.now _ x c.in-Some.is c.in_ok-operand.ensures opens) s)

pub returns-clause-reads : goal.returns-clause-reads
returns-clause-reads c fs m k opens s =
    let x = c.in-Some.operand in
    c.in_ok-advance.ensures.reads (Operand fs m k) (Operator (expression_of x) fs m k) (atom_some fs m k c.args.word.now _ x c.in-Some.is c.in_ok-operand.ensures opens) s
