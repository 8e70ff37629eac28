use Rattle.coco_ast.specs.Views.{expression_of}
use Rattle.coco_parse.specs.Machine.{Operator, Operand}
use Rattle.coco_parse.specs.Steps.{frames_of}
use Rattle.coco_parse.proofs.Choices.{follows_some, follows_none, operator_some, operator_none}
use Rattle.coco_parse.proofs.Steps.{stops_word, exit_refused, faulty}
use Rattle.coco_parse.proofs.state.Parser.behind_operator.Goals as goal

pub returns-then-not-follows-clause-reads : goal.returns-then-not-follows-clause-reads
returns-then-not-follows-clause-reads c m k s =
    let p = c.args.self.now in let e = expression_of c.args.operand in let fs = frames_of c.args.frames.now.items in
    faulty p _ _ c.into.ensures (c.unexpected.ensures (Operator e fs m k) s (stops_word _ _ _ c.requires (operator_none e fs m k c.args.op (follows_none _ _ _ c.if-not-follows.true c.in_ok-follows.ensures))))

pub returns-in_err-advance-clause-reads : goal.returns-in_err-advance-clause-reads
returns-in_err-advance-clause-reads c m k s =
    let p = c.args.self.now in let e = expression_of c.args.operand in let fs = frames_of c.args.frames.now.items in
    let gs = frames_of c.operate.new.frames.items in
    exit_refused _ _ p _ c.from_residual-in_err-advance.ensures.1 (c.in_err-advance.ensures.reads (Operator e fs m k) (Operand gs m k) (operator_some e fs gs m k c.args.op (follows_some _ _ _ c.if-not-follows.false c.in_ok-follows.ensures)) s)

pub returns-clause-reads : goal.returns-clause-reads
returns-clause-reads c m k s =
    let p = c.args.self.now in let e = expression_of c.args.operand in let fs = frames_of c.args.frames.now.items in
    let gs = frames_of c.operate.new.frames.items in
    c.operand.ensures.reads m k (c.in_ok-advance.ensures.reads (Operator e fs m k) (Operand gs m k) (operator_some e fs gs m k c.args.op (follows_some _ _ _ c.if-not-follows.false c.in_ok-follows.ensures)) s)
