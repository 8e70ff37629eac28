use Rattle.std.proofs.Common.{arith}
use Rattle.coco_parse.proofs.Counters.{expression_before, expression_more, none_operated}
use Rattle.coco_parse.proofs.Passing.{operated_passed, operated_kept}
use Rattle.coco_parse.proofs.counter.ExpressionCounter.operator.Goals as goal

pub returns-then-self-ge-MOST_OPERATORS : goal.returns-then-self-ge-MOST_OPERATORS
returns-then-self-ge-MOST_OPERATORS c ws w small o h = operated_passed _ ws w o (omega arith) (expression_more c.args.self.now ws w o c.if-self.true h)

pub returns-else-self-ge-MOST_OPERATORS : goal.returns-else-self-ge-MOST_OPERATORS
returns-else-self-ge-MOST_OPERATORS c ws w small o h =
    let on = expression_more c.args.self.now ws w o c.if-self.true h in
    (on, operated_kept _ ws w o (omega arith) on)

pub returns-else-self : goal.returns-else-self
returns-else-self c ws w small o h =
    let on = expression_before c.args.self.now ws w o c.if-self.false h in
    (on, operated_kept _ ws w o (omega (arith, none_operated c.args.self.now ws c.if-self.false h)) on)
