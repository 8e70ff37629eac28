use Rattle.std.proofs.Common.{arith}
use Rattle.coco_parse.proofs.Counters.{procedure_named, named_after, none_named}
use Rattle.coco_parse.proofs.Passing.{named_passed, named_kept}
use Rattle.coco_parse.proofs.counter.ProcedureCounter.name.Goals as goal

pub returns-then-self-gt-MOST_ARGUMENTS : goal.returns-then-self-gt-MOST_ARGUMENTS
returns-then-self-gt-MOST_ARGUMENTS c ws w small n h = named_passed _ ws w n (omega arith) (procedure_named c.args.self.now ws w n c.if-self.true h)

pub returns-else-self-gt-MOST_ARGUMENTS : goal.returns-else-self-gt-MOST_ARGUMENTS
returns-else-self-gt-MOST_ARGUMENTS c ws w small n h =
    let on = procedure_named c.args.self.now ws w n c.if-self.true h in
    (on, named_kept _ ws w n (omega arith) on)

pub returns-else-self : goal.returns-else-self
returns-else-self c ws w small n h =
    let on = named_after c.args.self.now ws w n c.if-self.false h in
    (on, named_kept _ ws w n (omega (arith, none_named c.args.self.now ws c.if-self.false h)) on)
