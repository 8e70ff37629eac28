use Rattle.std.proofs.Common.{arith}
use Rattle.coco_ast.proofs.PlanLemmas.{reads-variable, reads-not, reads-negate, reads-two, adds_two}
use Rattle.coco_ast.proofs.TermLemmas.{stands_there}
use Rattle.coco_ast.specs.Views.{expression_of}
use Rattle.coco_ast.proofs.planning.+terms.Goals as goal

pub term_of-returns-clause-stands : goal.term_of-returns-clause-stands
term_of-returns-clause-stands t c =
    let terms = c.next_term.new.terms in
    stands_there c.next_term.new.slots terms.items c.push.new.self.items c.in_ok-term.term c.len-place.result (expression_of c.args.expr.now) c.in_ok-push.ensures.items
    (omega (arith, terms.ok.0)) c.in_ok-term.ensures.reads

pub next_term-returns-in_ok-slot-in-Var-clause-reads : goal.next_term-returns-in_ok-slot-in-Var-clause-reads
next_term-returns-in_ok-slot-in-Var-clause-reads t c =
    reads-variable c.args.slots.now c.slot.new.self c.args.terms.now.items c.in-Var.name c.in_ok-slot-in-Var.slot c.args.expr.now c.in-Var.is c.in_ok-slot-in-Var.ensures.names c.in_ok-slot-in-Var.ensures.slot

pub next_term-returns-in_ok-operand-in-Not-clause-reads : goal.next_term-returns-in_ok-operand-in-Not-clause-reads
next_term-returns-in_ok-operand-in-Not-clause-reads t c =
    reads-not c.term_of.new.slots c.term_of.new.terms.items c.in_ok-operand-in-Not.operand c.in-Not.operand c.args.expr.now c.in-Not.is (rw c.deref.ensures at c.in_ok-operand-in-Not.ensures.stands)

pub next_term-returns-in_ok-operand-in-Negate-clause-reads : goal.next_term-returns-in_ok-operand-in-Negate-clause-reads
next_term-returns-in_ok-operand-in-Negate-clause-reads t c =
    reads-negate c.term_of-in-Negate.new.slots c.term_of-in-Negate.new.terms.items c.in_ok-operand-in-Negate.operand c.in-Negate.operand c.args.expr.now c.in-Negate.is
    (rw c.deref-in-Negate.ensures at c.in_ok-operand-in-Negate.ensures.stands)

pub next_term-returns-in_ok-right-in-Two-clause-reads : goal.next_term-returns-in_ok-right-in-Two-clause-reads
next_term-returns-in_ok-right-in-Two-clause-reads t c =
    reads-two c.term_of-in-Two.new.slots c.term_of-in-Two-2.new.slots c.term_of-in-Two.new.terms.items c.term_of-in-Two-2.new.terms.items c.in-Two.op c.in_ok-left-in-Two.left c.in_ok-right-in-Two.right
    c.in-Two.left c.in-Two.right c.args.expr.now c.in-Two.is c.in_ok-right-in-Two.ensures.adds
    (rw c.deref-in-Two.ensures at c.in_ok-left-in-Two.ensures.stands) (rw c.deref-in-Two-2.ensures at c.in_ok-right-in-Two.ensures.stands)

pub next_term-returns-in_ok-right-in-Two-clause-adds : goal.next_term-returns-in_ok-right-in-Two-clause-adds
next_term-returns-in_ok-right-in-Two-clause-adds t c =
    adds_two c.in-Two.op c.in-Two.left c.in-Two.right c.args.expr.now c.in-Two.is (rw c.deref-in-Two.ensures at c.in_ok-left-in-Two.ensures.adds) (rw c.deref-in-Two-2.ensures at c.in_ok-right-in-Two.ensures.adds)
