use Rattle.std.proofs.Common.{sym, subst, arith}
use Rattle.coco_ast.specs.Views.{expression_of}
use Rattle.coco_parse.specs.Machine.{Operand, Operator}
use Rattle.coco_parse.specs.Steps.{Stands, frames_of, mark_of}
use Rattle.coco_parse.proofs.Steps.{stops_end, exit_same, faulty}
use Rattle.coco_parse.proofs.state.Parser.expression.Goals as goal

pub returns-in_err-operand-clause-reads : goal.returns-in_err-operand-clause-reads
returns-in_err-operand-clause-reads c k s =
    let m = mark_of c.args.end in
    let here = subst (λ fs. Stands c.args.self.now c.args.cursor.now (Operand (frames_of fs) m k)) (sym c.new-frames.ensures.items) s in
    exit_same _ _ _ _ c.from_residual.ensures.1 (c.in_err-operand.ensures.reads m k here)

pub loop-word-init : goal.loop-word-init
loop-word-init c = record {
  onward = c.in_ok-operand.ensures.onward;
  reads = λ k s.
      let m = mark_of c.args.end in
      c.in_ok-operand.ensures.reads m k (subst (λ fs. Stands c.args.self.now c.args.cursor.now (Operand (frames_of fs) m k)) (sym c.new-frames.ensures.items) s);
}

pub returns-in_default-clause-reads : goal.returns-in_default-clause-reads
returns-in_default-clause-reads c k s =
    let e = expression_of c.loop-word.operand in let fs = frames_of c.loop-word.frames.items in
    faulty c.args.self.now _ _ c.into.ensures (c.unexpected.ensures (Operator e fs (mark_of c.args.end) k) (c.loop-word.invariant.reads k s) (stops_end _ _ (sym c.in_default.ensures.word) (λ i. cc i.2)))

pub returns-in_err-operand-2-clause-reads : goal.returns-in_err-operand-2-clause-reads
returns-in_err-operand-2-clause-reads c k s = exit_same _ _ _ _ c.from_residual-in_err-operand-2.ensures.1 (c.in_err-operand-2.ensures.reads (mark_of c.args.end) k (c.loop-word.invariant.reads k s))

pub loop-word-preserved-in-Some-operator : goal.loop-word-preserved-in-Some-operator
loop-word-preserved-in-Some-operator c = record {
  onward = let h = c.loop-word.invariant.onward in let i = c.in_ok-operand-2.ensures.onward in omega arith;
  reads = λ k s. c.in_ok-operand-2.ensures.reads (mark_of c.args.end) k (c.loop-word.invariant.reads k s);
}

pub returns-in_err-operand-3-clause-reads : goal.returns-in_err-operand-3-clause-reads
returns-in_err-operand-3-clause-reads c k s = exit_same _ _ _ _ c.from_residual-in_err-operand-3.ensures.1 (c.in_err-operand-3.ensures.reads (mark_of c.args.end) k (c.loop-word.invariant.reads k s))

pub loop-word-preserved : goal.loop-word-preserved
loop-word-preserved c = record {
  onward = let h = c.loop-word.invariant.onward in let i = c.in_ok-operand-3.ensures.onward in omega arith;
  reads = λ k s. c.in_ok-operand-3.ensures.reads (mark_of c.args.end) k (c.loop-word.invariant.reads k s);
}

pub returns-else-closes_list-clause-reads : goal.returns-else-closes_list-clause-reads
returns-else-closes_list-clause-reads c k s = c.behind_whole.ensures.reads k (c.loop-word.invariant.reads k s)
