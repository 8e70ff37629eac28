use Rattle.std.proofs.Common.{◌+◌, List, map, drop, sym, ap, ◌∙◌, subst, arith}
use Rattle.std.proofs.lemmas.List.{take_all}
use Rattle.coco_ast.specs.Plans.{ArePlansOf}
use Rattle.coco_ast.specs.declared.tree.Proc.{Proc}
use Rattle.coco_ast.proofs.PlanLemmas.{plans_more}
use Rattle.coco_ast.specs.Views.{procedure_of}
use Rattle.coco_check.specs.Search.{error_before, first_of_procedures, with_name}
use Rattle.coco_check.proofs.Answering.{at_fault, front_of}
use Rattle.coco_check.proofs.checker.check_procs.Goals as goal

pub returns-in-Err-clause-error : goal.returns-in-Err-clause-error
returns-in-Err-clause-error c =
    let ts = c.args.tables.now.keys in
    let p = c.proc-item.result in
    let rest = first_of_procedures ts (with_name c.loop-proc.names.keys p.name) (c.loop-proc.item + 1) (map procedure_of (drop (c.loop-proc.proc-index + 1) c.args.procs.now)) in
    let front = front_of ts c.loop-proc.names.keys c.loop-proc.item c.args.procs.now c.loop-proc.proc-index p c.loop-proc-test.true c.proc-item.is in
    let fault = rw c.in_ok-is_new.ensures.added at c.in-Err.ensures.fault in
    rw (c.at.ensures, ← c.loop-proc.invariant.found, front) (at_fault c.loop-proc.item c.in-Err.fault _ rest fault)

pub loop-proc-preserved : goal.loop-proc-preserved
loop-proc-preserved c =
    let ts = c.args.tables.now.keys in
    let p = c.proc-item.result in
    let rest = first_of_procedures ts (with_name c.loop-proc.names.keys p.name) (c.loop-proc.item + 1) (map procedure_of (drop (c.loop-proc.proc-index + 1) c.args.procs.now)) in
    let front = front_of ts c.loop-proc.names.keys c.loop-proc.item c.args.procs.now c.loop-proc.proc-index p c.loop-proc-test.true c.proc-item.is in
    let none = rw c.in_ok-is_new.ensures.added at c.in-Ok.ensures.fault in
    record {
      item = omega (arith, c.loop-proc.invariant.item);
      found = rw c.in_ok-is_new.ensures.keys (sym (ap (λ o. error_before c.loop-proc.item o rest) none) ∙ sym front ∙ c.loop-proc.invariant.found);
      plans = plans_more c.args.procs.now c.loop-proc.proc-index p c.loop-proc.plans.items c.push_reserved.new.self.items c.in-Ok.plan c.loop-proc-test.true c.proc-item.is c.push_reserved.ensures.items
          c.loop-proc.invariant.plans c.in-Ok.ensures.plan;
      room = omega arith;
    }

pub returns-clause-plans : goal.returns-clause-plans
returns-clause-plans c =
    subst (λ (ps : List Proc). ArePlansOf (map procedure_of ps) c.loop-proc.plans.items) (take_all c.loop-proc.proc-index c.args.procs.now c.loop-proc-test.false) c.loop-proc.invariant.plans
