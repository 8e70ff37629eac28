use Rattle.std.proofs.Common.{List, ◌++◌, sym, ap, ◌∙◌, subst}
use Rattle.std.proofs.lemmas.Result.{err_from_is_err_and}
use Rattle.coco_ast.specs.Plans.{ArePlansOf}
use Rattle.coco_ast.specs.Tree.{Procedure, Procedures}
use Rattle.coco_ast.specs.Views.{procedures_of}
use Rattle.coco_check.proofs.Answering.{found_none, no_other_error, no_other_fault, plans_append, refused_first}
use Rattle.coco_check.proofs.checker.check.Goals as goal

pub returns-in_err-more-clause-refused : goal.returns-in_err-more-clause-refused
returns-in_err-more-clause-refused c =
    let p = err_from_is_err_and c.from_residual-in_err-more.result c.from_residual-in_err-more.ensures.1 in
    rw (p.1, p.2) (refused_first (procedures_of c.args.procs) c.in_err-more.field-0.0 c.in_err-more.ensures.error)

pub returns-in_err-more-clause-only_accepted : goal.returns-in_err-more-clause-only_accepted
returns-in_err-more-clause-only_accepted c =
    let p = err_from_is_err_and c.from_residual-in_err-more.result c.from_residual-in_err-more.ensures.1 in
    λ none. rw (p.1, p.2) (no_other_fault (procedures_of c.args.procs) c.in_err-more.field-0.0 c.in_err-more.ensures.error none)

pub returns-in_err-more-clause-only_refused : goal.returns-in_err-more-clause-only_refused
returns-in_err-more-clause-only_refused c =
    let p = err_from_is_err_and c.from_residual-in_err-more.result c.from_residual-in_err-more.ensures.1 in
    λ e first. rw (p.1, p.2) (no_other_error (procedures_of c.args.procs) c.in_err-more.field-0.0 c.in_err-more.ensures.error e first)

pub of-requires-clause-accepted : goal.of-requires-clause-accepted
of-requires-clause-accepted c =
    let t = procedures_of c.args.procs in
    let behind : Procedures → Procedures = λ u. record { tables = u.tables ++ t.tables; procs = u.procs ++ t.procs } in
    record {
      text = t;
      whole = c.in_ok-tree.ensures ∙ ap behind c.in_ok-first.ensures;
      sound = found_none t c.in_ok-more.ensures.error;
      limits = c.requires.limits;
    }

pub of-requires-clause-plans : goal.of-requires-clause-plans
of-requires-clause-plans c =
    let t = procedures_of c.args.procs in let first = procedures_of c.in_ok-first.first in
    let built = subst (λ (u : Procedures). ArePlansOf u.procs c.in_ok-plans.plans.items) (sym c.in_ok-first.ensures) c.in_ok-plans.ensures in
    let whole = plans_append first.procs t.procs c.in_ok-plans.plans.items c.in_ok-more.more.items built c.in_ok-more.ensures.plans in
    subst (λ (ps : List Procedure). ArePlansOf ps c.append.new.self.items) (sym (ap (λ (u : Procedures). u.procs) c.in_ok-tree.ensures))
    (subst (ArePlansOf (first.procs ++ t.procs)) (sym c.in_ok-append.ensures.items) whole)

pub returns-clause-sound : goal.returns-clause-sound
returns-clause-sound c = found_none (procedures_of c.args.procs) c.in_ok-more.ensures.error

pub returns-clause-only_refused : goal.returns-clause-only_refused
returns-clause-only_refused c = λ e first. found_none (procedures_of c.args.procs) c.in_ok-more.ensures.error e first.holds
