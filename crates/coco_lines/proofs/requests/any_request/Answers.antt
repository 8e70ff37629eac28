use Rattle.std.proofs.Common.{◌≡◌, ◌∙◌, sym, Some, Err, ap}
use Rattle.std.proofs.lemmas.Result.{IfOk-weaker, err_from_is_err_and}
use Rattle.coco_lines.specs.declared.error.RequestFault.TheVariants.{Line}
use Rattle.coco_lines.specs.Reading.{request_in, first_that_fits, asking_tests}
use Rattle.coco_lines.proofs.requests.any_request.Goals as goal

pub returns-in_err-value-clause-line : goal.returns-in_err-value-clause-line
returns-in_err-value-clause-line c = λ e is.
    let p = err_from_is_err_and c.from_residual.result c.from_residual.ensures.1 in
    let same : c.in_err-value.field-0.0 ≡ Line e = cc (p.1, p.2) in
    let refused = c.in_err-value.ensures.line e (ap Err same) in
    ap (λ v. first_that_fits (asking_tests c.args.procs.now v)) refused.1 ∙ ap Some (sym refused.0)

pub returns-clause-ok : goal.returns-clause-ok
returns-clause-ok c = IfOk-weaker c.request_of.result _ _ (λ request is. ap (request_in c.args.procs.now) c.in_ok-value.ensures.ok ∙ is) c.request_of.ensures.ok

pub returns-clause-line : goal.returns-clause-line
returns-clause-line c = λ e is. ap (λ v. first_that_fits (asking_tests c.args.procs.now v)) c.in_ok-value.ensures.ok ∙ c.request_of.ensures.line e is
