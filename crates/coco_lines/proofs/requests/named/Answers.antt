use Rattle.std.proofs.Common.{◌∙◌, None, Some, ap, sym, length}
use Rattle.std.specs.Option.{option_map}
use Rattle.coco_lines.proofs.FitLemmas.{number_is, params_are}
use Rattle.coco_lines.proofs.ReadingLemmas.{unknown}
use Rattle.coco_lines.proofs.requests.named.Goals as goal

pub returns-in_default-clause-number : goal.returns-in_default-clause-number
returns-in_default-clause-number c = number_is c.args.procs.now c.args.name.now None tt c.in_default.ensures.only

pub returns-in_default-clause-params : goal.returns-in_default-clause-params
returns-in_default-clause-params c = sym (ap (option_map (λ f. length f.1.params)) (unknown _ (number_is c.args.procs.now c.args.name.now None tt c.in_default.ensures.only)))

pub returns-clause-number : goal.returns-clause-number
returns-clause-number c = number_is c.args.procs.now c.args.name.now (Some c.in-Some.proc_no) c.in-Some.ensures.found c.in-Some.ensures.only

pub returns-clause-params : goal.returns-clause-params
returns-clause-params c =
    c.in-Some-params.ensures.value ∙ params_are c.args.procs.now c.args.name.now c.in-Some.proc_no (number_is c.args.procs.now c.args.name.now (Some c.in-Some.proc_no) c.in-Some.ensures.found c.in-Some.ensures.only)

pub returns-clause-few : goal.returns-clause-few
returns-clause-few c = c.in-Some-params.ensures.few
