use Rattle.std.proofs.Common.{◌≡◌, List, [], ℕ, ap, sym, ◌∙◌, subst}
use Rattle.coco_ast.specs.Planning.{IsLonger, AreStepsOf, HasOwnNames, names_throughout}
use Rattle.coco_ast.specs.Plans.{names_of, with_names}
use Rattle.coco_ast.specs.Views.{procedure_of, statements_of}
use Rattle.coco_ast.proofs.PlanLemmas.{adds_longer, plan_made}
use Rattle.coco_ast.proofs.SlotLemmas.{with_names-on}
use Rattle.coco_check.proofs.procedure.check_body.Goals as goal

pub of-requires : goal.of-requires
of-requires c = subst HasOwnNames (sym c.as_slice.ensures) c.requires.own

pub returns-clause-plan : goal.returns-clause-plan
returns-clause-plan c =
    let p = c.args.proc.now in let body = statements_of p.body.items in let steps = c.in_ok-steps.steps in
    let new = c.check_block.new.draft in let names = c.into_names.result in
    let same : names ≡ new.slots = c.into_names.ensures.value in
    let adds = rw c.deref.ensures.value at c.in_ok-steps.ensures.adds in
    let longer : IsLonger p.params names = subst (λ (ns : List (List ℕ)). IsLonger ns names) (c.in_ok-slots.ensures.own ∙ c.as_slice.ensures) (subst (IsLonger c.in_ok-slots.slots) (sym same) (adds_longer adds)) in
    let found : names ≡ names_of (procedure_of p) =
    same ∙ with_names-on [] c.in_ok-slots.slots new.slots p.params (names_throughout body) (c.in_ok-slots.ensures.named ∙ ap (with_names []) c.as_slice.ensures) adds.named in
    plan_made (procedure_of p) (record { names = names; terms = new.terms; steps = steps; depth = c.args.deep }) longer
    (subst (λ (ns : List (List ℕ)). AreStepsOf ns new.terms.items body steps.items) (sym same) (rw c.deref.ensures.value at c.in_ok-steps.ensures.steps))
    c.into_names.ensures.slots c.requires.deep found
