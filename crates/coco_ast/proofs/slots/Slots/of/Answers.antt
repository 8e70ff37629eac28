use Rattle.std.proofs.Common.{◌≡◌, ◌+◌, List, [], ◌∷◌, ◌++◌, ℕ, ap, sym, ◌∙◌, take}
use Rattle.std.proofs.lemmas.List.{take_all, take_more}
use Rattle.coco_ast.specs.Plans.{with_names}
use Rattle.coco_ast.proofs.SlotLemmas.{param_more, with_names-on}
use Rattle.coco_ast.proofs.slots.Slots.of.Goals as goal

pub loop-name-preserved : goal.loop-name-preserved
loop-name-preserved c =
    let params = c.args.params.now in let i = c.loop-name.name-index in let x = c.name-item.result in
    let now = c.loop-name.slots in let new = c.slot.new.self in
    let front : take (i + 1) params ≡ take i params ++ x ∷ [] = take_more params i x c.loop-name-test.true ∙ ap (λ (y : List ℕ). take i params ++ y ∷ []) (sym c.name-item.is) in
    record {
      names = with_names-on [] now new (take i params) (x ∷ []) c.loop-name.invariant.names c.in_ok-slot.ensures.names ∙ ap (with_names []) (sym front);
      own = param_more params i x now new c.requires c.loop-name-test.true c.name-item.is c.loop-name.invariant.own c.in_ok-slot.ensures.names;
    }

pub returns-clause-own : goal.returns-clause-own
returns-clause-own c = c.loop-name.invariant.own ∙ take_all _ _ c.loop-name-test.false

pub returns-clause-named : goal.returns-clause-named
returns-clause-named c = c.loop-name.invariant.names ∙ ap (with_names []) (take_all _ _ c.loop-name-test.false)
