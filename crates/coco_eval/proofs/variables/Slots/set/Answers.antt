use Rattle.std.proofs.Common.{ap, ◌∙◌}
use Rattle.coco_eval.specs.Lending.{datum_of}
use Rattle.coco_eval.specs.Slots.{names_in}
use Rattle.coco_eval.proofs.SlotLemmas.{names_set, set_slot, set_nothing}
use Rattle.coco_eval.proofs.variables.Slots.set.Goals as goal

pub returns-then-slot-self-clause-value : goal.returns-then-slot-self-clause-value
returns-then-slot-self-clause-value c = set_slot c.self.inside.names.value c.self.inside.values.items c.self.inside.used c.args.self.now c.self.invariant c.self.view_is c.args.slot c.store.new.self (datum_of c.args.value.now) c.if-slot-self.true c.store.ensures

pub returns-then-slot-self-clause-names : goal.returns-then-slot-self-clause-names
returns-then-slot-self-clause-names c =
    ap names_in (set_slot c.self.inside.names.value c.self.inside.values.items c.self.inside.used c.args.self.now c.self.invariant c.self.view_is c.args.slot c.store.new.self (datum_of c.args.value.now) c.if-slot-self.true c.store.ensures)
    ∙ names_set c.args.self.now _ _

pub returns-else-slot-self-clause-value : goal.returns-else-slot-self-clause-value
returns-else-slot-self-clause-value c =
    set_nothing c.self.inside.names.value c.self.inside.values.items c.self.inside.used c.args.self.now c.self.invariant c.self.view_is c.args.slot (datum_of c.args.value.now) c.if-slot-self.false
