use Rattle.std.proofs.Common.{◌∙◌}
use Rattle.coco_eval.proofs.SlotLemmas.{read_slot, no_slot}
use Rattle.coco_eval.proofs.variables.Slots.at.Goals as goal

pub returns-then-slot-self : goal.returns-then-slot-self
returns-then-slot-self c =
    c.lend.ensures ∙ read_slot c.self.inside.names.value c.self.inside.values.items c.self.inside.used c.args.self.now c.self.invariant c.self.view_is c.args.slot c.index.result.now c.if-slot-self.true c.index.ensures

pub returns-else-slot-self : goal.returns-else-slot-self
returns-else-slot-self c = no_slot c.self.inside.names.value c.self.inside.values.items c.self.inside.used c.args.self.now c.self.invariant c.self.view_is c.args.slot c.if-slot-self.false
