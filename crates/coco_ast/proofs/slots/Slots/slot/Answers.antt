use Rattle.std.proofs.Common.{◌∙◌, sym}
use Rattle.coco_ast.proofs.SlotLemmas.{place_absent}
use Rattle.coco_ast.proofs.slots.Slots.slot.Goals as goal

pub returns-in-None-clause-slot : goal.returns-in-None-clause-slot
returns-in-None-clause-slot c =
    let none = place_absent c.args.self.now c.args.name.now (sym c.found.ensures ∙ c.in-None.is) in
    rw none c.add.ensures.slot
