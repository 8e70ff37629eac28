use Rattle.std.proofs.Common.{arith}
use Rattle.coco_ast.proofs.SlotLemmas.{indexed_more}
use Rattle.coco_ast.proofs.slots.Slots.add.Goals as goal

pub invariant_of-self-in-Ok : goal.invariant_of-self-in-Ok
invariant_of-self-in-Ok c =
    let names = c.self.inside.names in
    rw c.in_ok-push.ensures.items (indexed_more names.items c.args.name c.len-slot.result c.self.inside.numbers c.insert.new.self c.self.invariant (rw c.self.view_is c.requires.new) c.requires.word
    (omega (arith, names.ok.0)) c.in-Ok.ensures.updates)
