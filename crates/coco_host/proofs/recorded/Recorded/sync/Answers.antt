use Rattle.std.proofs.Common.{List, true, sym, refl, subst, ◌∙◌}
use Rattle.std.proofs.lemmas.List.{with_items_is}
use Rattle.coco_host.specs.Recorded.{Settles, IsRecorded}
use Rattle.coco_host.specs.declared.held.MemoryFile.{MemoryFile}
use Rattle.coco_host.proofs.Keeping.{keeps_synced, has_room}
use Rattle.coco_host.proofs.recorded.Recorded.sync.Goals as goal

pub invariant_of-self-then-settle-4 : goal.invariant_of-self-then-settle-4
invariant_of-self-then-settle-4 c =
    let now = c.settle.new.files in
    let items = with_items_is c.self.inside.files now (c.settle.auto.files ∙ c.deref_mut.ensures.len) in
    let settles = subst (λ (fs : List MemoryFile). Settles c.args.file true fs now) c.deref_mut.ensures.value (subst (λ b. Settles c.args.file b c.deref_mut.result.now now) c.if-settle.true c.settle.ensures) in
    subst (λ (fs : List MemoryFile). IsRecorded c.push.new.self fs c.self.inside.said.items) (sym items)
    (keeps_synced c.self.inside.happened c.push.new.self c.self.inside.files.items now c.self.inside.said.items c.args.file _ _
    c.self.invariant settles c.push.ensures.items c.push.ensures.capacity
    (c.push.ensures.succeeds (has_room c.self.inside.happened c.self.inside.files.items now c.self.inside.said.items c.args.file c.self.invariant settles)) refl)
