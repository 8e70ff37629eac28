use Rattle.std.proofs.Common.{List, [], ℕ, refl, ap, ◌∙◌}
use Rattle.coco_host.specs.Record.{Stored}
use Rattle.coco_host.proofs.Events.{synced_here, synced_elsewhere, synced_said, filled_content, wrote_elsewhere, said_wrote}
use Rattle.coco_host.proofs.recorded.Recorded.fill.Goals as goal

pub returns-clause-filled : goal.returns-clause-filled
returns-clause-filled c =
    synced_here c.write.new.self c.sync.new.self c.args.file c.sync.ensures
    ∙ ap (λ (l : List ℕ). (let s : Stored = record { synced = l; unsynced = [] } in s)) (filled_content c.args.self.now c.write.new.self _ c.in_ok-write.ensures.ok c.requires refl)

pub returns-clause-elsewhere : goal.returns-clause-elsewhere
returns-clause-elsewhere c = λ n far. synced_elsewhere c.write.new.self c.sync.new.self c.args.file c.sync.ensures n far ∙ wrote_elsewhere c.args.self.now c.write.new.self _ c.in_ok-write.ensures.ok n far

pub returns-clause-said : goal.returns-clause-said
returns-clause-said c = synced_said c.write.new.self c.sync.new.self c.args.file c.sync.ensures ∙ said_wrote c.args.self.now c.write.new.self _ c.in_ok-write.ensures.ok
