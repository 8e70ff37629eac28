use Rattle.std.proofs.Common.{ap, ◌∙◌}
use Rattle.std.specs.FinMap.{insert}
use Rattle.coco_serial.specs.Applied.{Applied}
use Rattle.coco_serial.proofs.RowLemmas.{hash_put}
use Rattle.coco_serial.proofs.RunningLemmas.{applied_same}
use Rattle.coco_serial.proofs.executor.Executor.load.Goals as goal

pub returns-clause-ok : goal.returns-clause-ok
returns-clause-ok c = applied_same _ _ _ _
    (hash_put c.self.inside.rows.entries c.insert.new.self.entries c.args.key c.args.value c.in_ok-insert.ensures.updates.0 ∙ ap (λ (a : Applied). insert a.rows c.args.key c.args.value) c.self.view_is)
    (ap (λ (a : Applied). a.writes) c.self.view_is)
