use Rattle.std.proofs.Common.{arith}
use Rattle.coco_load.proofs.Writes.{all_written, none_written, one_more_written}
use Rattle.coco_load.proofs.tables.Tables.load_everywhere.Goals as goal

pub loop-behind-init : goal.loop-behind-init
loop-behind-init c = record { tables = c.requires; hold = λ m held. none_written c.args.layout.now c.args.key c.args.value.now m c.args.self.now.shards.items c.args.self.now.copies.items held }

pub loop-behind-preserved : goal.loop-behind-preserved
loop-behind-preserved c = record {
  tables = c.in_ok-load_at.ensures.tables;
  hold = λ m held. one_more_written c.args.layout.now c.args.key c.args.value.now m _ _ c.loop-behind.behind (c.in_ok-load_at.ensures.ok _ (c.loop-behind.invariant.hold m held));
}

pub returns-clause-ok : goal.returns-clause-ok
returns-clause-ok c m held = all_written c.args.layout.now c.args.key c.args.value.now m _ _ c.loop-behind.behind (omega arith) (c.loop-behind.invariant.hold m held)
