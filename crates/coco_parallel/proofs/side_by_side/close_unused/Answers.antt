use Rattle.std.proofs.Common.{refl}
use Rattle.coco_shard.specs.Table.{after_ask, answer_in}
use Rattle.coco_parallel.proofs.KeepingLemmas.{all_back, by_machines, keep_values}
use Rattle.coco_parallel.proofs.side_by_side.close_unused.Goals as goal

pub closed-requires : goal.closed-requires
closed-requires c = all_back c.requires.1 c.args.rows (record { count = refl; same = λ n d lt. refl })

pub returns : goal.returns
returns c = λ machines dealt settled.
    keep_values c.closed_journals_are_lawful.ensures.lawful dealt (record { count = refl; same = λ n d lt. refl }) c.requires.2 settled (by_machines answer_in after_ask c.args.desk.locks dealt refl c.closed.ensures)
