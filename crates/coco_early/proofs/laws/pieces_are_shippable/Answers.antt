use Rattle.coco_parallel.specs.Traces.{execution_in}
use Rattle.coco_early.proofs.EarlyLemmas.{beginning, has_outcome}
use Rattle.coco_early.proofs.ShipLemmas.{shippable}
use Rattle.coco_early.proofs.laws.pieces_are_shippable.Goals as goal

pub returns : goal.returns
returns c s shards dones pieces trace run ring fits =
    shippable c.marks_are_own.ensures.whole c.installs_are_apart_in_time.ensures c.write_times_rise.ensures.execution c.writes_are_runs.ensures c.tail_writes_are_runs.ensures c.outcomes_are_epochs.ensures
    (beginning s) s.config.epoch (execution_in trace) dones pieces (has_outcome s shards dones pieces trace run) ring fits.partitions
