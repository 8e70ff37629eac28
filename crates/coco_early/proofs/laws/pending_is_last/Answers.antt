use Rattle.std.proofs.Common.{refl, length}
use Rattle.coco_parallel.specs.Traces.{execution_in}
use Rattle.coco_ship.specs.declared.ring.Ring.{Ring}
use Rattle.coco_early.proofs.EarlyLemmas.{beginning, has_outcome}
use Rattle.coco_early.proofs.LastLemmas.{last_of_all, last_of_held, none_elsewhere}
use Rattle.coco_early.proofs.ShipLemmas.{at_home, rise}
use Rattle.coco_early.proofs.laws.pending_is_last.Goals as goal

pub returns : goal.returns
returns c s shards dones pieces trace run p table has =
    let ring : Ring = record { nodes = s.config.nodes; partitions = length s.shards; copies = s.config.copies } in
    let fit = c.pieces_are_shippable.ensures s shards dones pieces trace run ring (record { partitions = refl; copies = refl }) in
    let out = has_outcome s shards dones pieces trace run in
    let rises = rise c.outcomes_are_epochs.ensures (beginning s) s.config.epoch (execution_in trace) dones pieces out in
    let home = at_home c.outcomes_are_epochs.ensures (beginning s) s.config.epoch (execution_in trace) dones pieces out in
    record {
      last = last_of_all ring s.config.epoch (length s.shards) pieces fit rises home p table has;
      held = last_of_held ring s.config.epoch (length s.shards) pieces fit rises home p table has;
      elsewhere = none_elsewhere ring s.config.epoch (length s.shards) pieces fit rises home p table has;
    }
