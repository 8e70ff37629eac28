use Rattle.std.proofs.Common.{length, refl, subst, ◌∙◌}
use Rattle.std.specs.Prelude.{IfOk}
use Rattle.std.specs.Vec.{with_items}
use Rattle.std.proofs.lemmas.List.{with_items_is}
use Rattle.coco_lost.specs.Stopping.{AsksFirst}
use Rattle.coco_members.specs.declared.members.Members.{Members}
use Rattle.coco_cluster.proofs.StopLemmas.{given_back, stop_goes, stop_logs, stop_nodes, stop_none, stop_quiet, stop_whole}
use Rattle.coco_cluster.proofs.deciding.one_stops.Goals as goal

pub returns-clause-quiet : goal.returns-clause-quiet
returns-clause-quiet g c =
    let k : Members = c.args.members.now in
    stop_quiet c.stop_early.result c.args.epoch k (record k { cores = with_items k.cores c.stop_early.new.cores; voters = with_items k.voters c.stop_early.new.voters }) (g.P.Power.stopped c.args.power.now) (g.P.Power.stopped c.stop_early.new.power) refl
    c.as_mut_slice.result.now c.stop_early.new.cores c.as_mut_slice-2.result.now c.stop_early.new.voters c.as_mut_slice.ensures.value c.as_mut_slice-2.ensures.value
    (with_items_is k.cores c.stop_early.new.cores (c.stop_early.auto.cores ∙ c.as_mut_slice.ensures.len)) (with_items_is k.voters c.stop_early.new.voters (c.stop_early.auto.voters ∙ c.as_mut_slice-2.ensures.len))
    c.stop_early.ensures.stops c.stop_early.ensures.next c.stop_early.ensures.can

pub returns-clause-none : goal.returns-clause-none
returns-clause-none g c =
    let k : Members = c.args.members.now in
    stop_none c.stop_early.result c.args.epoch k (record k { cores = with_items k.cores c.stop_early.new.cores; voters = with_items k.voters c.stop_early.new.voters }) (g.P.Power.stopped c.args.power.now) (g.P.Power.stopped c.stop_early.new.power) refl
    c.as_mut_slice.result.now c.stop_early.new.cores c.as_mut_slice-2.result.now c.stop_early.new.voters c.as_mut_slice.ensures.value c.as_mut_slice-2.ensures.value
    (with_items_is k.cores c.stop_early.new.cores (c.stop_early.auto.cores ∙ c.as_mut_slice.ensures.len)) (with_items_is k.voters c.stop_early.new.voters (c.stop_early.auto.voters ∙ c.as_mut_slice-2.ensures.len))
    c.stop_early.ensures.stops (given_back k c.stop_early.new.cores c.stop_early.new.voters)

pub returns-clause-logs : goal.returns-clause-logs
returns-clause-logs g c =
    let k : Members = c.args.members.now in
    stop_logs c.stop_early.result c.args.epoch k (record k { cores = with_items k.cores c.stop_early.new.cores; voters = with_items k.voters c.stop_early.new.voters }) (g.P.Power.stopped c.args.power.now) (g.P.Power.stopped c.stop_early.new.power) refl
    c.as_mut_slice.result.now c.stop_early.new.cores c.as_mut_slice-2.result.now c.stop_early.new.voters c.as_mut_slice.ensures.value c.as_mut_slice-2.ensures.value
    (with_items_is k.cores c.stop_early.new.cores (c.stop_early.auto.cores ∙ c.as_mut_slice.ensures.len)) (with_items_is k.voters c.stop_early.new.voters (c.stop_early.auto.voters ∙ c.as_mut_slice-2.ensures.len))
    c.stop_early.ensures.stops

pub returns-clause-whole : goal.returns-clause-whole
returns-clause-whole g c =
    let k : Members = c.args.members.now in
    stop_whole c.stop_early.result c.args.epoch k (record k { cores = with_items k.cores c.stop_early.new.cores; voters = with_items k.voters c.stop_early.new.voters }) (g.P.Power.stopped c.args.power.now) (g.P.Power.stopped c.stop_early.new.power) refl
    c.as_mut_slice.result.now c.stop_early.new.cores c.as_mut_slice-2.result.now c.stop_early.new.voters c.as_mut_slice.ensures.value c.as_mut_slice-2.ensures.value
    (with_items_is k.cores c.stop_early.new.cores (c.stop_early.auto.cores ∙ c.as_mut_slice.ensures.len)) (with_items_is k.voters c.stop_early.new.voters (c.stop_early.auto.voters ∙ c.as_mut_slice-2.ensures.len))
    c.stop_early.ensures.stops
    (g.P.Power.stops_seen c.args.power.now) (g.P.Power.early_stops c.args.power.now) (g.P.Power.stops_seen c.stop_early.new.power) (g.P.Power.early_stops c.stop_early.new.power) c.stop_early.ensures.counts.seen_rises c.stop_early.ensures.told

pub returns-clause-world : goal.returns-clause-world
returns-clause-world g c =
    let k : Members = c.args.members.now in
    stop_goes c.stop_early.result c.args.epoch k (record k { cores = with_items k.cores c.stop_early.new.cores; voters = with_items k.voters c.stop_early.new.voters }) (g.P.Power.stopped c.args.power.now) (g.P.Power.stopped c.stop_early.new.power) refl
    c.as_mut_slice.result.now c.stop_early.new.cores c.as_mut_slice-2.result.now c.stop_early.new.voters c.as_mut_slice.ensures.value c.as_mut_slice-2.ensures.value
    (with_items_is k.cores c.stop_early.new.cores (c.stop_early.auto.cores ∙ c.as_mut_slice.ensures.len)) (with_items_is k.voters c.stop_early.new.voters (c.stop_early.auto.voters ∙ c.as_mut_slice-2.ensures.len))
    c.stop_early.ensures.stops c.stop_early.ensures.world

pub returns-clause-nodes : goal.returns-clause-nodes
returns-clause-nodes g c =
    let k : Members = c.args.members.now in
    stop_nodes c.stop_early.result c.args.epoch k (record k { cores = with_items k.cores c.stop_early.new.cores; voters = with_items k.voters c.stop_early.new.voters }) (g.P.Power.stopped c.args.power.now) (g.P.Power.stopped c.stop_early.new.power) refl
    c.as_mut_slice.result.now c.stop_early.new.cores c.as_mut_slice-2.result.now c.stop_early.new.voters c.as_mut_slice.ensures.value c.as_mut_slice-2.ensures.value
    (with_items_is k.cores c.stop_early.new.cores (c.stop_early.auto.cores ∙ c.as_mut_slice.ensures.len)) (with_items_is k.voters c.stop_early.new.voters (c.stop_early.auto.voters ∙ c.as_mut_slice-2.ensures.len))
    c.stop_early.ensures.stops c.stop_early.auto.cores

pub returns-clause-asked : goal.returns-clause-asked
returns-clause-asked g c =
    subst (λ cores. IfOk c.stop_early.result (λ stops. AsksFirst stops c.args.point (length cores) (g.P.Power.stopped c.args.power.now) (g.P.Power.stopped c.stop_early.new.power) (g.P.Power.asked c.args.power.now) (g.P.Power.asked c.stop_early.new.power)))
    c.as_mut_slice.ensures.value c.stop_early.ensures.asked
