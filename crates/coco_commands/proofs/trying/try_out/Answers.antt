use Rattle.std.proofs.Common.{length, inr, subst, sym}
use Rattle.coco_cluster.specs.Around.{Around, around}
use Rattle.coco_cluster.specs.Standing.{IsSound}
use Rattle.coco_gen.specs.Workload.{workload_of}
use Rattle.coco_serve.specs.Faults.{Counts}
use Rattle.coco_try.specs.Trying.{HasCause}
use Rattle.coco_commands.proofs.trying.try_out.Goals as goal

pub try_calls-requires-clause-sound : goal.try_calls-requires-clause-sound
try_calls-requires-clause-sound g c _ _ = subst (IsSound c.in-Ok.cluster) (sym c.requires.unsent) c.in-Ok.ensures.sound

pub returns-in-Ok : goal.returns-in-Ok
returns-in-Ok g c =
    let tries = c.try_calls.ensures in
    let was : Around = around g.N.Net g.P.Power c.args.net.now c.args.power.now in
    let now : Around = around g.N.Net g.P.Power c.try_calls.new.net c.try_calls.new.power in
    let after : Counts = record { say = g.H.Host.say_faults c.try_calls.new.host; disk = g.H.Host.disk_faults c.try_calls.new.host } in
    let stream = c.in-Ok.ensures.read.stream in
    let disk = c.in-Ok.ensures.disk in
    inr (record {
      opened = c.open_cluster.new.host;
      opening = c.in-Ok.ensures.read;
      holds = c.in-Ok.ensures.holds;
      next = c.in-Ok.cluster.next_epoch;
      is_next = c.in-Ok.ensures.next;
      result = c.try_calls.result;
      ends = c.ending_of.ensures;
      later = tries.later;
      cause = subst (λ (n : Counts). HasCause c.in-Ok.cluster.next_epoch (length (workload_of c.args.load.calls c.args.load.seed)) was now n after c.try_calls.result) (λ i. record { say = stream i; disk = disk i }) tries.cause;
      tries = λ files d are good. (let both = c.in-Ok.ensures.stands files d are good in tries.tries d both.0 both.1);
    })
