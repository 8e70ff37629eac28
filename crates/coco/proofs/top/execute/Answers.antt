use Rattle.std.proofs.Common.{◌≡◌, refl, sym, subst}
use Rattle.coco_commands.specs.Running.{RunsOn}
use Rattle.coco_commands.specs.Serving.{Around, Outside, RunBounds, around}
use Rattle.coco_commands.specs.Trying.{TriesOn}
use Rattle.coco_commands.specs.Workloads.{workload_of}
use Rattle.coco_words.specs.declared.Command.{Command}
use Rattle.coco.specs.Commands.{Does, bounds_of, counts_of, disturbed, seed_from}
use Rattle.coco_lines.specs.Reads.{source_moment}
use Rattle.coco.proofs.top.execute.Goals as goal

pub returns-in-Run : goal.returns-in-Run
returns-in-Run g c =
    let before : Outside = record { source = source_moment g.I.Source c.args.input.now; source_faults = g.I.Source.faults c.args.input.now; say_faults = g.H.Host.say_faults c.args.host.now; disk_faults = g.H.Host.disk_faults c.args.host.now; around = around g.N.Net g.P.Power c.args.net.now c.args.power.now } in
    let after : Outside = record { source = source_moment g.I.Source c.run.new.input; source_faults = g.I.Source.faults c.run.new.input; say_faults = g.H.Host.say_faults c.run.new.host; disk_faults = g.H.Host.disk_faults c.run.new.host; around = around g.N.Net g.P.Power c.run.new.net c.run.new.power } in
    let was : Around = around g.N.Net g.P.Power c.disturb.new.net c.args.power.now in
    let so : was ≡ (disturbed c.in-Run.options.disturb before).around = λ i. record { sent = c.disturb.ensures.sent i; given = c.disturb.ensures.given i; faults = c.disturb.ensures.faults i; seed = c.disturb.ensures.seed i; stops = was.stops; early = was.early; stopped = was.stopped; begun = was.begun; asked = was.asked } in
    subst (λ (k : Command). Does g.H.Host k c.run.result before after c.args.host.now c.run.new.host) (sym c.in-Run.is)
    (subst (λ (b : RunBounds). RunsOn g.H.Host b c.run.result (disturbed c.in-Run.options.disturb before) after c.args.host.now c.run.new.host) c.bounds_of.ensures
    (subst (λ (a : Around). RunsOn g.H.Host c.bounds_of.result c.run.result (record before { around = a }) after c.args.host.now c.run.new.host) so c.run.ensures))

pub returns-in-Try : goal.returns-in-Try
returns-in-Try g c =
    let before : Outside = record { source = source_moment g.I.Source c.args.input.now; source_faults = g.I.Source.faults c.args.input.now; say_faults = g.H.Host.say_faults c.args.host.now; disk_faults = g.H.Host.disk_faults c.args.host.now; around = around g.N.Net g.P.Power c.args.net.now c.args.power.now } in
    let after : Outside = record { source = source_moment g.I.Source c.args.input.now; source_faults = g.I.Source.faults c.args.input.now; say_faults = g.H.Host.say_faults c.try_out.new.host; disk_faults = g.H.Host.disk_faults c.try_out.new.host; around = around g.N.Net g.P.Power c.try_out.new.net c.try_out.new.power } in
    let was : Around = around g.N.Net g.P.Power c.disturb-in-Try.new.net c.args.power.now in
    let so : was ≡ (disturbed c.in-Try.options.disturb before).around = λ i. record { sent = c.disturb-in-Try.ensures.sent i; given = c.disturb-in-Try.ensures.given i; faults = c.disturb-in-Try.ensures.faults i; seed = c.disturb-in-Try.ensures.seed i; stops = was.stops; early = was.early; stopped = was.stopped; begun = was.begun; asked = was.asked } in
    subst (λ (k : Command). Does g.H.Host k c.try_out.result before after c.args.host.now c.try_out.new.host) (sym c.in-Try.is) (
      record { source = refl; faults = refl },
      subst (λ (b : RunBounds). TriesOn g.H.Host b (workload_of c.in-Try.calls c.in-Try.seed) c.try_out.result (disturbed c.in-Try.options.disturb before).around after.around (counts_of before) (counts_of after) c.args.host.now c.try_out.new.host) c.bounds_of-in-Try.ensures
          (subst (λ (a : Around). TriesOn g.H.Host c.bounds_of-in-Try.result (workload_of c.in-Try.calls c.in-Try.seed) c.try_out.result a after.around (counts_of before) (counts_of after) c.args.host.now c.try_out.new.host) so c.try_out.ensures),
    )
