use Rattle.std.proofs.Common.{inr, sym, subst}
use Rattle.coco_cluster.specs.Around.{Around, around}
use Rattle.coco_cluster.specs.Standing.{IsSound}
use Rattle.coco_serve.specs.Serving.{Outside}
use Rattle.coco_commands.proofs.RunLemmas.{cause_from}
use Rattle.coco_lines.specs.Reads.{source_moment}
use Rattle.coco_commands.proofs.running.run.Goals as goal

pub answer_lines-requires-clause-sound : goal.answer_lines-requires-clause-sound
answer_lines-requires-clause-sound g c _ _ = subst (IsSound c.in-Ok.cluster) (sym c.requires.unsent) c.in-Ok.ensures.sound

pub returns-in-Ok : goal.returns-in-Ok
returns-in-Ok g c =
    let runs = c.answer_lines.ensures in
    let since : Around = around g.N.Net g.P.Power c.args.net.now c.args.power.now in
    let after : Outside = record {
      source = source_moment g.S.Source c.answer_lines.new.input;
      source_faults = g.S.Source.faults c.answer_lines.new.input;
      say_faults = g.H.Host.say_faults c.answer_lines.new.host;
      disk_faults = g.H.Host.disk_faults c.answer_lines.new.host;
      around = around g.N.Net g.P.Power c.answer_lines.new.net c.answer_lines.new.power;
    } in
    inr (record {
      opened = c.open_cluster.new.host;
      opening = c.in-Ok.ensures.read;
      holds = c.in-Ok.ensures.holds;
      bytes = runs.bytes;
      gives = runs.gives;
      next = c.in-Ok.cluster.next_epoch;
      is_next = c.in-Ok.ensures.next;
      served = c.answer_lines.result;
      ends = c.ending_of.ensures;
      later = runs.later;
      cause = cause_from c.in-Ok.cluster.next_epoch runs.bytes (source_moment g.S.Source c.args.input.now) (g.S.Source.faults c.args.input.now)
          (g.H.Host.say_faults c.args.host.now) (g.H.Host.disk_faults c.args.host.now) (g.H.Host.say_faults c.open_cluster.new.host) (g.H.Host.disk_faults c.open_cluster.new.host) since after c.answer_lines.result c.in-Ok.ensures.read.stream c.in-Ok.ensures.disk runs.cause;
      serves = λ files d are good. (let both = c.in-Ok.ensures.stands files d are good in runs.serves d both.0 both.1);
    })
