use Rattle.std.proofs.Common.{Err, inl, refl, map, ap, sym, subst}
use Rattle.std.specs.String.{string_bytes}
use Rattle.coco_words.specs.Commands.{IsOnlyCommand}
use Rattle.coco_words.specs.declared.Command.{Command}
use Rattle.coco.specs.Commands.{Does}
use Rattle.coco.proofs.EndingLemmas.{needs}
use Rattle.coco_lines.specs.Reads.{source_moment}
use Rattle.coco.proofs.top.obey.Goals as goal
use Rattle.coco_commands.specs.Serving.{Outside, around}

pub execute-requires-clause-agree : goal.execute-requires-clause-agree
execute-requires-clause-agree g c _ _ = c.in-Ok.ensures.ok.is.3

pub returns-in-Ok-clause-obeys : goal.returns-in-Ok-clause-obeys
returns-in-Ok-clause-obeys g c =
    let before : Outside = record { source = source_moment g.I.Source c.args.input.now; source_faults = g.I.Source.faults c.args.input.now; say_faults = g.H.Host.say_faults c.args.host.now; disk_faults = g.H.Host.disk_faults c.args.host.now; around = around g.N.Net g.P.Power c.args.net.now c.args.power.now } in
    let after : Outside = record { source = source_moment g.I.Source c.execute.new.input; source_faults = g.I.Source.faults c.execute.new.input; say_faults = g.H.Host.say_faults c.execute.new.host; disk_faults = g.H.Host.disk_faults c.execute.new.host; around = around g.N.Net g.P.Power c.execute.new.net c.execute.new.power } in
    record {
      command = λ command is.
          inl (subst (λ (k : Command). Does g.H.Host k c.execute.result before after c.args.host.now c.execute.new.host)
          (sym (c.in-Ok.ensures.ok.only command is)) c.execute.ensures);
      only = needs c.execute.result ((command : Command) × IsOnlyCommand (map string_bytes c.args.words.now) command) (c.in-Ok.command, c.in-Ok.ensures.ok);
      none = λ none. absurd (none c.in-Ok.command c.in-Ok.ensures.ok.is);
    }

pub returns-in-Err-Usage-clause-obeys : goal.returns-in-Err-Usage-clause-obeys
returns-in-Err-Usage-clause-obeys g c = record { command = λ command is. absurd (c.in-Err-Usage.ensures.usage (ap Err c.in-Err-Usage.field-0-is) command is); only = tt; none = λ none. (refl, refl) }
